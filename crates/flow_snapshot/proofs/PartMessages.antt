-- The messages of a sealed segment's octets.
use Rattle.std.proofs.Common.{◌≡◌, ℕ, zero, suc, ◌<◌, List, [], ◌∷◌, ◌++◌, length, take, drop, refl, sym, ap}
use Rattle.std.proofs.Common.{◌∙◌, append-nil, arith}
use Rattle.std.specs.List.{AllByRecursion}
use Rattle.std.proofs.lemmas.List.{take-append-drop}
use Rattle.std.proofs.Math.Seq.{drop-append_seam, take-append_seam}
use Rattle.flow_codec.specs.Cutting.{length_of, IsCutOff}
use Rattle.flow_codec.specs.Message.{joined}
use Rattle.flow_codec.proofs.Dividing.{length_of-append}
use Rattle.flow_segment.specs.Segment.{AreMessagesOf}
use Rattle.flow_snapshot.specs.Files.{cut_into}

pub cut_count : (n : ℕ) (octets : List ℕ) → length (cut_into n octets) ≡ n
cut_count zero octets = refl
cut_count (suc zero) octets = refl
cut_count (suc (suc n)) octets = ap suc (cut_count (suc n) (drop (length_of octets) octets))

-- messages that fill octets are those that these are cut into
pub cut_are : (n : ℕ) (octets : List ℕ) (ms : List (List ℕ)) → octets ≡ joined ms → AllByRecursion IsCutOff ms
    → length ms ≡ n → cut_into n octets ≡ ms
cut_are zero octets [] is each n = refl
cut_are zero octets (m ∷ ms) is each n = absurd (omega (arith, n))
cut_are (suc zero) octets [] is each n = absurd (omega (arith, n))
cut_are (suc zero) octets (m ∷ []) is each n = ap (λ (o : List ℕ). o ∷ []) (is ∙ append-nil m)
cut_are (suc zero) octets (m ∷ k ∷ ms) is each n = absurd (omega (arith, n))
cut_are (suc (suc i)) octets [] is each n = absurd (omega (arith, n))
cut_are (suc (suc i)) octets (m ∷ ms) is each n =
    let len : length_of octets ≡ length m =
    ap length_of is ∙ length_of-append m (joined ms) (each.0).long ∙ (each.0).len in
    let front : take (length_of octets) octets ≡ m =
    ap (λ (k : ℕ). take k octets) len ∙ ap (take (length m)) is ∙ take-append_seam m (joined ms) in
    let rest : drop (length_of octets) octets ≡ joined ms =
    ap (λ (k : ℕ). drop k octets) len ∙ ap (drop (length m)) is ∙ drop-append_seam m (joined ms) in
    let count : length ms ≡ suc i = omega (arith, n) in
    ap (λ (o : List ℕ). o ∷ cut_into (suc i) (drop (length_of octets) octets)) front
    ∙ ap (λ (os : List (List ℕ)). m ∷ os) (cut_are (suc i) (drop (length_of octets) octets) ms rest each.1 count)

pub cut_joined : (n : ℕ) (octets : List ℕ) → octets ≡ joined (cut_into (suc n) octets)
cut_joined zero octets = sym (append-nil octets)
cut_joined (suc n) octets =
    let at = length_of octets in
    sym (take-append-drop at octets)
    ∙ ap (λ (o : List ℕ). take at octets ++ o) (cut_joined n (drop at octets))

pub cut_whole : (n : ℕ) (octets : List ℕ) → 0 < n → AllByRecursion IsCutOff (cut_into n octets)
    → AreMessagesOf octets n (cut_into n octets)
cut_whole zero octets some each = absurd (omega (arith, some))
cut_whole (suc n) octets some each = record {
  divided = record {
    whole = cut_joined n octets ∙ sym (append-nil (joined (cut_into (suc n) octets)));
    each = each;
  };
  all = cut_count (suc n) octets;
}

pub messages_are : (octets : List ℕ) (n : ℕ) (ms : List (List ℕ)) → AreMessagesOf octets n ms → cut_into n octets ≡ ms
messages_are octets n ms are =
    cut_are n octets ms ((are.divided).whole ∙ append-nil (joined ms)) (are.divided).each are.all
