-- The places of messages in files that may be damaged.
use Rattle.std.proofs.Common.{◌≡◌, ℕ, zero, suc, Bool, true, false, ◌+◌, ◌<◌, ◌≤◌, List, [], ◌∷◌, ◌++◌, length, map}
use Rattle.std.proofs.Common.{take, drop, Option, Some, None, refl, sym, ap, subst, ◌∙◌, append-nil, append_assoc}
use Rattle.std.proofs.Common.{arith}
use Rattle.std.proofs.Common.{get_or, inl, inr}
use Rattle.std.specs.Prelude.{slice_get, Ok}
use Rattle.std.specs.List.{AllByRecursion}
use Rattle.std.specs.Arc.{arc_value}
use Rattle.std.specs.declared.sync.Arc.{Arc}
use Rattle.std.proofs.lemmas.List.{length-append, map-append, take-append-drop}
use Rattle.std.proofs.lemmas.List.Concat.{flat_map-append}
use Rattle.std.proofs.Math.Seq.{drop-append_seam, take-append_seam}
use Rattle.flow_disk.specs.Window.{Window, IsOn}
use Rattle.flow_codec.specs.Cutting.{length_of, IsCutOff, IsDivided}
use Rattle.flow_codec.specs.Message.{joined}
use Rattle.flow_codec.proofs.Dividing.{length_of-append}
use Rattle.flow_disk.specs.declared.sealed.SealedFile.{Ghosts}
use Rattle.flow_segment.specs.Part.{rest_of, IsPartStep}
use Rattle.flow_segment.specs.Segment.{part_octets}
use Rattle.flow_segment.specs.declared.sealed.SealedPart.{SealedPart}
use Rattle.flow_snapshot.specs.Files.{cut_into, segment_of, shared}
use Rattle.flow_snapshot.specs.Found.{IsCutBehind, IsMessageAt, IsSealedAt, StandsAt, StandsBehind}
use Rattle.flow_model.specs.Shelf.{cut_of, messages_in, Shelf}
use Rattle.flow_snapshot.proofs.KeptFlows.{next_item}

-- ---- within a part

-- Some messages were passed over, and so many are left to be.
pub record ArePassed (part octets : List ℕ) (c : Window) (skipped left : ℕ) : Type 0 where
  pub front : List (List ℕ)
  pub divided : IsDivided part front (rest_of octets c)
  pub count : length front + left ≡ skipped
  pub on : IsOn octets c

pub none_passed : (octets : List ℕ) (c : Window) (prefix end skipped : ℕ)
    → c ≡ record { held = []; ahead = []; place = prefix; end = end }
    → ArePassed (part_octets prefix end octets) octets c skipped skipped
none_passed octets c prefix end skipped new = record {
  front = [];
  divided = record { whole = sym (ap (rest_of octets) new); each = tt };
  count = omega arith;
  on = subst (IsOn octets) (sym new) refl;
}

joined_then : (ms : List (List ℕ)) (m : List ℕ) → joined (ms ++ m ∷ []) ≡ joined ms ++ m
joined_then ms m =
    flat_map-append (λ (r : List ℕ). r) ms (m ∷ []) ∙ ap (λ (o : List ℕ). joined ms ++ o) (append-nil m)

each_then : (ms : List (List ℕ)) (m : List ℕ) → AllByRecursion IsCutOff ms → IsCutOff m
    → AllByRecursion IsCutOff (ms ++ m ∷ [])
each_then [] m each is = (is, tt)
each_then (x ∷ xs) m each is = (each.0, each_then xs m each.1 is)

divided_then : (octets : List ℕ) (front : List (List ℕ)) (rest m more : List ℕ) → IsDivided octets front rest
    → IsCutOff m → rest ≡ m ++ more → IsDivided octets (front ++ m ∷ []) more
divided_then octets front rest m more d cut is = record {
  whole = d.whole ∙ ap (λ (o : List ℕ). joined front ++ o) is ∙ sym (append_assoc (joined front) m more)
      ∙ ap (λ (o : List ℕ). o ++ more) (sym (joined_then front m));
  each = each_then front m d.each cut;
}

-- the message that is held now comes after them
passed_then : (part octets : List ℕ) (file : ℕ) (old new : Window) (skipped left : ℕ) (b : Bool) → b ≡ true
    → (p : ArePassed part octets old skipped left) → IsPartStep octets file old (Ok b) new
    → IsDivided part (p.front ++ new.held ∷ []) (rest_of octets new)
passed_then part octets file old new skipped left false is p step = absurd cc
passed_then part octets file old new skipped left true is p step =
    divided_then part p.front (rest_of octets old) new.held (rest_of octets new) p.divided step.0 step.1

pub one_passed : (part octets : List ℕ) (file : ℕ) (old new : Window) (skipped left less : ℕ) (b : Bool) → b ≡ true
    → left ≡ suc less → ArePassed part octets old skipped left → IsOn octets new → IsPartStep octets file old (Ok b) new
    → ArePassed part octets new skipped less
one_passed part octets file old new skipped left less b is some p on step = record {
  front = p.front ++ new.held ∷ [];
  divided = passed_then part octets file old new skipped left b is p step;
  count = omega (arith, p.count, some, length-append p.front (new.held ∷ []));
  on = on;
}

pub stands_here : (part octets : List ℕ) (file : ℕ) (old new : Window) (skipped left : ℕ) (b : Bool) → b ≡ true
    → left ≡ 0 → ArePassed part octets old skipped left → IsPartStep octets file old (Ok b) new
    → IsCutBehind part skipped new.held
stands_here part octets file old new skipped left b is none p step = (
  p.front,
  rest_of octets new,
  passed_then part octets file old new skipped left b is p step,
  omega (arith, p.count, none),
)

-- ---- in its own segment

cut_first : (octets m more : List ℕ) → IsCutOff m → octets ≡ m ++ more
    → (take (length_of octets) octets ≡ m) × (drop (length_of octets) octets ≡ more)
cut_first octets m more cut is =
    let len : length_of octets ≡ length m = ap length_of is ∙ length_of-append m more cut.long ∙ cut.len in (
      ap (λ (k : ℕ). take k octets) len ∙ ap (take (length m)) is ∙ take-append_seam m more,
      ap (λ (k : ℕ). drop k octets) len ∙ ap (drop (length m)) is ∙ drop-append_seam m more,
    )

pub stands_cut : (count : ℕ) (octets : List ℕ) (front : List (List ℕ)) (m rest : List ℕ)
    → octets ≡ joined (front ++ m ∷ []) ++ rest → AllByRecursion IsCutOff (front ++ m ∷ []) → length front < count
    → StandsBehind (cut_into count octets) (length front) m
stands_cut zero octets front m rest is each within = absurd (omega (arith, within))
stands_cut (suc zero) octets [] m rest is each within =
    (each.0, (rest, is ∙ ap (λ (o : List ℕ). o ++ rest) (append-nil m)))
stands_cut (suc zero) octets (f ∷ fs) m rest is each within = absurd (omega (arith, within))
stands_cut (suc (suc n)) octets [] m rest is each within = (
  each.0,
  (
    [],
    (cut_first octets m rest each.0 (is ∙ ap (λ (o : List ℕ). o ++ rest) (append-nil m))).0 ∙ sym (append-nil m),
  ),
)
stands_cut (suc (suc n)) octets (f ∷ fs) m rest is each within =
    let more = joined (fs ++ m ∷ []) in
    let cut = cut_first octets f (more ++ rest) each.0 (is ∙ append_assoc f more rest) in (
      subst IsCutOff (sym cut.0) each.0,
      stands_cut (suc n) (drop (length_of octets) octets) fs m rest cut.1 each.1 (omega (arith, within)),
    )

-- ---- among segments

module _ {F X Z : Type 0} {files : Ghosts F X} (parts : List (Arc (SealedPart F X files) Z)) (i : ℕ)
    (item : Arc (SealedPart F X files) Z) (part : SealedPart F X files) (within : i < length parts)
    (is : item ≡ get_or parts i item) (same : part ≡ arc_value item) where
  abbrev own_part : List ℕ
  own_part = part_octets part.prefix part.length (files.octets part.reader)

  apart : map segment_of (shared parts)
      ≡ map segment_of (shared (take i parts)) ++ segment_of part ∷ map segment_of (shared (drop (i + 1) parts))
  apart =
      ap (λ (ps : List (Arc (SealedPart F X files) Z)). map segment_of (shared ps)) (sym (take-append-drop i parts)
      ∙ ap (λ (ps : List (Arc (SealedPart F X files) Z)). take i parts ++ ps)
      (next_item parts i item item within is refl))
      ∙ ap (map segment_of) (map-append arc_value (take i parts) (item ∷ drop (i + 1) parts)
      ∙ ap (λ (p : SealedPart F X files). shared (take i parts) ++ p ∷ shared (drop (i + 1) parts)) (sym same))
      ∙ map-append segment_of (shared (take i parts)) (part ∷ shared (drop (i + 1) parts))

  pub stands_in : (place left : ℕ) (message : List ℕ)
      → length (messages_in (map segment_of (shared (take i parts)))) + left ≡ place → left < part.messages
      → IsCutBehind own_part left message → StandsAt (map segment_of (shared parts)) place message
  stands_in place left message at inside (front, rest, divided, count) = (
    map segment_of (shared (take i parts)),
    segment_of part,
    map segment_of (shared (drop (i + 1) parts)),
    left,
    apart,
    sym at,
    subst (λ (k : ℕ). StandsBehind (cut_into part.messages own_part) k message) count
        (stands_cut part.messages own_part front message rest divided.whole divided.each
        (omega (arith, count, inside))),
  )

-- ---- of a number

pub sealed_at : (s : Shelf) (n place : ℕ) (o : Option (List ℕ)) → n ≡ suc (cut_of s + place)
    → place < length (messages_in s.sealed) → IsSealedAt s.sealed place o → IsMessageAt s n o
sealed_at s n place None is within past = absurd (omega (arith, within, past))
sealed_at s n place (Some message) is within stands = inl (place, is, stands)

pub active_at : (s : Shelf) (n place : ℕ) (message : List ℕ)
    → n ≡ suc (cut_of s + length (messages_in s.sealed) + place) → slice_get s.active place ≡ Some message
    → IsMessageAt s n (Some message)
active_at s n place message is there = inr (place, is, there)

pub none_at : (s : Shelf) (n place : ℕ) → n ≡ suc (cut_of s + length (messages_in s.sealed) + place)
    → length s.active ≤ place → IsMessageAt s n None
none_at s n place is past = inr (omega (arith, is, past, length-append (messages_in s.sealed) s.active))
