-- The messages that restate all templates, one after the other.
use Rattle.std.proofs.Common.{◌≡◌, ℕ, ◌^◌, ◌<◌, ◌≤◌, List, [], ◌∷◌, ◌++◌, length, take, refl, sym, ap, subst, ◌∙◌}
use Rattle.std.proofs.Common.{append_assoc, arith, inl, inr}
use Rattle.std.specs.Prelude.{nat_eq}
use Rattle.std.specs.List.{AllByRecursion}
use Rattle.std.specs.Int.{w16, w32, to_be_bytes, from_be_bytes}
use Rattle.std.proofs.lemmas.List.{append-nil, length-append, take_at, drop_at}
use Rattle.flow_codec.specs.Templates.{AllTemplates, IsOnce, IsDomain, AreTemplatesInForce}
use Rattle.flow_codec.specs.Raw.{RawMessage}
use Rattle.flow_codec.specs.Message.{IsMessage}
use Rattle.flow_codec.specs.Cutting.{version_of, length_of, IsCutOff}
use Rattle.flow_codec.specs.File.{AreAccepted}
use Rattle.flow_codec.specs.Prefix.{prefix_message, prefix_read, due_in, prefix_messages, prefix_reads, AreDomains}
use Rattle.flow_codec.specs.Prefix.{AreNumbers}
use Rattle.flow_codec.proofs.Steps.{by_bool}
use Rattle.flow_codec.proofs.NumberLaws.{wide16}
use Rattle.flow_codec.proofs.SetLaws.{all_octets}
use Rattle.flow_codec.proofs.Sizes.{few_records}
use Rattle.flow_codec.proofs.KeyLaws.{first_once}
use Rattle.flow_codec.proofs.SlotLaws.{front-lacks}
use Rattle.flow_codec.proofs.Restating.{restated}

-- a File cuts a message off by its header
pub message_cut : (octets : List ℕ) (before : AllTemplates) (m : RawMessage) (after : AllTemplates)
    → IsMessage octets before m after → IsCutOff octets
message_cut octets before m after h =
    let l = m.header.length in
    let tail = to_be_bytes w32 m.header.time ++
    (to_be_bytes w32 m.header.sequence ++ (to_be_bytes w32 m.header.domain ++ (all_octets h.sets ++ []))) in
    let flat : octets ≡ to_be_bytes w16 10 ++ (to_be_bytes w16 l ++ tail) = h.parts ∙ simp append_assoc in
    let version : version_of octets ≡ 10 =
    ap version_of flat ∙ ap (from_be_bytes w16) (take_at (to_be_bytes w16 10) (to_be_bytes w16 l ++ tail) 2 refl)
    ∙ wide16.again 10 (omega arith) in
    let len : length_of octets ≡ l =
    ap length_of flat ∙ ap (λ (t : List ℕ). from_be_bytes w16 (take 2 t))
    (drop_at (to_be_bytes w16 10) (to_be_bytes w16 l ++ tail) 2 refl)
    ∙ ap (from_be_bytes w16) (take_at (to_be_bytes w16 l) tail 2 refl) ∙ wide16.again l h.fits.len in
    record { long = omega (arith, few_records octets before m after h); version = version; len = len ∙ h.len }

pub due_fits : (due : List (ℕ × ℕ)) (d : ℕ) → AreNumbers due → due_in due d < 2 ^ 32
due_fits [] d h = omega arith
due_fits (e ∷ es) d h = elim (by_bool (nat_eq d e.0)) [
  | inl w ↦ rw w h.0
  | inr w ↦ rw w (due_fits es d h.1)
]

restated_from : (time : ℕ) (due : List (ℕ × ℕ)) → time < 2 ^ 32 → AreNumbers due → (front es : AllTemplates)
    → IsOnce front → IsOnce (front ++ es) → AllByRecursion IsDomain es → AreDomains es → length (front ++ es) ≤ 64
    → AreAccepted front (prefix_messages time due es) (prefix_reads time due es) (front ++ es)
restated_from time due t n front [] o all is domains count = append-nil front
restated_from time due t n front (e ∷ es) o all is domains count =
    let flat : (front ++ e ∷ []) ++ es ≡ front ++ e ∷ es = append_assoc front (e ∷ []) es in
    let new = front-lacks front e es all in
    let room : length front < 64 = omega (arith, count, length-append front (e ∷ es)) in
    let one = restated time (due_in due e.0) e.0 e.1 front o new is.0 t (due_fits due e.0 n) domains.0 room in
    let all_next : IsOnce ((front ++ e ∷ []) ++ es) = subst IsOnce (sym flat) all in
    let more = restated_from time due t n (front ++ e ∷ []) es (first_once (front ++ e ∷ []) es all_next) all_next
    is.1 domains.1 (subst (λ (x : AllTemplates). length x ≤ 64) (sym flat) count) in (
      front ++ e ∷ [],
      message_cut (prefix_message time (due_in due e.0) e) front (prefix_read time (due_in due e.0) e)
          (front ++ e ∷ []) one.0,
      one,
      subst (λ (x : AllTemplates). AreAccepted (front ++ e ∷ []) (prefix_messages time due es)
          (prefix_reads time due es) x) flat more,
    )

pub restated_all : (time : ℕ) (due : List (ℕ × ℕ)) (all : AllTemplates) → AreTemplatesInForce all → AreDomains all
    → AreNumbers due → time < 2 ^ 32 → AreAccepted [] (prefix_messages time due all) (prefix_reads time due all) all
restated_all time due all h domains numbers t =
    restated_from time due t numbers [] all tt h.once h.domains domains h.count
