-- The steps over a record, one after the other.
use Rattle.std.proofs.Common.{◌≡◌, ℕ, ◌+◌, ◌-◌, ◌<◌, ◌≤◌, List, [], ◌∷◌, ◌++◌, length, take, drop, get_or, Result, Ok}
use Rattle.std.proofs.Common.{Err, refl, sym, ap, ◌∙◌, append_assoc, drop-cons, add-one, arith}
use Rattle.std.proofs.lemmas.List.{append-nil, drop_all, length-append, take_at, drop_at}
use Rattle.flow_codec.specs.declared.error.MessageError.{MessageError}
use Rattle.flow_codec.specs.declared.plan.FieldStep.{FieldStep}
use Rattle.flow_codec.specs.Reading.{Fails, behind}
use Rattle.flow_codec.specs.Extent.{step_at, extent_by}
use Rattle.flow_codec.proofs.Steps.{Fails-of}
use Rattle.flow_codec.proofs.Extents.{step_parts, behind_behind}

-- the octets passed over are a prefix of all, and stepping goes on at `rest`
pub record GoesOn (at : ℕ) (steps : List FieldStep) (i : ℕ) (rest octets : List ℕ) : Type 0 where
  pub front : List ℕ
  pub parts : octets ≡ front ++ rest
  pub same : behind front (extent_by at (drop i steps) rest) ≡ extent_by at steps octets

nothing : (read : Result (List ℕ × List ℕ) MessageError) → behind [] read ≡ read
nothing (Ok x) = refl
nothing (Err d) = refl

pub starts : (at : ℕ) (steps : List FieldStep) (octets : List ℕ) → GoesOn at steps 0 octets octets
starts at steps octets = record { front = []; parts = refl; same = nothing (extent_by at steps octets) }

module _ (at : ℕ) (steps : List FieldStep) (i : ℕ) (rest octets : List ℕ) (h : GoesOn at steps i rest octets) where
  module _ (d : FieldStep) (lt : i < length steps) where
    split : drop i steps ≡ get_or steps i d ∷ drop (i + 1) steps
    split = rw add-one (drop-cons steps i d lt)

    pub goes_on : (first after : List ℕ) → step_at at (get_or steps i d) rest ≡ Ok (first, after)
        → GoesOn at steps (i + 1) after octets
    unfolding extent_by
    goes_on first after e = record {
      front = h.front ++ first;
      parts = h.parts ∙ ap (λ (t : List ℕ). h.front ++ t) (step_parts at (get_or steps i d) rest (first, after) e)
          ∙ sym (append_assoc h.front first after);
      same = sym (behind_behind h.front first (extent_by at (drop (i + 1) steps) after)) ∙ sym one ∙ h.same;
    }
      where
        one : behind h.front (extent_by at (drop i steps) rest) ≡ behind h.front
            (behind first (extent_by at (drop (i + 1) steps) after))
        one = rw (split, e) refl

    pub ends : (e : MessageError) → Fails e (step_at at (get_or steps i d) rest) → Fails e (extent_by at steps octets)
    unfolding extent_by
    ends e fails = Fails-of e (step_at at (get_or steps i d) rest) (extent_by at steps octets)
        (λ fault holds. sym h.same ∙ rw (split, holds) refl) fails

  pub shorter : length rest ≤ length octets
  shorter = omega (arith, ap length h.parts, length-append h.front rest)

  pub is_done : length steps ≤ i
      → extent_by at steps octets ≡ Ok (
        take (length octets - length rest) octets,
        drop (length octets - length rest) octets,
      )
  unfolding extent_by
  is_done le =
      let none : drop i steps ≡ [] = drop_all i steps le in
      let long : length h.front ≡ length octets - length rest =
      omega (arith, ap length h.parts, length-append h.front rest) in
      let first : take (length octets - length rest) octets ≡ h.front = ap (take (length octets - length rest)) h.parts
      ∙ take_at h.front rest (length octets - length rest) long in
      let last : drop (length octets - length rest) octets ≡ rest = ap (drop (length octets - length rest)) h.parts
      ∙ drop_at h.front rest (length octets - length rest) long in
      let all : behind h.front (extent_by at (drop i steps) rest) ≡ Ok (h.front, rest) =
      rw none (ap (λ (t : List ℕ). let r : Result (List ℕ × List ℕ) MessageError = Ok (t, rest) in
      r) (append-nil h.front)) in
      rw (first, last) (sym h.same ∙ all)
