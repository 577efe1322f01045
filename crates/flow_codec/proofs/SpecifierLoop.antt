-- The specifiers of a template, one after the other.
use Rattle.std.proofs.Common.{◌≡◌, ℕ, suc, ◌-◌, ◌+◌, ◌≤◌, ◌<◌, List, [], ◌∷◌, ◌++◌, Result, Ok, refl, sym, ap, ◌∙◌}
use Rattle.std.proofs.Common.{arith}
use Rattle.std.proofs.lemmas.List.{append-nil}
use Rattle.flow_elements.specs.declared.element.ElementId.{ElementId}
use Rattle.flow_codec.specs.declared.error.MessageError.{MessageError}
use Rattle.flow_codec.specs.Reading.{Fails, specifier_at, specifiers_at}
use Rattle.flow_codec.proofs.Steps.{with_front, regroup, Fails-of}

module _ (at count i : ℕ) (front : List (ElementId × ℕ)) (octets : List ℕ)
    (total : Result (List (ElementId × ℕ) × List ℕ) MessageError) where
  pub goes_on : i < count → (f : ElementId × ℕ) (after : List ℕ) → specifier_at at octets ≡ Ok (f, after)
      → with_front front (specifiers_at at (count - i) octets) ≡ total
      → with_front (front ++ f ∷ []) (specifiers_at at (count - (i + 1)) after) ≡ total
  unfolding specifiers_at
  goes_on lt f after h so_far =
      let k : count - i ≡ suc (count - (i + 1)) = omega arith in
      let one : with_front front (specifiers_at at (count - i) octets) ≡ with_front (front ++ f ∷ [])
      (specifiers_at at (count - (i + 1)) after) =
      rw (k, h) (regroup front f (specifiers_at at (count - (i + 1)) after)) in
      sym one ∙ so_far

  pub ends : i < count → (e : MessageError) → Fails e (specifier_at at octets)
      → with_front front (specifiers_at at (count - i) octets) ≡ total → Fails e total
  unfolding specifiers_at
  ends lt e h so_far =
      let k : count - i ≡ suc (count - (i + 1)) = omega arith in
      Fails-of e (specifier_at at octets) total (λ fault is. sym so_far ∙ rw (k, is) refl) h

  pub is_done : count ≤ i → with_front front (specifiers_at at (count - i) octets) ≡ total → total ≡ Ok (front, octets)
  unfolding specifiers_at
  is_done le so_far =
      let k : count - i ≡ 0 = omega arith in
      sym so_far ∙ rw k (ap (λ (ns : List (ElementId × ℕ)). Ok (ns, octets)) (append-nil front))
