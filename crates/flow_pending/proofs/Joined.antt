-- Ranges that are added and joined.
use Rattle.std.proofs.Common.{◌≡◌, ℕ, ◌<◌, List, [], ◌∷◌, ◌++◌, length, get_or, set}
use Rattle.std.proofs.Common.{take, refl, sym, ◌∙◌, ap, subst, arith, ⊎_elim}
use Rattle.std.proofs.lemmas.Bool.{cases_eq}
use Rattle.std.proofs.lemmas.List.{length-set, get_or-set_same, get_or-set_other, length-append, get_or_default}
use Rattle.std.proofs.Math.ListN.{get_or-append}
use Rattle.flow_pending.specs.declared.ranges.Range.{Range}
use Rattle.flow_pending.specs.Written.{IsWithin, IsWritten}

-- one range grows
pub grows : (xs : List Range) (k : ℕ) (old new : Range) → k < length xs → old ≡ get_or xs k old
    → ((place : ℕ) → IsWithin old place → IsWithin new place)
    → (place : ℕ) → IsWritten xs place → IsWritten (set xs k new) place
grows xs k old new lt is wider place written = ⊎_elim
    (λ same. (
      k,
      new,
      subst (λ n. k < n) (sym (length-set xs k new)) lt,
      get_or-set_same xs k new new lt,
      wider place (subst (λ r. IsWithin r place) (at same) written.4),
    ))
    (λ other. (
      written.0,
      written.1,
      subst (λ n. written.0 < n) (sym (length-set xs k new)) written.2,
      get_or-set_other xs k written.0 new written.1 other ∙ written.3,
      written.4,
    ))
    (cases_eq written.0 k)
  where
    at : written.0 ≡ k → written.1 ≡ old
    at same = sym written.3 ∙ ap (λ n. get_or xs n written.1) same ∙ get_or_default xs k written.1 old lt ∙ sym is

-- the octets of a range that was put at a place are written
pub stands : (xs : List Range) (k : ℕ) (new : Range) → k < length xs
    → (place : ℕ) → IsWithin new place → IsWritten (set xs k new) place
stands xs k new lt place within =
    (k, new, subst (λ n. k < n) (sym (length-set xs k new)) lt, get_or-set_same xs k new new lt, within)

-- one range more
pub pushed : (xs : List Range) (new : Range) (place : ℕ) → IsWritten xs place → IsWritten (xs ++ new ∷ []) place
pushed xs new place written = (
  written.0,
  written.1,
  subst (λ n. written.0 < n) (sym (length-append xs (new ∷ []))) (omega (arith, written.2)),
  get_or-append xs (new ∷ []) written.1 written.0 written.2 ∙ written.3,
  written.4,
)

-- one range alone
pub alone : (xs : List Range) (new : Range) → 0 < length xs → (place : ℕ) → IsWithin new place
    → IsWritten (take 1 (set xs 0 new)) place
alone (x ∷ xs) new lt place within = (0, new, omega arith, refl, within)
alone [] new lt place within = absurd (omega (arith, lt))

-- a range that was read by its place
pub read_there : (xs : List Range) (n k : ℕ) (other d : Range) → k ≡ n → n < length xs → get_or xs k other ≡ other
    → (place : ℕ) → IsWithin other place → IsWithin (get_or xs n d) place
read_there xs n k other d same lt is place within =
    subst (λ (r : Range). IsWithin r place)
    (sym is ∙ ap (λ i. get_or xs i other) same ∙ get_or_default xs n other d lt) within
