-- Sums that fit their types.
use Rattle.std.proofs.Common.{◌≡◌, ℕ, true, false, cond, List, ◌++◌, Option, Some, None, refl, sym, ap, subst, ◌∙◌}
use Rattle.std.proofs.Common.{arith}
use Rattle.std.specs.Prelude.{IfSome}
use Rattle.std.specs.FinMap.{FinMap, get, insert, get-insert}
use Rattle.flow_measure.specs.declared.rows.Key.{Key}
use Rattle.flow_measure.specs.declared.rows.Sums.{Sums}
use Rattle.flow_measure.specs.Sums.{key_cmp, is_key, gathered, Fits, AllFit}
use Rattle.flow_measure.proofs.Keys.{keys_total, same_key, is_key-refl}
use Rattle.flow_measure.proofs.Gathering.{joined, sum_at, sum_at-append, get-gathered}

-- what holds of each sum holds after one is put in its place, if it holds of that one
pub kept : (P : Key → Sums → Type 0) (m : FinMap key_cmp Sums) (k : Key) (t : Sums)
    → ((q : Key) → IfSome (get m q) (P q)) → P k t → (q : Key) → IfSome (get (insert m k t) q) (P q)
kept P m k t before now q = subst (λ a. IfSome a (P q)) (sym (get-insert keys_total m k t q))
    (elim (is_key q k) as (λ b. is_key q k ≡ b → IfSome (cond b (Some t) (get m q)) (P q)) [
      | true ↦ λ w. subst (λ x. P x t) (sym (same_key q k w)) now
      | false ↦ λ w. before q
    ] refl)

pub at_key : (P : Key → Sums → Type 0) (m : FinMap key_cmp Sums) (k : Key) (t : Sums)
    → ((q : Key) → IfSome (get (insert m k t) q) (P q)) → P k t
at_key P m k t all =
    subst (λ a. IfSome a (P k)) (get-insert keys_total m k t k
    ∙ ap (λ b. cond b (Some t) (get m k)) (is_key-refl k)) (all k)

part_fits : (a b : Option Sums) → IfSome (joined a b) Fits → IfSome a Fits
part_fits None b h = tt
part_fits (Some a) None h = h
part_fits (Some a) (Some b) h = (omega (arith, h.0), omega (arith, h.1), omega (arith, h.2))

-- a part of what fits fits
pub front_fits : (w v : ℕ) (es fs : List (Key × Sums)) → AllFit (record { width = w; sums = gathered (es ++ fs) })
    → AllFit (record { width = v; sums = gathered es })
front_fits w v es fs all q = subst (λ a. IfSome a Fits) (sym (get-gathered es q))
    (part_fits (sum_at q es) (sum_at q fs) (subst (λ a. IfSome a Fits) (get-gathered (es ++ fs) q
    ∙ sum_at-append q es fs) (all q)))
