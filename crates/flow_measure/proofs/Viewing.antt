-- Lists of entries and the finite maps that they are seen as.
use Rattle.std.proofs.Common.{◌≡◌, ℕ, List, [], ◌∷◌, refl, sym, ap, subst, ◌∙◌}
use Rattle.std.specs.Prelude.{IfSome}
use Rattle.std.specs.declared.cmp.Ordering.TheVariants.{Less}
use Rattle.std.specs.Map.{keys_of}
use Rattle.std.specs.List.{AllByRecursion}
use Rattle.std.specs.List.Sorted.{IsStrictlySortedBy}
use Rattle.std.specs.FinMap.{from_entries, entries, get, get-empty, entries-insert}
use Rattle.std.specs.FinMap.Entries.{put, by_order}
use Rattle.flow_measure.specs.declared.rows.Key.{Key}
use Rattle.flow_measure.specs.declared.rows.Sums.{Sums}
use Rattle.flow_measure.specs.Sums.{key_cmp, AllFit, Fits, empty_table}
use Rattle.flow_measure.proofs.Keys.{keys_total}
use Rattle.flow_measure.proofs.Gathering.{entries_of_none}

-- entries in order are those of their map
pub entries_are : (es : List (Key × Sums)) → IsStrictlySortedBy key_cmp (keys_of es)
    → entries (from_entries {R = key_cmp} es) ≡ es
unfolding IsStrictlySortedBy
entries_are [] h = entries_of_none
entries_are (e ∷ es) h =
    entries-insert keys_total (from_entries es) e.0 e.1 ∙ ap (put key_cmp e.0 e.1) (entries_are es h.1)
    ∙ at_front es h.0
  where
    at_front : (fs : List (Key × Sums)) → AllByRecursion (λ y. key_cmp e.0 y ≡ Less) (keys_of fs)
        → put key_cmp e.0 e.1 fs ≡ e ∷ fs
    at_front [] a = refl
    at_front (f ∷ fs) a = ap (λ o. by_order o ((e.0, e.1) ∷ f ∷ fs) ((f.0, e.1) ∷ fs) (f ∷ put key_cmp e.0 e.1 fs)) a.0

-- a map of no entries has nothing at a key
pub none_at : (es : List (Key × Sums)) (P : Sums → Type 0) (q : Key) → es ≡ []
    → IfSome (get (from_entries {R = key_cmp} es) q) P
none_at es P q none =
    subst (λ a. IfSome a P) (sym (ap (λ (fs : List (Key × Sums)). get (from_entries {R = key_cmp} fs) q) none
    ∙ get-empty key_cmp q)) tt

pub none_fits : (width : ℕ) → AllFit (empty_table width)
none_fits width q = subst (λ a. IfSome a Fits) (sym (get-empty key_cmp q)) tt
