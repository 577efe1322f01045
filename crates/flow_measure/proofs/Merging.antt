-- Adding the entries of a list to a table, one by one.
use Rattle.std.proofs.Common.{◌≡◌, ℕ, ◌%◌, ◌<◌, true, false, cond, T, List, [], ◌∷◌, ◌++◌, Some, None, refl, sym, ap}
use Rattle.std.proofs.Common.{subst, ◌∙◌, append_assoc, arith}
use Rattle.std.specs.Prelude.{IfSome, Option, Result, Ok, Err, IsErrAnd, MatchResult}
use Rattle.std.specs.List.{AllByRecursion}
use Rattle.std.proofs.lemmas.List.{append-nil}
use Rattle.std.specs.FinMap.{FinMap, entries, get, get-entries, entries_sorted}
use Rattle.std.specs.FinMap.Entries.{find, is_sorted, below_all}
use Rattle.flow_measure.specs.declared.error.SumError.{SumError}
use Rattle.flow_measure.specs.declared.error.SumError.TheVariants.{SumSpent, OutOfMemory}
use Rattle.flow_measure.specs.declared.rows.Key.{Key}
use Rattle.flow_measure.specs.declared.rows.Sums.{Sums}
use Rattle.flow_measure.specs.Sums.{Table, key_cmp, is_key, interval_of, gathered, with_sums, widened_entries}
use Rattle.flow_measure.specs.Sums.{with_entries, merged, widened, empty_table, IsKeyBy, AreSound, AllFit, IsRefused}
use Rattle.flow_measure.specs.Sums.{Becomes}
use Rattle.flow_measure.proofs.Gathering.{entries_of_none, first, second, less, gathered-again, gathered-entries}
use Rattle.flow_measure.proofs.Gathering.{joined, sum_at, sum_at-append, sum_at-entries, get-gathered}
use Rattle.flow_measure.proofs.Putting.{AreWell, table}
use Rattle.flow_measure.proofs.Keys.{same_key, is_key-refl}
use Rattle.flow_measure.proofs.Fitting.{front_fits}

pub step_same : (sum new : Table) (k : Key) (s : Sums) (rest all : List (Key × Sums)) → new ≡ with_sums k s sum
    → gathered (entries sum.sums ++ (k, s) ∷ rest) ≡ gathered all → gathered (entries new.sums ++ rest) ≡ gathered all
step_same sum new k s rest all e h =
    ap (λ (t : Table). gathered (entries t.sums ++ rest)) e ∙ gathered-again (entries sum.sums ++ (k, s) ∷ []) rest
    ∙ ap gathered (append_assoc (entries sum.sums) ((k, s) ∷ []) rest) ∙ h

pub done_same : (sum : Table) (all : List (Key × Sums)) → gathered (entries sum.sums ++ []) ≡ gathered all
    → sum.sums ≡ gathered all
done_same sum all h = sym (ap gathered (append-nil (entries sum.sums)) ∙ gathered-entries sum.sums) ∙ h

-- where one step's sum doesn't fit, the whole doesn't
pub refused_on : (e : SumError) (w : ℕ) (sum : Table) (k : Key) (s : Sums) (rest all : List (Key × Sums))
    → gathered (entries sum.sums ++ (k, s) ∷ rest) ≡ gathered all → IsRefused e (with_sums k s sum)
    → IsRefused e (record { width = w; sums = gathered all })
refused_on SumSpent w sum k s rest all h spent =
    λ fit. spent (front_fits w sum.width (entries sum.sums ++ (k, s) ∷ []) rest
    (subst (λ m. AllFit (record { width = w; sums = m }))
    (sym (ap gathered (append_assoc (entries sum.sums) ((k, s) ∷ []) rest) ∙ h)) fit))
refused_on OutOfMemory w sum k s rest all h spent = tt

find_past : (q : Key) (es : List (Key × Sums)) → T (below_all key_cmp q es) → find key_cmp q es ≡ None
find_past q [] h = refl
find_past q (e ∷ es) h = rw (less (key_cmp q e.0) (first _ _ h)) (find_past q es (second _ _ h))

-- what holds of the sums at each key of a map holds of each entry
all_entries : (P : Key → Sums → Type 0) (es : List (Key × Sums)) → T (is_sorted key_cmp es)
    → ((q : Key) → IfSome (find key_cmp q es) (P q)) → AllByRecursion (λ (e : Key × Sums). P e.0 e.1) es
all_entries P [] h f = tt
all_entries P (e ∷ es) h f = (
  subst (λ o. IfSome o (P e.0)) (ap (λ b. cond b (Some e.1) (find key_cmp e.0 es)) (is_key-refl e.0)) (f e.0),
  all_entries P es (second _ _ h) rest,
)
  where
    rest : (q : Key) → IfSome (find key_cmp q es) (P q)
    rest q = elim (is_key q e.0) as (λ b. is_key q e.0 ≡ b → IfSome (cond b (Some e.1) (find key_cmp q es)) (P q)
        → IfSome (find key_cmp q es) (P q)) [
          | true ↦ λ w g. subst (λ o. IfSome o (P q))
              (sym (find_past q es (subst (λ k. T (below_all key_cmp k es)) (sym (same_key q e.0 w)) (first _ _ h)))) tt
          | false ↦ λ w g. g
        ] refl (f q)

-- each entry of sound sums has flows
pub sound_entries : (w : ℕ) (m : FinMap key_cmp Sums) → AreSound w m → AllByRecursion (λ e. 0 < e.1.flows) (entries m)
sound_entries w m sound = all_entries (λ k s. 0 < s.flows) (entries m) (entries_sorted m)
    (λ q. subst (λ o. IfSome o (λ s. 0 < s.flows)) (get-entries m q) (counts (IsKeyBy w q) (get m q) (sound q)))
  where
    counts : (P : Type 0) (o : Option Sums) → IfSome o (λ s. P × (0 < s.flows)) → IfSome o (λ s. 0 < s.flows)
    counts P None h = tt
    counts P (Some s) h = h.1

-- keys by a width are those of their own intervals
same_keys : (w : ℕ) (es : List (Key × Sums)) → AllByRecursion (λ e. e.0.start % w ≡ 0) es → widened_entries w es ≡ es
same_keys w [] h = refl
same_keys w (e ∷ es) h =
    let start : interval_of e.0.start w ≡ e.0.start = omega (arith, h.0) in
    rw (start, same_keys w es h.1) refl

pub own_keys : (w : ℕ) (m : FinMap key_cmp Sums) → AreSound w m → widened_entries w (entries m) ≡ entries m
own_keys w m sound = same_keys w (entries m) (all_entries (λ k s. k.start % w ≡ 0) (entries m) (entries_sorted m)
    (λ q. subst (λ o. IfSome o (λ s. q.start % w ≡ 0)) (get-entries m q) (aligned (get m q) q (sound q))))
  where
    aligned : (o : Option Sums) (q : Key) → IfSome o (λ s. IsKeyBy w q × (0 < s.flows))
        → IfSome o (λ s. q.start % w ≡ 0)
    aligned None q h = tt
    aligned (Some s) q h = h.0.aligned

-- rows of the same width, added, are merged
pub with_own : (a b : Table) (es : List (Key × Sums)) → a.width ≡ b.width → es ≡ entries b.sums
    → AreSound b.width b.sums → with_entries es a ≡ merged a b
with_own a b es same is sound =
    ap (λ fs. record { width = a.width; sums = gathered (entries a.sums ++ fs) })
    (ap (widened_entries a.width) is ∙ ap (λ w. widened_entries w (entries b.sums)) same
    ∙ own_keys b.width b.sums sound)

-- rows, added to none, are widened
pub with_empty : (wide : ℕ) (t : Table) (es : List (Key × Sums)) → es ≡ entries t.sums
    → with_entries es (empty_table wide) ≡ widened wide t
with_empty wide t es is =
    ap (λ fs. record { width = wide; sums = gathered (fs ++ widened_entries wide es) }) entries_of_none
    ∙ ap (λ fs. record { width = wide; sums = gathered (widened_entries wide fs) }) is

-- a refusal is passed on
pub passed_on : {X : Type 0} (r : Result X SumError) (e : SumError) (sums old new : Table) → IsErrAnd r (λ x. x ≡ e)
    → IsRefused e sums → new ≡ old → Becomes r sums old new
passed_on (Ok x) e sums old new h refused same = absurd h
passed_on (Err x) e sums old new h refused same = (subst (λ y. IsRefused y sums) (sym h) refused, same)

pub refused_by : {X : Type 0} (r : Result X SumError) (e : SumError) (sums : Table) (P : X → Type 0)
    → IsErrAnd r (λ x. x ≡ e) → IsRefused e sums → MatchResult r P (λ x. IsRefused x sums)
refused_by (Ok x) e sums P h refused = absurd h
refused_by (Err x) e sums P h refused = subst (λ y. IsRefused y sums) (sym h) refused

-- when nothing is left, all is in its place
pub done : (w : ℕ) (sum : Table) (all : List (Key × Sums)) → sum.width ≡ w → AllFit sum
    → gathered (entries sum.sums ++ []) ≡ gathered all
    → AllFit (record { width = w; sums = gathered all }) × (sum ≡ record { width = w; sums = gathered all })
done w sum all wide fit h =
    let is = done_same sum all h in
    let same : sum ≡ record { width = w; sums = gathered all } = λ i. record { width = wide i; sums = is i } in
    (subst AllFit same fit, same)

-- ---- what is true of all rows is true of merged ones

both_sound : (P : Type 0) (a b : Option Sums) → IfSome a (λ s. P × (0 < s.flows)) → IfSome b (λ s. P × (0 < s.flows))
    → IfSome (joined a b) (λ s. P × (0 < s.flows))
both_sound P None b h g = g
both_sound P (Some a) None h g = h
both_sound P (Some a) (Some b) h g = (h.0, omega arith)

merged_sound : (w : ℕ) (m o : FinMap key_cmp Sums) → AreSound w m → AreSound w o
    → AreSound w (gathered (entries m ++ entries o))
merged_sound w m o h g q =
    let is = get-gathered (entries m ++ entries o) q ∙ sum_at-append q (entries m) (entries o)
    ∙ ap (λ a. joined a (sum_at q (entries o))) (sum_at-entries m q) ∙ ap (joined (get m q)) (sum_at-entries o q) in
    subst (λ a. IfSome a (λ s. IsKeyBy w q × (0 < s.flows))) (sym is)
    (both_sound (IsKeyBy w q) (get m q) (get o q) (h q) (g q))

pub merges_well : {X : Type 0} (r : Result X SumError) (w : ℕ) (m o n : FinMap key_cmp Sums) → AreWell w m
    → AreSound w o → Becomes r (merged (table w m) (table w o)) (table w m) (table w n) → AreWell w n
merges_well (Ok x) w m o n well sound h =
    let same : n ≡ gathered (entries m ++ entries o) = ap (λ (t : Table). t.sums) h.1 in
    subst (AreWell w) (sym same) (well.0, merged_sound w m o well.1 sound, h.0)
merges_well (Err e) w m o n well sound h =
    let same : n ≡ m = ap (λ (t : Table). t.sums) h.1 in subst (AreWell w) (sym same) well
