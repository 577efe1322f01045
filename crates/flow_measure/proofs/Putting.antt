-- A sum put in its place in rows.
use Rattle.std.proofs.Common.{◌≡◌, ℕ, ◌<◌, cond, [], ◌∷◌, ◌++◌, Some, None, refl, sym, ap, subst, ◌∙◌, arith}
use Rattle.std.specs.Prelude.{MatchResult, OnErr, IfErr, IsErrAnd, IfSome, Option, Result, Ok, Err}
use Rattle.std.specs.FinMap.{FinMap, entries, get, insert}
use Rattle.flow_measure.specs.declared.error.SumError.{SumError}
use Rattle.flow_measure.specs.declared.error.SumError.TheVariants.{SumSpent, OutOfMemory}
use Rattle.flow_measure.specs.declared.flow.Flow.{Flow}
use Rattle.flow_measure.specs.declared.rows.Key.{Key}
use Rattle.flow_measure.specs.declared.rows.Sums.{Sums}
use Rattle.flow_measure.specs.Sums.{key_cmp, gathered, Fits, Table, AllFit, AreSound, Becomes, IsRefused, with_sums}
use Rattle.flow_measure.specs.Sums.{IsKeyBy, key_of, counted, with_flow}
use Rattle.flow_measure.specs.Entries.{Adds, added_to}
use Rattle.flow_measure.proofs.Keys.{is_key-refl}
use Rattle.flow_measure.proofs.Gathering.{joined, with_one, put-is_gathered}
use Rattle.flow_measure.proofs.Fitting.{kept}

abbrev pub table : ℕ → FinMap key_cmp Sums → Table
table width sums = record { width = width; sums = sums }

-- what is true of all rows
abbrev pub AreWell : ℕ → FinMap key_cmp Sums → Type 0
AreWell width sums = (0 < width) × AreSound width sums × AllFit (table width sums)

pub well_put : (w : ℕ) (m n : FinMap key_cmp Sums) (k : Key) (t : Sums) → n ≡ insert m k t → IsKeyBy w k
    → 0 < t.flows → Fits t → AreWell w m → AreWell w n
well_put w m n k t e is_key counted fits h = subst (AreWell w) (sym e) (
  h.0,
  kept (λ (q : Key) (s : Sums). IsKeyBy w q × (0 < s.flows)) m k t h.1 (is_key, counted),
  kept (λ (q : Key) (s : Sums). Fits s) m k t h.2 fits,
)

-- rows after a sum is put in its place are those before, with one more
pub became : (w : ℕ) (m n : FinMap key_cmp Sums) (k : Key) (s t : Sums) (v : Table) → table w m ≡ v → n ≡ insert m k t
    → joined (get m k) (Some s) ≡ Some t → Fits t → AllFit (table w m)
    → AllFit (with_sums k s v) × (table w n ≡ with_sums k s v)
became w m n k s t v is e sum fits h =
    let gathered_is : n ≡ gathered (entries m ++ (k, s) ∷ []) = e ∙ put-is_gathered m k s t sum in
    let same : table w n ≡ with_sums k s v = ap (table w) gathered_is ∙ ap (with_sums k s) is in
    let fit : AllFit (table w n) =
    subst (λ x. AllFit (table w x)) (sym e) (kept (λ (q : Key) (x : Sums). Fits x) m k t h fits) in
    (subst AllFit same fit, same)

sum_is : (o : Option Sums) (s : Sums) → joined o (Some s) ≡ Some (added_to o s)
sum_is None s = refl
sum_is (Some t) s = refl

-- the first sums of a key have flows, and what is added to sums with flows has flows
counts_more : (o : Option Sums) (s : Sums) (P : Type 0) → (o ≡ None → 0 < s.flows) → IfSome o (λ t. P × (0 < t.flows))
    → 0 < (added_to o s).flows
counts_more None s P first had = first refl
counts_more (Some t) s P first had = let h = had.1 in omega (arith, h)

-- the sums at the key, where all sums fit
fits_there : (w : ℕ) (m : FinMap key_cmp Sums) (k : Key) (s : Sums) → AllFit (with_sums k s (table w m))
    → Fits (added_to (get m k) s)
fits_there w m k s all =
    let sum : get (gathered (entries m ++ (k, s) ∷ [])) k ≡ Some (added_to (get m k) s) =
    with_one m k s k ∙ ap (λ b. joined (get m k) (cond b (Some s) None)) (is_key-refl k) ∙ sum_is (get m k) s in
    subst (λ o. IfSome o Fits) sum (all k)

-- where nothing is added, the table with the sums is refused
pub not_added : (X : Type 0) (e : SumError) (w : ℕ) (m n : FinMap key_cmp Sums) (k : Key) (s : Sums)
    → Adds {X = X} (Err e) k s m n → IsRefused e (with_sums k s (table w m))
not_added X SumSpent w m n k s h = λ all. h.0 (fits_there w m k s all)
not_added X OutOfMemory w m n k s h = tt

-- where sums are added, the table is that with the sums
pub grew : (w : ℕ) (m n : FinMap key_cmp Sums) (k : Key) (s : Sums)
    → Fits (added_to (get m k) s) × (n ≡ insert m k (added_to (get m k) s)) → AllFit (table w m)
    → AllFit (table w n) × (table w n ≡ with_sums k s (table w m))
grew w m n k s h fit =
    let is = became w m n k s (added_to (get m k) s) (table w m) refl h.1 (sum_is (get m k) s) h.0 fit in
    (subst AllFit (sym is.1) is.0, is.1)

module _ {X : Type 0} where
  -- what was true of rows stays true once sums were added
  pub adds_well : (r : Result X SumError) (w : ℕ) (m n : FinMap key_cmp Sums) (k : Key) (s : Sums) → IsKeyBy w k
      → (get m k ≡ None → 0 < s.flows) → AreWell w m → Adds r k s m n → AreWell w n
  adds_well (Ok x) w m n k s is_key first well h =
      well_put w m n k (added_to (get m k) s) h.1 is_key (counts_more (get m k) s (IsKeyBy w k) first (well.1 k)) h.0
      well
  adds_well (Err SumSpent) w m n k s is_key first well h = subst (AreWell w) (sym h.1) well
  adds_well (Err OutOfMemory) w m n k s is_key first well h = subst (AreWell w) (sym h.1) well

  -- the table becomes that with the sums
  pub gives : (r : Result X SumError) (w : ℕ) (m n : FinMap key_cmp Sums) (k : Key) (s : Sums) (v : Table)
      → table w m ≡ v → AreWell w m → Adds r k s m n → Becomes r (with_sums k s v) v (table w n)
  gives (Ok x) w m n k s v is well h =
      became w m n k s (added_to (get m k) s) v is h.1 (sum_is (get m k) s) h.0 well.2
  gives (Err SumSpent) w m n k s v is well h =
      (λ all. h.0 (fits_there w m k s (subst (λ u. AllFit (with_sums k s u)) (sym is) all)), ap (table w) h.1 ∙ is)
  gives (Err OutOfMemory) w m n k s v is well h = (tt, ap (table w) h.1 ∙ is)

  -- the same of a flow
  pub gives_flow : (r : Result X SumError) (w : ℕ) (m n : FinMap key_cmp Sums) (f : Flow) (v : Table) → table w m ≡ v
      → AreWell w m → Adds r (key_of w f) (counted f) m n → Becomes r (with_flow f v) v (table w n)
  gives_flow r w m n f v is well h =
      subst (λ u. Becomes r (with_flow f u) u (table w n)) is
      (gives r w m n (key_of w f) (counted f) (table w m) refl well h)

  -- what is true of rows stays true once sums were added, or refused
  pub stays_well : (r : Result X SumError) (w : ℕ) (m n : FinMap key_cmp Sums) (k : Key) (s : Sums) → IsKeyBy w k
      → (get m k ≡ None → 0 < s.flows) → AreWell w m
      → MatchResult r (λ _. Fits (added_to (get m k) s) × (n ≡ insert m k (added_to (get m k) s)))
      (λ e. IsRefused e (with_sums k s (table 0 m))) → OnErr r (n ≡ m) → AreWell w n
  stays_well (Ok x) w m n k s is_key first well h same =
      well_put w m n k (added_to (get m k) s) h.1 is_key (counts_more (get m k) s (IsKeyBy w k) first (well.1 k)) h.0
      well
  stays_well (Err e) w m n k s is_key first well h same = subst (AreWell w) (sym same) well

  -- the table becomes that with the sums, or stays as it was
  pub becomes_so : (r : Result X SumError) (w : ℕ) (m n : FinMap key_cmp Sums) (k : Key) (s : Sums) (v : Table)
      → table w m ≡ v → AreWell w m
      → MatchResult r (λ _. Fits (added_to (get m k) s) × (n ≡ insert m k (added_to (get m k) s)))
      (λ e. IsRefused e (with_sums k s (table 0 m))) → OnErr r (n ≡ m) → Becomes r (with_sums k s v) v (table w n)
  becomes_so (Ok x) w m n k s v is well h same =
      became w m n k s (added_to (get m k) s) v is h.1 (sum_is (get m k) s) h.0 well.2
  becomes_so (Err SumSpent) w m n k s v is well h same =
      (subst (λ u. AllFit (with_sums k s u) → ⊥) is h, ap (table w) same ∙ is)
  becomes_so (Err OutOfMemory) w m n k s v is well h same = (tt, ap (table w) same ∙ is)

  -- a refusal, less exactly
  pub judged : (r : Result X SumError) (m n : FinMap key_cmp Sums) (k : Key) (s : Sums) → Adds r k s m n
      → MatchResult r (λ _. Fits (added_to (get m k) s) × (n ≡ insert m k (added_to (get m k) s)))
      (λ e. IsRefused e (with_sums k s (table 0 m)))
  judged (Ok x) m n k s h = h
  judged (Err e) m n k s h = not_added X e 0 m n k s h

  -- memory is wanted for a new key alone
  pub wants_room : (r : Result X SumError) (m n : FinMap key_cmp Sums) (k : Key) (s : Sums) → Adds r k s m n
      → IfErr r (λ e. e ≡ OutOfMemory → get m k ≡ None)
  wants_room (Ok x) m n k s h = tt
  wants_room (Err SumSpent) m n k s h = λ e. absurd cc
  wants_room (Err OutOfMemory) m n k s h = λ e. h.0

  -- where there is no memory for a new key, nothing is added
  pub adds_nothing : (r : Result X SumError) (m n : FinMap key_cmp Sums) (k : Key) (s : Sums)
      → IsErrAnd r (λ e. e ≡ OutOfMemory) → get m k ≡ None → n ≡ m → Adds r k s m n
  adds_nothing (Ok x) m n k s is none same = absurd is
  adds_nothing (Err SumSpent) m n k s is none same = absurd cc
  adds_nothing (Err OutOfMemory) m n k s is none same = (none, same)
