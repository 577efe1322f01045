-- Rows added to sums of the same or another width.
use Rattle.std.proofs.Common.{◌≡◌, ℕ, zero, suc, ◌+◌, ◌<◌, cond, inl, inr, List, [], ◌∷◌, ◌++◌, length, drop}
use Rattle.std.proofs.Common.{get_or, Option, Some, None, refl, sym, ap, subst, ◌∙◌, arith, append_assoc}
use Rattle.std.specs.Prelude.{IsSome, Result, Ok, Err, IsErrAnd, MatchResult}
use Rattle.std.specs.FinMap.{entries, get}
use Rattle.std.proofs.lemmas.List.{append-nil}
use Rattle.flow_measure.specs.declared.rows.Key.{Key}
use Rattle.flow_measure.specs.declared.rows.Sums.{Sums}
use Rattle.flow_measure.specs.declared.error.SumError.{SumError}
use Rattle.flow_measure.specs.Sums.{Table, AllFit, IsRefused, gathered, with_entries, widened_key}
use Rattle.flow_measure.specs.Sums.{widened_entries}
use Rattle.flow_measure.proofs.Keys.{is_key-refl}
use Rattle.flow_measure.proofs.Gathering.{joined, sum_at, sum_at-append, gathered-again, gathered-entries}
use Rattle.flow_measure.proofs.Gathering.{gathered-same}
use Rattle.flow_measure.proofs.Gathering.{with_one}
use Rattle.flow_measure.proofs.Fitting.{front_fits}
use Rattle.flow_measure.proofs.Widening.{rekeyed-gathered, joined-some}
use Rattle.flow_rolled.specs.declared.row.RolledRow.{RolledRow}
use Rattle.flow_rolled.specs.Rows.{sums_in, sums_of, entries_in, MayFollow, AreRows}
use Rattle.flow_rolled.specs.Messages.{last_from}
use Rattle.flow_rolled.specs.Stored.{with_rows, with_row, AreCounted}

pub next_row : (list : List RolledRow) (i : ℕ) (d : RolledRow) → i < length list
    → drop i list ≡ get_or list i d ∷ drop (i + 1) list
next_row [] i d lt = absurd (omega (arith, lt))
next_row (r ∷ rs) zero d lt = refl
next_row (r ∷ rs) (suc i) d lt =
    let e : suc i + 1 ≡ suc (i + 1) = omega arith in
    next_row rs i d (omega (arith, lt)) ∙ ap (λ (k : ℕ). get_or rs i d ∷ drop k (r ∷ rs)) (sym e)

pub refused_so : {X : Type 0} (r : Result X SumError) (e : SumError) (sums : Table) (P : X → Type 0) (Q : Type 0)
    → IsErrAnd r (λ x. x ≡ e) → IsRefused e sums → Q → MatchResult r P (λ x. IsRefused x sums × Q)
refused_so (Ok x) e sums P Q h refused q = absurd h
refused_so (Err x) e sums P Q h refused q = (subst (λ y. IsRefused y sums) (sym h) refused, q)

-- ---- the first row of a key has flows

-- the row that came last has its key
abbrev pub HasKey : Table → Option RolledRow → Type 0
HasKey t None = Unit {0}
HasKey t (Some r) = IsSome (get t.sums (widened_key t.width r.key))

some_of : {A : Type 0} (o : Option A) (a : A) → o ≡ Some a → IsSome o
some_of None a h = absurd cc
some_of (Some x) a h = refl

not_some : {A : Type 0} (o : Option A) → o ≡ None → IsSome o → ⊥
not_some None e h = absurd cc
not_some (Some s) e h = absurd cc

-- with a row, its key has sums
key_put : (t : Table) (r : RolledRow) → HasKey (with_row r t) (Some r)
key_put t r =
    let k = widened_key t.width r.key in
    some_of (get (gathered (entries t.sums ++ (k, sums_in r) ∷ [])) k) _ (with_one t.sums k (sums_in r) k
    ∙ ap (λ b. joined (get t.sums k) (cond b (Some (sums_in r)) None)) (is_key-refl k)
    ∙ joined-some (get t.sums k) (sums_in r))

pub counted : (w : ℕ) (t : Table) (last : Option RolledRow) (rows : List RolledRow) → AreRows w last rows
    → HasKey t last → AreCounted t rows
counted w t last [] h has = tt
counted w t last (r ∷ rs) h has =
    (first last h.1 has, counted w (with_row r t) (Some r) rs h.2 (key_put t r))
  where
    first : (l : Option RolledRow) → MayFollow l r → HasKey t l → get t.sums (widened_key t.width r.key) ≡ None
        → 0 < r.flows
    first None may has none = may
    first (Some l) (inl c) has none = absurd (not_some (get t.sums (widened_key t.width l.key))
        (ap (λ (k : Key). get t.sums (widened_key t.width k)) (sym c.key) ∙ none) has)
    first (Some l) (inr b) has none = b.flows

-- ---- rows after rows

pub rows_none : (t : Table) → with_rows [] t ≡ t
rows_none t = λ i. record {
  width = t.width;
  sums = (ap gathered (append-nil (entries t.sums)) ∙ gathered-entries t.sums) i;
}

rows_next : (r : RolledRow) (rs : List RolledRow) (t : Table) → with_rows (r ∷ rs) t ≡ with_rows rs (with_row r t)
rows_next r rs t =
    let e : Key × Sums = (widened_key t.width r.key, sums_in r) in
    let left = widened_entries t.width (entries_in rs) in
    λ i. record {
      width = t.width;
      sums = (ap gathered (sym (append_assoc (entries t.sums) (e ∷ []) left))
          ∙ sym (gathered-again (entries t.sums ++ e ∷ []) left)) i;
    }

pub rows_both : (xs ys : List RolledRow) (t : Table) → with_rows ys (with_rows xs t) ≡ with_rows (xs ++ ys) t
rows_both [] ys t = ap (with_rows ys) (rows_none t)
rows_both (x ∷ xs) ys t = ap (with_rows ys) (rows_next x xs t) ∙ rows_both xs ys (with_row x t)
    ∙ sym (rows_next x (xs ++ ys) t)

pub key_after : (t : Table) (last : Option RolledRow) (rows : List RolledRow) → HasKey t last
    → HasKey (with_rows rows t) (last_from last rows)
key_after t last [] has = subst (λ u. HasKey u last) (sym (rows_none t)) has
key_after t last (r ∷ rs) has = subst (λ u. HasKey u (last_from (Some r) rs)) (sym (rows_next r rs t))
    (key_after (with_row r t) (Some r) rs (key_put t r))

pub last_behind : (o : Option RolledRow) (xs ys : List RolledRow) → last_from o (xs ++ ys) ≡ last_from
    (last_from o xs) ys
last_behind o [] ys = refl
last_behind o (x ∷ xs) ys = last_behind (Some x) xs ys

-- the sums of rows, added, are the rows, added
pub sums_added : (rows : List RolledRow) (t : Table) → with_rows rows t ≡ with_entries (entries (sums_of rows)) t
sums_added rows t =
    let wide = widened_entries t.width (entries_in rows) in
    let sums = widened_entries t.width (entries (sums_of rows)) in
    λ i. record {
      width = t.width;
      sums = (gathered-same (entries t.sums ++ wide) (entries t.sums ++ sums) (λ q.
          sum_at-append q (entries t.sums) wide
          ∙ ap (joined (sum_at q (entries t.sums))) (sym (rekeyed-gathered (widened_key t.width) q (entries_in rows)))
          ∙ sym (sum_at-append q (entries t.sums) sums))) i;
    }

-- the first of rows that fit, fit
pub front_rows : (xs ys : List RolledRow) (t : Table) → AllFit (with_rows (xs ++ ys) t) → AllFit (with_rows xs t)
front_rows xs ys t fit =
    subst AllFit (rows_none (with_rows xs t)) (front_fits t.width t.width (entries (with_rows xs t).sums ++ [])
    (widened_entries t.width (entries_in ys)) (subst AllFit (sym (rows_both xs ys t) ∙ back) fit))
  where
    back : with_rows ys (with_rows xs t) ≡ record {
      width = t.width;
      sums = gathered ((entries (with_rows xs t).sums ++ []) ++ widened_entries t.width (entries_in ys));
    }
    back = λ i. record {
      width = t.width;
      sums = gathered (sym (append-nil (entries (with_rows xs t).sums)) i ++ widened_entries t.width (entries_in ys));
    }
