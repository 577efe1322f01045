-- Rows added to the sums of those before them.
use Rattle.std.proofs.Common.{◌≡◌, ℕ, ◌+◌, ◌*◌, ◌^◌, ◌<◌, ◌≤◌, inl, inr, ⊎_elim, true, false}
use Rattle.std.proofs.Common.{cond, List, [], ◌∷◌, ◌++◌, map, length, take, drop, get_or, Option, Some, None, refl, sym}
use Rattle.std.proofs.Common.{ap, subst, ◌∙◌, arith, append_assoc, length-append}
use Rattle.std.specs.Prelude.{IfSome, IsSome, filter}
use Rattle.std.specs.List.{sum_by}
use Rattle.std.specs.FinMap.{get}
use Rattle.std.proofs.lemmas.List.{map-append, take_more, take-append-drop}
use Rattle.std.proofs.lemmas.List.Sums.{sum_by-cons}
use Rattle.flow_measure.specs.declared.rows.Key.{Key}
use Rattle.flow_measure.specs.declared.rows.Sums.{Sums}
use Rattle.flow_measure.specs.Sums.{is_key, gathered, under, some_total, Fits, AllFit, with_sums}
use Rattle.flow_measure.proofs.Keys.{is_key-refl}
use Rattle.flow_measure.proofs.Gathering.{joined, sum_at, gathered-again, get-gathered}
use Rattle.flow_measure.proofs.Widening.{pushed}
use Rattle.flow_rolled.specs.declared.row.RolledRow.{RolledRow}
use Rattle.flow_rolled.specs.Rows.{most, sums_in, sums_of, IsRow, MayFollow, AreRows, IsTableEntry}
use Rattle.flow_rolled.specs.Messages.{last_from}
use Rattle.flow_rolled.proofs.Grouping.{rows_front, decide}
use Rattle.flow_rolled.specs.Rows.{entries_in}
use Rattle.flow_rolled.proofs.SumsTable.{sums_table}

-- one row more
pub one_row_more : (w : ℕ) (rows : List RolledRow) (r : RolledRow)
    → with_sums r.key (sums_in r) (record { width = w; sums = sums_of rows }) ≡ record {
      width = w;
      sums =
          sums_of (rows ++ r ∷ []);
    }
one_row_more w rows r = ap (λ m. record { width = w; sums = m })
    (gathered-again (entries_in rows) ((r.key, sums_in r) ∷ [])
    ∙ ap gathered (sym (map-append (λ (x : RolledRow). (x.key, sums_in x)) rows (r ∷ []))))

-- ---- a key whose row came last has sums

some_joined : (a b : Option Sums) → IsSome b → IsSome (joined a b)
some_joined None b h = h
some_joined (Some a) None h = absurd cc
some_joined (Some a) (Some b) h = refl

some_first : (s : Sums) (b : Option Sums) → IsSome (joined (Some s) b)
some_first s None = refl
some_first s (Some b) = refl

has_key : (k : Key) (o : Option RolledRow) (rows : List RolledRow) (l : RolledRow) → last_from o rows ≡ Some l
    → 0 < length rows → l.key ≡ k → IsSome (sum_at k (entries_in rows))
has_key k o [] l is some here = absurd (omega (arith, some))
has_key k o (r ∷ []) l is some here =
    let key : r.key ≡ k = ap (λ (x : RolledRow). x.key) (same_some r l is) ∙ here in
    subst (λ x. IsSome x) (sym (pushed k r.key (sums_in r) []))
    (subst (λ b. IsSome (joined (cond b (Some (sums_in r)) None) (sum_at k []))) (sym (is_key-refl k)
    ∙ ap (is_key k) (sym key)) (some_first (sums_in r) (sum_at k [])))
  where
    same_some : (x y : RolledRow) → Some x ≡ Some y → x ≡ y
    same_some x y e = cc
has_key k o (r ∷ q ∷ rs) l is some here =
    subst (λ x. IsSome x) (sym (pushed k r.key (sums_in r) (entries_in (q ∷ rs))))
    (some_joined (cond (is_key k r.key) (Some (sums_in r)) None) (sum_at k (entries_in (q ∷ rs)))
    (has_key k (Some r) (q ∷ rs) l is (omega arith) here))

-- a row in the middle
pub row_at : (w : ℕ) (xs : List RolledRow) (r : RolledRow) (ys : List RolledRow) → AreRows w None (xs ++ r ∷ ys)
    → IsRow w r × MayFollow (last_from None xs) r
row_at w xs r ys h = let p = (rows_front w None xs (r ∷ ys) h).1 in (p.0, p.1)

some_before : (o : Option RolledRow) (xs : List RolledRow) (r : RolledRow) → last_from None xs ≡ o → MayFollow o r
    → r.flows ≡ 0 → IsSome (sum_at r.key (entries_in xs))
some_before None xs r is h none = absurd (omega (arith, h, none))
some_before (Some l) [] r is h none = absurd cc
some_before (Some l) (x ∷ xs) r is (inl c) none = has_key r.key None (x ∷ xs) l is (omega arith) (sym c.key)
some_before (Some l) (x ∷ xs) r is (inr b) none = absurd (let f = b.flows in omega (arith, f, none))

pub present : (xs : List RolledRow) (r : RolledRow) → MayFollow (last_from None xs) r → r.flows ≡ 0
    → IsSome (get (sums_of xs) r.key)
present xs r h none =
    subst (λ o. IsSome o) (sym (get-gathered (entries_in xs) r.key)) (some_before (last_from None xs) xs r refl h none)

-- the first row of a key has flows
pub first_counted : (xs : List RolledRow) (r : RolledRow) → MayFollow (last_from None xs) r
    → get (sums_of xs) r.key ≡ None → 0 < r.flows
first_counted xs r h none = ⊎_elim
    (λ e. absurd (not_some (get (sums_of xs) r.key) none (present xs r h e)))
    (λ differs. omega (arith, differs))
    (decide r.flows 0)
  where
    not_some : (o : Option Sums) → o ≡ None → IsSome o → ⊥
    not_some None e h = absurd cc
    not_some (Some s) e h = absurd cc

-- ---- fewer than 2^64 rows have sums that fit

abbrev AreBounded : ℕ → List Sums → Type 0
AreBounded n sums = (sum_by (λ (s : Sums). s.flows) sums ≤ n * most)
    × (sum_by (λ (s : Sums). s.octets) sums ≤ n * most) × (sum_by (λ (s : Sums). s.packets) sums ≤ n * most)

bounded_more : (n : ℕ) (r : RolledRow) (sums : List Sums) → r.flows ≤ most → r.octets ≤ most → r.packets ≤ most
    → AreBounded n sums → AreBounded (n + 1) (sums_in r ∷ sums)
bounded_more n r sums f o p b =
    let flows = sum_by-cons (λ (s : Sums). s.flows) (sums_in r) sums in
    let octets = sum_by-cons (λ (s : Sums). s.octets) (sums_in r) sums in
    let packets = sum_by-cons (λ (s : Sums). s.packets) (sums_in r) sums in
    (omega (arith, flows, b.0, f), omega (arith, octets, o, b.1), omega (arith, packets, p, b.2))

bounded_less : (n : ℕ) (sums : List Sums) → AreBounded n sums → AreBounded (n + 1) sums
bounded_less n sums b = (omega (arith, b.0), omega (arith, b.1), omega (arith, b.2))

bounded : (w : ℕ) (o : Option RolledRow) (q : Key) (rows : List RolledRow) → AreRows w o rows
    → AreBounded (length rows) (under q (entries_in rows))
bounded w o q [] h = (omega arith, omega arith, omega arith)
bounded w o q (r ∷ rs) h = subst (λ n. AreBounded n (under q (entries_in (r ∷ rs)))) (omega arith)
    (elim (is_key q r.key) as
    (λ b. AreBounded (length rs + 1)
    (map (λ (e : Key × Sums). e.1)
    (cond b ((r.key, sums_in r) ∷ filter (λ (e : Key × Sums). is_key q e.0) (entries_in rs))
    (filter (λ (e : Key × Sums). is_key q e.0) (entries_in rs))))) [
      | true ↦ bounded_more (length rs) r (under q (entries_in rs)) (h.0).flows (h.0).octets (h.0).packets
          (bounded w (Some r) q rs h.2)
      | false ↦ bounded_less (length rs) (under q (entries_in rs)) (bounded w (Some r) q rs h.2)
    ])

-- of rows in order only the first of a key has flows, so the flows of a key are at most those of a row
pub rows_fit : (w : ℕ) (rows : List RolledRow) → AreRows w None rows → length rows < 2 ^ 64
    → AllFit (record { width = w; sums = sums_of rows })
rows_fit w rows h lt key =
    let valid = sums_table w rows h key in
    subst (λ o. IfSome o Fits) (sym (get-gathered (entries_in rows) key))
    (fits_of (under key (entries_in rows)) (length rows) lt (bounded w None key rows h)
    (subst (λ o. IfSome o (IsTableEntry w key)) (get-gathered (entries_in rows) key) valid))
  where
    fits_of : (sums : List Sums) (n : ℕ) → n < 2 ^ 64 → AreBounded n sums
        → IfSome (some_total sums) (IsTableEntry w key)
        → IfSome (some_total sums) Fits
    fits_of [] n lt b e = tt
    fits_of (s ∷ ss) n lt b e = let f = e.flows in (omega (arith, f), omega (arith, b.1, lt), omega (arith, b.2, lt))

-- ---- a step over the rows of a message

pub at_row : (w : ℕ) (earlier list : List RolledRow) (i : ℕ) (d : RolledRow) → i < length list
    → AreRows w None (earlier ++ list)
    → AreRows w None ((earlier ++ take i list) ++ get_or list i d ∷ drop (i + 1) list)
at_row w earlier list i d lt h = subst (AreRows w None) regrouped h
  where
    regrouped : earlier ++ list ≡ (earlier ++ take i list) ++ get_or list i d ∷ drop (i + 1) list
    regrouped = ap (λ (l : List RolledRow). earlier ++ l) (sym (take-append-drop (i + 1) list)
        ∙ ap (λ (l : List RolledRow). l ++ drop (i + 1) list) (take_more list i d lt)
        ∙ append_assoc (take i list) (get_or list i d ∷ []) (drop (i + 1) list))
        ∙ sym (append_assoc earlier (take i list) (get_or list i d ∷ drop (i + 1) list))

pub rows_next : (earlier list : List RolledRow) (i : ℕ) (d : RolledRow) → i < length list
    → (earlier ++ take i list) ++ get_or list i d ∷ [] ≡ earlier ++ take (i + 1) list
rows_next earlier list i d lt = append_assoc earlier (take i list) (get_or list i d ∷ [])
    ∙ ap (λ (l : List RolledRow). earlier ++ l) (sym (take_more list i d lt))

-- the sums with this row fit
pub fits_next : (w : ℕ) (xs ys : List RolledRow) (r : RolledRow) → AreRows w None (xs ++ r ∷ ys)
    → length xs + 1 < 2 ^ 64 → AllFit (with_sums r.key (sums_in r) (record { width = w; sums = sums_of xs }))
fits_next w xs ys r h lt =
    let front = (rows_front w None (xs ++ r ∷ []) ys (subst (AreRows w None) (sym (append_assoc xs (r ∷ []) ys)) h)).0
    in
    let len = length-append xs (r ∷ []) in
    subst AllFit (sym (one_row_more w xs r)) (rows_fit w (xs ++ r ∷ []) front (omega (arith, len, lt)))
