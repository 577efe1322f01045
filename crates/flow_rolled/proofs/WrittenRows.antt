-- Rows and Sets as they are written.
use Rattle.std.proofs.Common.{◌≡◌, ℕ, suc, ◌+◌, ◌-◌, ◌/◌, ◌<◌, ◌≤◌, ◌⊎◌, inl, inr, ⊎_elim, Bool, true, false}
use Rattle.std.proofs.Common.{cond, not, List, [], ◌∷◌, ◌++◌, length, take, get_or, refl, sym, ap, ◌∙◌, arith}
use Rattle.std.proofs.Common.{append_assoc, length-append}
use Rattle.std.specs.Prelude.{filter, is_some, nat_lt}
use Rattle.std.proofs.lemmas.List.{append-nil, take_more}
use Rattle.std.proofs.lemmas.List.Elements.{filter-append}
use Rattle.std.proofs.lemmas.Bool.{ltb-true, ltb-false}
use Rattle.flow_measure.specs.declared.rows.Key.{Key}
use Rattle.flow_measure.specs.declared.rows.Sums.{Sums}
use Rattle.flow_rolled.specs.declared.row.RolledRow.{RolledRow}
use Rattle.flow_rolled.specs.Rows.{most, row_of, left_of, further, rows_from}
use Rattle.flow_rolled.specs.Octets.{row_octets, rows_octets, row_set_octets, set_around, sets_of, of_kind}
use Rattle.flow_rolled.specs.Octets.{has_protocol}
use Rattle.flow_rolled.specs.Octets.{has_none}
use Rattle.flow_rolled.proofs.PartOctets.{rows_long}
use Rattle.flow_rolled.proofs.SoFar.{count_parted}
use Rattle.flow_rolled.proofs.RowSets.{rows_joined}

-- ---- a key's rows

greater : (a b : ℕ) → ((a ≤ b) × (cond (nat_lt a b) b a ≡ b)) ⊎ ((b ≤ a) × (cond (nat_lt a b) b a ≡ a))
greater a b = elim (nat_lt a b) as (λ t. nat_lt a b ≡ t → ((a ≤ b) × (cond t b a ≡ b)) ⊎ ((b ≤ a) × (cond t b a ≡ a))) [
  | true ↦ λ e. let lt = ltb-true a b e in inl (omega (arith, lt), refl)
  | false ↦ λ e. let ge = ltb-false a b e in inr (omega (arith, ge), refl)
] refl

-- the last row of a key
pub last_row : (key : Key) (s : Sums) → s.octets ≤ most → s.packets ≤ most
    → rows_from (further s) key s ≡ row_of key s ∷ []
unfolding rows_from
last_row key s o p =
    let none : further s ≡ 0 =
    ⊎_elim (λ g. g.1 ∙ (omega arith)) (λ g. g.1
    ∙ (omega arith)) (greater ((s.octets - 1) / most) ((s.packets - 1) / most)) in
    ap (λ n. rows_from n key s) none

-- a row with others after it
pub row_more : (key : Key) (s : Sums) → (most < s.octets) ⊎ (most < s.packets)
    → rows_from (further s) key s ≡ row_of key s ∷ rows_from (further (left_of s)) key (left_of s)
unfolding rows_from
row_more key s some =
    let g = greater ((s.octets - 1) / most) ((s.packets - 1) / most) in
    let h = greater (((s.octets - most) - 1) / most) (((s.packets - most) - 1) / most) in
    let more : further s ≡ suc (further (left_of s)) =
    ⊎_elim (λ a. ⊎_elim (λ b. omega (arith, a.0, a.1, b.0, b.1, some))
    (λ b. omega (arith, a.0, a.1, b.0, b.1, some)) h)
    (λ a. ⊎_elim (λ b. omega (arith, a.0, a.1, b.0, b.1, some)) (λ b. omega (arith, a.0, a.1, b.0, b.1, some)) h) g
    in
    ap (λ n. rows_from n key s) more

-- fewer rows are left after a row
pub fewer_left : (s : Sums) → (most < s.octets) ⊎ (most < s.packets) → further (left_of s) < further s
fewer_left s some =
    let g = greater ((s.octets - 1) / most) ((s.packets - 1) / most) in
    let h = greater (((s.octets - most) - 1) / most) (((s.packets - most) - 1) / most) in
    ⊎_elim (λ a. ⊎_elim (λ b. omega (arith, a.0, a.1, b.0, b.1, some))
    (λ b. omega (arith, a.0, a.1, b.0, b.1, some)) h)
    (λ a. ⊎_elim (λ b. omega (arith, a.0, a.1, b.0, b.1, some)) (λ b. omega (arith, a.0, a.1, b.0, b.1, some)) h) g

-- ---- the rows of a Set

pub of_its_kind : (b : Bool) (r : RolledRow) → is_some r.key.protocol ≡ b → of_kind b r ≡ true
of_its_kind true r e = e
of_its_kind false r e = ap not e

pub of_the_other : (b t : Bool) (r : RolledRow) → is_some r.key.protocol ≡ t → (t ≡ b → ⊥) → of_kind b r ≡ false
of_the_other true true r e differs = absurd (differs refl)
of_the_other true false r e differs = e
of_the_other false true r e differs = ap not e
of_the_other false false r e differs = absurd (differs refl)

-- one row more
pub row_written : (w : ℕ) (b : Bool) (rows : List RolledRow) (i : ℕ) (d : RolledRow) → i < length rows
    → rows_octets w (filter (of_kind b) (take (i + 1) rows)) ≡ rows_octets w (filter (of_kind b) (take i rows)) ++ cond
    (of_kind b (get_or rows i d)) (row_octets w (get_or rows i d)) []
row_written w b rows i d lt =
    let r = get_or rows i d in
    ap (λ (l : List RolledRow). rows_octets w (filter (of_kind b) l)) (take_more rows i d lt)
    ∙ ap (rows_octets w) (filter-append (of_kind b) (take i rows) (r ∷ []))
    ∙ rows_joined w (filter (of_kind b) (take i rows)) (filter (of_kind b) (r ∷ []))
    ∙ ap (λ (l : List ℕ). rows_octets w (filter (of_kind b) (take i rows)) ++ l)
    (elim (of_kind b r) as (λ t. rows_octets w (cond t (r ∷ []) []) ≡ cond t (row_octets w r) []) [
      | true ↦
          append-nil (row_octets w r)
      | false ↦ refl
    ])

pub same_around : (w n : ℕ) (rows : List RolledRow) → set_around n (rows_octets w rows) ≡ row_set_octets w n rows
same_around w n [] = refl
same_around w n (r ∷ rs) = refl

pub both_written : (w : ℕ) (rows : List RolledRow) → 0 < length rows
    → set_around 256 (rows_octets w (filter (of_kind true) rows)) ++ set_around 257
    (rows_octets w (filter (of_kind false) rows)) ≡ sets_of w rows
both_written w [] some = absurd (omega (arith, some))
both_written w (r ∷ rs) some =
    λ i. same_around w 256 (filter has_protocol (r ∷ rs)) i ++ same_around w 257 (filter has_none (r ∷ rs)) i

-- their octets are few
pub few_octets : (w : ℕ) (b : Bool) (rows : List RolledRow) → length rows ≤ 1000
    → length (rows_octets w (filter (of_kind b) rows)) ≤ 41000
few_octets w b rows few = let l = rows_long w (filter (of_kind b) rows) in let k = fewer b in omega (arith, l, k, few)
  where
    fewer : (b : Bool) → length (filter (of_kind b) rows) ≤ length rows
    fewer true = let c = count_parted rows in omega (arith, c)
    fewer false = let c = count_parted rows in omega (arith, c)

around_long : (n : ℕ) (body : List ℕ) → length (set_around n body) ≤ 4 + length body
around_long n [] = omega arith
around_long n (x ∷ xs) = omega arith

pub sets_short : (w : ℕ) (rows : List RolledRow) → length rows ≤ 1000 → 0 < length rows
    → length (sets_of w rows) ≤ 41008
sets_short w rows few some =
    let a = ap (λ (l : List ℕ). length l) (both_written w rows some) in
    let b = length-append (set_around 256 (rows_octets w (filter (of_kind true) rows)))
    (set_around 257 (rows_octets w (filter (of_kind false) rows))) in
    let c = around_long 256 (rows_octets w (filter (of_kind true) rows)) in
    let d = around_long 257 (rows_octets w (filter (of_kind false) rows)) in
    let e = rows_long w (filter (of_kind true) rows) in
    let f = rows_long w (filter (of_kind false) rows) in
    let g = count_parted rows in
    omega (arith, a, b, c, d, e, f, g, few)

-- ---- octets appended one after the other

pub put_six : (old a b p f o k x1 x2 x3 x4 x5 x6 : List ℕ) → x1 ≡ old ++ a → x2 ≡ x1 ++ b → x3 ≡ x2 ++ p → x4 ≡ x3 ++ f
    → x5 ≡ x4 ++ o → x6 ≡ x5 ++ k → x6 ≡ old ++ (a ++ b ++ p ++ f ++ o ++ k)
put_six old a b p f o k x1 x2 x3 x4 x5 x6 e1 e2 e3 e4 e5 e6 =
    e6 ∙ ap (λ (l : List ℕ). l ++ k) (e5
    ∙ ap (λ (l : List ℕ). l ++ o) (e4
    ∙ ap (λ (l : List ℕ). l ++ f) (e3 ∙ ap (λ (l : List ℕ). l ++ p) (e2 ∙ ap (λ (l : List ℕ). l ++ b) e1))))
    ∙ regroup
  where
    regroup : old ++ a ++ b ++ p ++ f ++ o ++ k ≡ old ++ (a ++ b ++ p ++ f ++ o ++ k)
    regroup = simp append_assoc

-- a row appended to others, and the rows that are still to come
pub row_put : (key : Key) (s t : Sums) (items new : List RolledRow) (r : RolledRow) → (most < s.octets)
    ⊎ (most < s.packets) → new ≡ items ++ r ∷ [] → r ≡ row_of key s → t ≡ left_of s
    → new ++ rows_from (further t) key t ≡ items ++ rows_from (further s) key s
row_put key s t items new r some e er et =
    (λ i. e i ++ rows_from (further (et i)) key (et i))
    ∙ append_assoc items (r ∷ []) (rows_from (further (left_of s)) key (left_of s))
    ∙ ap (λ (l : List RolledRow). items ++ l) ((λ i. er i ∷ rows_from (further (left_of s)) key (left_of s))
    ∙ sym (row_more key s some))

pub last_put : (key : Key) (s : Sums) (items new : List RolledRow) (r : RolledRow) → s.octets ≤ most → s.packets ≤ most
    → new ≡ items ++ r ∷ [] → r ≡ row_of key s → new ≡ items ++ rows_from (further s) key s
last_put key s items new r o p e er = e
    ∙ ap (λ (l : List RolledRow). items ++ l) ((λ i. er i ∷ []) ∙ sym (last_row key s o p))
