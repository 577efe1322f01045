-- Rows and Sets as they are read.
use Rattle.std.proofs.Common.{◌≡◌, ◌≢◌, ℕ, ◌+◌, ◌^◌, ◌<◌, ◌≤◌, Bool, true, false, not, cond, List, [], ◌∷◌}
use Rattle.std.proofs.Common.{◌++◌, length, refl, sym, ap, subst, ◌∙◌, arith, append_assoc, length-append}
use Rattle.std.specs.Prelude.{filter}
use Rattle.std.specs.List.{AllByRecursion}
use Rattle.std.specs.Int.{w16, to_be_bytes}
use Rattle.std.proofs.lemmas.List.{append-nil}
use Rattle.std.proofs.lemmas.List.Elements.{filter-append}
use Rattle.flow_rolled.specs.declared.row.RolledRow.{RolledRow}
use Rattle.flow_rolled.specs.Octets.{row_octets, rows_octets, row_set_octets, sets_of, has_protocol, has_none}
use Rattle.flow_rolled.specs.Octets.{IsOf, AreOf, IsOther, IsSet}
use Rattle.flow_rolled.proofs.PartOctets.{same_front, same_number, same_row, row_long, rows_long}
use Rattle.flow_rolled.proofs.PartOctets.{wide16}
use Rattle.flow_rolled.proofs.Judgement.{all_joined}

-- ---- rows, one after the other

pub rows_joined : (w : ℕ) (xs ys : List RolledRow) → rows_octets w (xs ++ ys) ≡ rows_octets w xs ++ rows_octets w ys
rows_joined w [] ys = refl
rows_joined w (x ∷ xs) ys = ap (λ (l : List ℕ). row_octets w x ++ l) (rows_joined w xs ys)
    ∙ sym (append_assoc (row_octets w x) (rows_octets w xs) (rows_octets w ys))

-- what is left of the octets is the rest of all rows, if they are rows at all
abbrev pub AreLeft : ℕ → ℕ → Bool → List ℕ → List ℕ → Type 0
AreLeft w d b octets rest = (all : List RolledRow) → AllByRecursion (IsOf w d b) all → octets ≡ rows_octets w all
    → (left : List RolledRow) × AllByRecursion (IsOf w d b) left × (rest ≡ rows_octets w left)

pub record AreRead (w d : ℕ) (b : Bool) (octets rest : List ℕ) (rows : List RolledRow) : Type 0 where
  pub all : AllByRecursion (IsOf w d b) rows
  pub read : octets ≡ rows_octets w rows ++ rest
  pub others : AreLeft w d b octets rest

pub none_read : (w d : ℕ) (b : Bool) (octets : List ℕ) (rows : List RolledRow) → rows ≡ []
    → AreRead w d b octets octets rows
none_read w d b octets rows none =
    subst (AreRead w d b octets octets) (sym none) (record { all = tt; read = refl; others = λ all h e. (all, h, e) })

left_more : (w d : ℕ) (b : Bool) (r : RolledRow) (rest after : List ℕ) (left : List RolledRow) → w < 2 ^ 32
    → IsOf w d b r → rest ≡ row_octets w r ++ after → AllByRecursion (IsOf w d b) left → rest ≡ rows_octets w left
    → (more : List RolledRow) × AllByRecursion (IsOf w d b) more × (after ≡ rows_octets w more)
left_more w d b r rest after [] wide is found h e =
    absurd (let l = ap (λ (x : List ℕ). length x) (sym e ∙ found) in let m = length-append (row_octets w r) after in
    let n = (row_long w r).0 in omega (arith, l, m, n))
left_more w d b r rest after (q ∷ qs) wide is found h e =
    (qs, h.1, (same_row w d b r q after (rows_octets w qs) wide is h.0 (sym found ∙ e)).1)

pub one_more_read : (w d : ℕ) (b : Bool) (octets rest after : List ℕ) (rows new : List RolledRow) (r : RolledRow)
    → w < 2 ^ 32 → IsOf w d b r → rest ≡ row_octets w r ++ after → new ≡ rows ++ r ∷ []
    → AreRead w d b octets rest rows → AreRead w d b octets after new
one_more_read w d b octets rest after rows new r wide is found new_is h =
    subst (AreRead w d b octets after) (sym new_is) (record {
      all = all_joined (IsOf w d b) rows (r ∷ []) h.all (is, tt);
      read = h.read ∙ ap (λ (l : List ℕ). rows_octets w rows ++ l) found
          ∙ sym (append_assoc (rows_octets w rows) (row_octets w r) after)
          ∙ ap (λ (l : List ℕ). rows_octets w rows ++ l ++ after) (sym (append-nil (row_octets w r)))
          ∙ ap (λ (l : List ℕ). l ++ after) (sym (rows_joined w rows (r ∷ [])));
      others = λ all all_are e. let left = h.others all all_are e in
          left_more w d b r rest after left.0 wide is found left.1 left.2;
    })

-- where octets don't begin with a row, they are no rows
pub no_rows : (w d : ℕ) (b : Bool) (octets rest : List ℕ) → 0 < length rest → AreLeft w d b octets rest
    → ((r : RolledRow) (more : List ℕ) → IsOf w d b r → rest ≢ row_octets w r ++ more)
    → (all : List RolledRow) → AllByRecursion (IsOf w d b) all → octets ≢ rows_octets w all
no_rows w d b octets rest some others none all h e = let left = others all h e in stuck left.0 left.1 left.2
  where
    stuck : (left : List RolledRow) → AllByRecursion (IsOf w d b) left → rest ≡ rows_octets w left → ⊥
    stuck [] h e = let l = ap (λ (x : List ℕ). length x) e in omega (arith, l, some)
    stuck (q ∷ qs) h e = none q (rows_octets w qs) h.0 e

pub all_read : (w : ℕ) (octets rest : List ℕ) (rows : List RolledRow) → octets ≡ rows_octets w rows ++ rest → rest ≡ []
    → octets ≡ rows_octets w rows
all_read w octets rest rows e none = e ∙ ap (λ (l : List ℕ). rows_octets w rows ++ l) none
    ∙ append-nil (rows_octets w rows)

-- ---- a Set

abbrev pub in_front : ℕ → List ℕ → List ℕ
in_front n xs = to_be_bytes w16 n ++ xs

set_is : (w n : ℕ) (r : RolledRow) (rs : List RolledRow) (more : List ℕ)
    → row_set_octets w n (r ∷ rs) ++ more ≡ in_front n
    (to_be_bytes w16 (4 + length (rows_octets w (r ∷ rs))) ++ (rows_octets w (r ∷ rs) ++ more))
set_is w n r rs more = refl

-- octets that don't begin with the Set's number are other ones
pub not_it : (n m : ℕ) (octets rest : List ℕ) → n < 2 ^ 16 → m < 2 ^ 16 → m ≢ n → octets ≡ in_front m rest
    → IsOther n octets
not_it n m octets rest small small_2 other is more e =
    other (same_number w16 (2 ^ 16) wide16 m n rest more small_2 small (sym is ∙ e)).0

pub not_short : (n : ℕ) (octets : List ℕ) → length octets < 2 → IsOther n octets
not_short n octets short more e = let l = ap (λ (x : List ℕ). length x) e in omega (arith, l, short)

-- of other octets a Set without rows is taken
pub none_taken : (w d n : ℕ) (b : Bool) (octets : List ℕ) (new rows : List RolledRow) (more : List ℕ) → new ≡ []
    → IsOther n octets → IsSet w d n b octets rows more → (new ≡ rows) × (octets ≡ more)
none_taken w d n b octets new [] more none other h = (none, h.is)
none_taken w d n b octets new (r ∷ rs) more none other h =
    absurd (other (to_be_bytes w16 (4 + length (rows_octets w (r ∷ rs))) ++ (rows_octets w (r ∷ rs) ++ more)) h.is)

-- a Set that begins with its number has rows
pub record IsSetHead (w d n : ℕ) (b : Bool) (rest : List ℕ) (rows : List RolledRow) (more : List ℕ) : Type 0 where
  pub some : 0 < length rows
  pub few : length rows ≤ 1000
  pub all : AllByRecursion (IsOf w d b) rows
  pub is : rest ≡ to_be_bytes w16 (4 + length (rows_octets w rows)) ++ (rows_octets w rows ++ more)

pub set_head : (w d n : ℕ) (b : Bool) (octets rest : List ℕ) (rows : List RolledRow) (more : List ℕ) → n < 2 ^ 16
    → octets ≡ in_front n rest → IsSet w d n b octets rows more → IsSetHead w d n b rest rows more
set_head w d n b octets rest [] more small is h = absurd (h.other rest (sym h.is ∙ is))
set_head w d n b octets rest (r ∷ rs) more small is h = record {
  some = omega arith;
  few = h.few;
  all = h.all;
  is = (same_number w16 (2 ^ 16) wide16 n n rest
      (to_be_bytes w16 (4 + length (rows_octets w (r ∷ rs))) ++ (rows_octets w (r ∷ rs) ++ more)) small small (sym is
      ∙ h.is)).1;
}

pub set_cut : (w d n : ℕ) (b : Bool) (rest : List ℕ) (rows : List RolledRow) (more : List ℕ)
    → IsSetHead w d n b rest rows more → 2 ≤ length rest
set_cut w d n b rest rows more h = let l = ap (λ (x : List ℕ). length x) h.is in omega (arith, l)

-- its Length, and the octets after it
pub record IsSetBody (w len : ℕ) (rest : List ℕ) (rows : List RolledRow) (more : List ℕ) : Type 0 where
  pub len_is : len ≡ 4 + length (rows_octets w rows)
  pub rest_is : rest ≡ rows_octets w rows ++ more
  pub some : 0 < length (rows_octets w rows)

some_octets : (w : ℕ) (rows : List RolledRow) → 0 < length rows → 0 < length (rows_octets w rows)
some_octets w [] h = absurd (omega (arith, h))
some_octets w (r ∷ rs) h = let l = length-append (row_octets w r) (rows_octets w rs) in let n = (row_long w r).0 in
    omega (arith, l, n)

pub set_body : (w d n : ℕ) (b : Bool) (rest : List ℕ) (rows : List RolledRow) (more : List ℕ) (len : ℕ)
    (behind : List ℕ) → len < 2 ^ 16 → rest ≡ in_front len behind → IsSetHead w d n b rest rows more
    → IsSetBody w len behind rows more
set_body w d n b rest rows more len behind small is h =
    let a = rows_long w rows in
    let f = h.few in
    let x = same_number w16 (2 ^ 16) wide16 len (4 + length (rows_octets w rows)) behind
    (rows_octets w rows ++ more) small (omega (arith, a, f)) (sym is ∙ h.is) in
    record { len_is = x.0; rest_is = x.1; some = some_octets w rows h.some }

-- a Length that doesn't fit
pub not_long : (w len : ℕ) (rest : List ℕ) (rows : List RolledRow) (more : List ℕ) → IsSetBody w len rest rows more
    → (4 < len) × (len ≤ 4 + length rest)
not_long w len rest rows more h =
    let l = ap (λ (x : List ℕ). length x) h.rest_is in
    let m = length-append (rows_octets w rows) more in
    let n = h.len_is in
    let s = h.some in
    (omega (arith, n, s), omega (arith, l, m, n))

-- the octets that the Length counts are the rows
pub body_is : (w len : ℕ) (rest body after : List ℕ) (rows : List RolledRow) (more : List ℕ) → rest ≡ body ++ after
    → length body + 4 ≡ len → IsSetBody w len rest rows more → (body ≡ rows_octets w rows) × (after ≡ more)
body_is w len rest body after rows more is long h =
    same_front body (rows_octets w rows) after more (let n = h.len_is in omega (arith, n, long)) (sym is ∙ h.rest_is)

-- a Set as it was read
pub set_made : (w n len : ℕ) (octets rest behind body after : List ℕ) (rows : List RolledRow)
    → octets ≡ in_front n rest → rest ≡ in_front len behind → behind ≡ body ++ after → body ≡ rows_octets w rows
    → length body + 4 ≡ len → 4 < len
    → octets ≡ row_set_octets w n rows ++ after
set_made w n len octets rest behind body after [] a b c e long some =
    absurd (let l = ap (λ (x : List ℕ). length x) e in omega (arith, l, long, some))
set_made w n len octets rest behind body after (r ∷ rs) a b c e long some =
    let rows = r ∷ rs in
    let len_is : len ≡ 4 + length (rows_octets w rows) = let l = ap (λ (x : List ℕ). length x) e in
    omega (arith, l, long) in
    a ∙ ap (in_front n) (b ∙ (λ i. in_front (len_is i) ((c ∙ ap (λ (l : List ℕ). l ++ after) e) i)))

-- ---- both Sets

pub sets_some : (w : ℕ) (rows : List RolledRow) → 0 < length rows
    → sets_of w rows ≡ row_set_octets w 256 (filter has_protocol rows) ++ row_set_octets w 257 (filter has_none rows)
sets_some w [] h = absurd (omega (arith, h))
sets_some w (r ∷ rs) h = refl

set_other : (w : ℕ) (rows : List RolledRow) → IsOther 256 (row_set_octets w 257 rows)
set_other w [] more e = let l = ap (λ (x : List ℕ). length x) e in omega (arith, l)
set_other w (r ∷ rs) more e = let n =
    (same_number w16 (2 ^ 16) wide16 257 256
    (to_be_bytes w16 (4 + length (rows_octets w (r ∷ rs))) ++ rows_octets w (r ∷ rs)) more (omega arith)
    (omega arith) e).0 in omega (arith, n)

fewer : (w d : ℕ) (rows : List RolledRow) → AreOf w d rows
    → length (filter has_protocol rows) + length (filter has_none rows) ≤ 1000
fewer w d rows h = let l = ap (λ (x : List RolledRow). length x) h.parted in let m =
    length-append (filter has_protocol rows) (filter has_none rows) in let f = h.few in omega (arith, l, m, f)

-- rows of a message are a Set of those with a protocol and one of the others
pub first_set : (w d : ℕ) (octets : List ℕ) (rows : List RolledRow) → AreOf w d rows → 0 < length rows
    → octets ≡ sets_of w rows
    → IsSet w d 256 true octets (filter has_protocol rows) (row_set_octets w 257 (filter has_none rows))
first_set w d octets rows h some e =
    record {
      is = e ∙ sets_some w rows some;
      all = h.with;
      few = let f = fewer w d rows h in omega (arith, f);
      other =
          set_other w (filter has_none rows);
    }

pub second_set : (w d : ℕ) (rest : List ℕ) (rows : List RolledRow) → AreOf w d rows
    → rest ≡ row_set_octets w 257 (filter has_none rows) → IsSet w d 257 false rest (filter has_none rows) []
second_set w d rest rows h e = record {
  is = e ∙ sym (append-nil (row_set_octets w 257 (filter has_none rows)));
  all =
      h.without;
  few = let f = fewer w d rows h in omega (arith, f);
  other = not_short 257 [] (omega arith);
}

-- the rows of both are those of the message
pub both_sets : (w d : ℕ) (rows : List RolledRow) → AreOf w d rows → (xs ys : List RolledRow)
    → xs ≡ filter has_protocol rows → ys ≡ filter has_none rows → xs ++ ys ≡ rows
both_sets w d rows h xs ys ex ey = (λ i. ex i ++ ey i) ∙ h.parted

kept : (w d : ℕ) (xs : List RolledRow) → AllByRecursion (IsOf w d true) xs
    → (filter has_protocol xs ≡ xs) × (filter has_none xs ≡ [])
kept w d [] h = (refl, refl)
kept w d (x ∷ xs) h =
    let k = (h.0).kind in
    let rest = kept w d xs h.1 in (
      ap (λ b. cond b (x ∷ filter has_protocol xs) (filter has_protocol xs)) k
          ∙ ap (λ (l : List RolledRow). x ∷ l) rest.0,
      ap (λ b. cond (not b) (x ∷ filter has_none xs) (filter has_none xs)) k ∙ rest.1,
    )

left_out : (w d : ℕ) (xs : List RolledRow) → AllByRecursion (IsOf w d false) xs
    → (filter has_protocol xs ≡ []) × (filter has_none xs ≡ xs)
left_out w d [] h = (refl, refl)
left_out w d (x ∷ xs) h =
    let k = (h.0).kind in
    let rest = left_out w d xs h.1 in (
      ap (λ b. cond b (x ∷ filter has_protocol xs) (filter has_protocol xs)) k
          ∙ rest.0,
      ap (λ b. cond (not b) (x ∷ filter has_none xs) (filter has_none xs)) k
          ∙ ap (λ (l : List RolledRow). x ∷ l) rest.1,
    )

pub kinds : (w d : ℕ) (xs ys rows : List RolledRow) → rows ≡ xs ++ ys → AllByRecursion (IsOf w d true) xs
    → AllByRecursion (IsOf w d false) ys → (filter has_protocol rows ≡ xs) × (filter has_none rows ≡ ys)
kinds w d xs ys rows is hx hy =
    let a = kept w d xs hx in
    let b = left_out w d ys hy in (
      ap (filter has_protocol) is ∙ filter-append has_protocol xs ys ∙ (λ i. (a.0) i ++ (b.0) i)
          ∙ append-nil xs,
      ap (filter has_none) is ∙ filter-append has_none xs ys ∙ (λ i. (a.1) i ++ (b.1) i),
    )

pub are_of_sets : (w d : ℕ) (xs ys rows : List RolledRow) → rows ≡ xs ++ ys → length rows ≤ 1000
    → AllByRecursion (IsOf w d true) xs → AllByRecursion (IsOf w d false) ys → AreOf w d rows
are_of_sets w d xs ys rows is few hx hy =
    let k = kinds w d xs ys rows is hx hy in
    record {
      few = few;
      with = subst (AllByRecursion (IsOf w d true)) (sym k.0) hx;
      without =
          subst (AllByRecursion (IsOf w d false)) (sym k.1) hy;
      parted = (λ i. (k.0) i ++ (k.1) i) ∙ sym is;
    }

pub sets_made : (w d : ℕ) (octets rest left : List ℕ) (xs ys rows : List RolledRow) → rows ≡ xs ++ ys → 0 < length rows
    → AllByRecursion (IsOf w d true) xs → AllByRecursion (IsOf w d false) ys
    → octets ≡ row_set_octets w 256 xs ++ rest → rest ≡ row_set_octets w 257 ys ++ left → left ≡ []
    → octets ≡ sets_of w rows
sets_made w d octets rest left xs ys rows is some hx hy e f none =
    let k = kinds w d xs ys rows is hx hy in
    e ∙ ap (λ (l : List ℕ). row_set_octets w 256 xs ++ l) (f ∙ ap (λ (l : List ℕ). row_set_octets w 257 ys ++ l) none
    ∙ append-nil (row_set_octets w 257 ys))
    ∙ (λ i. row_set_octets w 256 (sym k.0 i) ++ row_set_octets w 257 (sym k.1 i)) ∙ sym (sets_some w rows some)

pub no_octets : (rest : List ℕ) → length rest ≡ 0 → rest ≡ []
no_octets [] h = refl
no_octets (x ∷ xs) h = absurd (omega (arith, h))
