-- A row is a whole record of its template, and rows of one kind are a Set.
use Rattle.std.proofs.Common.{◌≡◌, ℕ, ◌+◌, ◌*◌, ◌<◌, ◌≤◌, ◌-◌, Bool, true, false, inl, inr, List, [], ◌∷◌, ◌++◌, length}
use Rattle.std.proofs.Common.{map, Option, Some, None, refl, sym, ap, subst, ◌∙◌, arith}
use Rattle.std.specs.Prelude.{is_some}
use Rattle.std.specs.List.{flat_map, AllByRecursion}
use Rattle.std.specs.Int.{w16, w64, to_be_bytes}
use Rattle.std.proofs.lemmas.List.{append-nil}
use Rattle.flow_codec.specs.declared.message.Field.{Field}
use Rattle.flow_codec.specs.declared.kind.TemplateKind.{TemplateKind}
use Rattle.flow_codec.specs.declared.kind.TemplateKind.TheVariants.{Plain, Options}
use Rattle.flow_codec.specs.Layout.{Layout, set_id, smallest}
use Rattle.flow_codec.specs.Fields.{IsField, AreFields}
use Rattle.flow_codec.specs.Raw.{IsWholeRecord}
use Rattle.flow_codec.specs.Templates.{AllTemplates, definition_of, definitions_of}
use Rattle.flow_codec.specs.Message.{AreRecords, Division, IsData, IsSet, AreSets, joined, content, set_octets}
use Rattle.flow_rolled.specs.declared.row.RolledRow.{RolledRow}
use Rattle.flow_rolled.specs.Octets.{row_octets, rows_octets, row_set_octets, protocol_octets, IsOf}
use Rattle.flow_rolled.specs.AsFile.{field, with_protocol, without_protocol, rows_under}
use Rattle.flow_rolled.proofs.PartOctets.{rows_long}

-- ---- a row is a whole record of its template

pub eight : (n : ℕ) → IsField 8 (to_be_bytes w64 n) (to_be_bytes w64 n)
eight n = inl ((λ e. absurd (omega (arith, e))), refl, refl)

pub one_octet : (n : ℕ) → IsField 1 (n ∷ []) (n ∷ [])
one_octet n = inl ((λ e. absurd (omega (arith, e))), refl, refl)

abbrev pub value : ℕ → List ℕ → Field
value number octets = record { id = record { enterprise = None; number = number }; octets = octets }

abbrev counts : RolledRow → List ℕ
counts r = to_be_bytes w64 r.flows ++ (to_be_bytes w64 r.octets ++ to_be_bytes w64 r.packets)

abbrev pub row_by : ℕ → Option ℕ → RolledRow → List ℕ
row_by w protocol r = to_be_bytes w64 (r.key.start * 1000) ++ to_be_bytes w64 ((r.key.start + w) * 1000 - 1)
    ++ protocol_octets protocol ++ to_be_bytes w64 r.flows ++ to_be_bytes w64 r.octets ++ to_be_bytes w64 r.packets

pub counted : (r : RolledRow) → AreFields (field 376 8 ∷ field 1 8 ∷ field 2 8 ∷ []) (counts r)
    (value 376 (to_be_bytes w64 r.flows) ∷ value 1 (to_be_bytes w64 r.octets) ∷ value 2 (to_be_bytes w64 r.packets) ∷
    [])
counted r = (
  to_be_bytes w64 r.flows,
  to_be_bytes w64 r.octets ++ to_be_bytes w64 r.packets,
  refl,
  refl,
  eight r.flows,
  (
    to_be_bytes w64 r.octets,
    to_be_bytes w64 r.packets,
    refl,
    refl,
    eight r.octets,
    (to_be_bytes w64 r.packets, [], refl, refl, eight r.packets, refl),
  ),
)

unfoldable pub whole_with : (w : ℕ) (r : RolledRow) (p : ℕ) → IsWholeRecord with_protocol (row_by w (Some p) r)
whole_with w r p =
    let first = to_be_bytes w64 (r.key.start * 1000) in
    let second = to_be_bytes w64 ((r.key.start + w) * 1000 - 1) in (
      value 152 first ∷ value 153 second ∷ value 4 (p ∷ []) ∷ value 376 (to_be_bytes w64 r.flows)
          ∷ value 1 (to_be_bytes w64 r.octets) ∷ value 2 (to_be_bytes w64 r.packets) ∷ [],
      (
        first,
        second ++ ((p ∷ []) ++ counts r),
        refl,
        refl,
        eight (r.key.start * 1000),
        (
          second,
          (p ∷ []) ++ counts r,
          refl,
          refl,
          eight ((r.key.start + w) * 1000 - 1),
          (p ∷ [], counts r, refl, refl, one_octet p, counted r),
        ),
      ),
    )

unfoldable pub whole_none : (w : ℕ) (r : RolledRow) → IsWholeRecord without_protocol (row_by w None r)
whole_none w r =
    let first = to_be_bytes w64 (r.key.start * 1000) in
    let second = to_be_bytes w64 ((r.key.start + w) * 1000 - 1) in (
      value 152 first ∷ value 153 second ∷ value 376 (to_be_bytes w64 r.flows)
          ∷ value 1 (to_be_bytes w64 r.octets) ∷ value 2 (to_be_bytes w64 r.packets) ∷ [],
      (
        first,
        second ++ counts r,
        refl,
        refl,
        eight (r.key.start * 1000),
        (second, counts r, refl, refl, eight ((r.key.start + w) * 1000 - 1), counted r),
      ),
    )

-- by the kind of rows that a Set holds
abbrev pub id_of : Bool → ℕ
id_of true = 256
id_of false = 257

abbrev pub layout_of : Bool → Layout
layout_of true = with_protocol
layout_of false = without_protocol

whole_row : (w d : ℕ) (b : Bool) (r : RolledRow) → IsOf w d b r → IsWholeRecord (layout_of b) (row_octets w r)
whole_row w d b r h = by b r.key.protocol h.kind
  where
    by : (b : Bool) (o : Option ℕ) → is_some o ≡ b → IsWholeRecord (layout_of b) (row_by w o r)
    by true None e = absurd cc
    by true (Some p) e = whole_with w r p
    by false None e = whole_none w r
    by false (Some p) e = absurd cc

some_octets : (b : Bool) → 0 < smallest (layout_of b)
some_octets true = let e : smallest with_protocol ≡ 41 = refl in omega (arith, e)
some_octets false = let e : smallest without_protocol ≡ 40 = refl in omega (arith, e)

are_records : (w d : ℕ) (b : Bool) (rows : List RolledRow) → AllByRecursion (IsOf w d b) rows
    → AreRecords (id_of b) (layout_of b) (map (row_octets w) rows) (rows_under w (id_of b) (layout_of b) rows)
are_records w d b [] h = tt
are_records w d b (r ∷ rs) h = (some_octets b, refl, whole_row w d b r h.0, are_records w d b rs h.1)

-- ---- a Set of rows

abbrev division : ℕ → ℕ → List RolledRow → Division
division w id rows = record { id = id; records = map (row_octets w) rows; rest = [] }

joined_rows : (w : ℕ) (rows : List RolledRow) → joined (map (row_octets w) rows) ≡ rows_octets w rows
joined_rows w [] = refl
joined_rows w (r ∷ rs) = ap (λ (l : List ℕ). row_octets w r ++ l) (joined_rows w rs)

content_is : (w id : ℕ) (rows : List RolledRow) → content (division w id rows) ≡ rows_octets w rows
content_is w id rows = append-nil (joined (map (row_octets w) rows)) ∙ joined_rows w rows

set_is : (w id : ℕ) (r : RolledRow) (rs : List RolledRow)
    → set_octets (division w id (r ∷ rs)) ≡ row_set_octets w id (r ∷ rs)
set_is w id r rs = ap (λ (c : List ℕ). to_be_bytes w16 id ++ to_be_bytes w16 (4 + length c) ++ c)
    (content_is w id (r ∷ rs))

id_small : (b : Bool) → (256 ≤ id_of b) × (id_of b < 300)
id_small true = (omega arith, omega arith)
id_small false = (omega arith, omega arith)

pub no_template : (kind : TemplateKind) (n : ℕ) → 256 ≤ n → n ≡ set_id kind → ⊥
no_template Plain n large e = omega (arith, large, e)
no_template Options n large e = omega (arith, large, e)

row_set : (w d : ℕ) (b : Bool) (all : AllTemplates) (rows : List RolledRow) → length rows ≤ 1000
    → AllByRecursion (IsOf w d b) rows → definition_of (id_of b) (definitions_of d all) ≡ Some (layout_of b)
    → IsSet d all (division w (id_of b) rows) (rows_under w (id_of b) (layout_of b) rows) all
row_set w d b all rows few h there = record {
  id = let s = (id_small b).1 in omega (arith, s);
  fits = let c = ap (λ (l : List ℕ). length l) (content_is w (id_of b) rows) in let l = rows_long w rows in
      omega (arith, c, l, few);
  templates = λ kind e. absurd (no_template kind (id_of b) (id_small b).0 e);
  other = λ two three small. absurd (let s = (id_small b).0 in omega (arith, s, small));
  «data» = λ large. (
    subst (λ o. IsData (id_of b) o (division w (id_of b) rows) (rows_under w (id_of b) (layout_of b) rows)) (sym there)
        (are_records w d b rows h, inr (some_octets b)),
    refl,
  );
}

-- ---- the Sets of a message with rows

pub divisions : ℕ → ℕ → List RolledRow → List Division
divisions w id [] = []
divisions w id (r ∷ rs) = division w id (r ∷ rs) ∷ []

module _ (w d : ℕ) (all : AllTemplates)
    (there : (b : Bool) → definition_of (id_of b) (definitions_of d all) ≡ Some (layout_of b)) where
  pub row_sets : (xs ys : List RolledRow) → length xs ≤ 1000 → length ys ≤ 1000 → AllByRecursion (IsOf w d true) xs
      → AllByRecursion (IsOf w d false) ys
      → AreSets d all (divisions w 256 xs ++ divisions w 257 ys)
      (rows_under w 256 with_protocol xs ++ rows_under w 257 without_protocol ys) all
  unfolding divisions
  row_sets [] [] fx fy hx hy = (refl, refl)
  row_sets [] (y ∷ ys) fx fy hx hy = (
    rows_under w 257 without_protocol (y ∷ ys),
    [],
    all,
    row_set w d false all (y ∷ ys) fy hy (there false),
    (refl, refl),
    sym (append-nil (rows_under w 257 without_protocol (y ∷ ys))),
  )
  row_sets (x ∷ xs) [] fx fy hx hy = (
    rows_under w 256 with_protocol (x ∷ xs),
    [],
    all,
    row_set w d true all (x ∷ xs) fx hx (there true),
    (refl, refl),
    refl,
  )
  row_sets (x ∷ xs) (y ∷ ys) fx fy hx hy = (
    rows_under w 256 with_protocol (x ∷ xs),
    rows_under w 257 without_protocol (y ∷ ys),
    all,
    row_set w d true all (x ∷ xs) fx hx (there true),
    (
      rows_under w 257 without_protocol (y ∷ ys),
      [],
      all,
      row_set w d false all (y ∷ ys) fy hy (there false),
      (refl, refl),
      sym (append-nil (rows_under w 257 without_protocol (y ∷ ys))),
    ),
    refl,
  )

pub row_octets_of : (w : ℕ) (xs ys : List RolledRow)
    → flat_map set_octets (divisions w 256 xs ++ divisions w 257 ys)
    ≡ row_set_octets w 256 xs ++ row_set_octets w 257 ys
unfolding divisions
row_octets_of w [] [] = refl
row_octets_of w [] (y ∷ ys) = append-nil (set_octets (division w 257 (y ∷ ys))) ∙ set_is w 257 y ys
row_octets_of w (x ∷ xs) [] = ap (λ (l : List ℕ). l ++ []) (set_is w 256 x xs)
row_octets_of w (x ∷ xs) (y ∷ ys) =
    (λ i. set_is w 256 x xs i ++ (append-nil (set_octets (division w 257 (y ∷ ys))) ∙ set_is w 257 y ys) i)
