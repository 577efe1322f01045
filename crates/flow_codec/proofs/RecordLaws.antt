-- Data records: what is read is a division, and each division is read.
use Rattle.std.proofs.Common.{◌≡◌, ℕ, zero, suc, ◌+◌, ◌-◌, ◌<◌, ◌≤◌, true, false, ltb, eqb, List, [], ◌∷◌, ◌++◌, length}
use Rattle.std.proofs.Common.{Option, Some, None, Result, Ok, Err, refl, sym, ap, subst, ◌∙◌, append_assoc, arith, inl}
use Rattle.std.proofs.Common.{inr}
use Rattle.std.proofs.lemmas.Bool.{ltb-true, le-ltb, lt-ltb, ne_eqb, eqb-false, eqb-true}
use Rattle.std.proofs.lemmas.List.{append-nil, length-append}
use Rattle.std.proofs.lemmas.List.Concat.{flat_map-cons}
use Rattle.flow_codec.specs.declared.error.MessageError.{MessageError}
use Rattle.flow_codec.specs.Layout.{Layout, smallest}
use Rattle.flow_codec.specs.Raw.{RawRecord, raw, IsWholeRecord}
use Rattle.flow_codec.specs.Reading.{◌>>=◌, extent_at, records_at, records_of, data_at}
use Rattle.flow_codec.specs.Message.{AreRecords, IsData, joined}
use Rattle.flow_codec.proofs.Steps.{bind_ok, ok_is, chosen}
use Rattle.flow_codec.proofs.NumberLaws.{IsBytes}
use Rattle.flow_codec.proofs.FieldLaws.{suffix, extent_takes, extent_again, extent_long}

pub whole_long : (layout : Layout) (octets : List ℕ) → IsWholeRecord layout octets → smallest layout ≤ length octets
whole_long layout octets h = extent_long layout.fields octets h.0 h.1

pub records_take : (n end id : ℕ) (layout : Layout) (octets : List ℕ) (xs : List RawRecord) → IsBytes octets
    → length octets ≤ n → 0 < smallest layout → records_at n end id layout octets ≡ Ok xs
    → (rs : List (List ℕ)) × (rest : List ℕ) × (octets ≡ joined rs ++ rest) × AreRecords id layout rs xs
    × (length rest < smallest layout)
unfolding records_at
records_take zero end id layout octets xs fits le some e =
    let P : List RawRecord → Type 0 = λ ys. (rs : List (List ℕ)) × (rest : List ℕ) × (octets ≡ joined rs ++ rest)
    × AreRecords id layout rs ys × (length rest < smallest layout) in
    subst P (ok_is [] xs e) ([], octets, refl, tt, omega arith)
records_take (suc n) end id layout octets xs fits le some e =
    elim (chosen (ltb (length octets) (smallest layout)) (Ok [])
    (extent_at (end - length octets) layout.fields octets >>= λ whole. records_at n end id layout whole.1 >>=
    λ others. Ok (one whole.0 ∷ others)) (Ok xs) e) [
      | inl w ↦ subst P (ok_is [] xs w.1) ([], octets, refl, tt, ltb-true _ _ w.0)
      | inr w ↦
          let a = bind_ok (extent_at (end - length octets) layout.fields octets)
          (λ whole. records_at n end id layout whole.1 >>= λ others. Ok (one whole.0 ∷ others)) xs w.1 in
          let b = bind_ok (records_at n end id layout a.0.1) (λ others. Ok (one a.0.0 ∷ others)) xs a.2 in
          let first = extent_takes (end - length octets) layout.fields octets a.0 fits a.1 in
          let long = whole_long layout a.0.0 first.1 in
          let size : length octets ≡ length a.0.0 + length a.0.1 = ap length first.0 ∙ length-append a.0.0 a.0.1 in
          let rest : IsBytes a.0.1 = suffix a.0.0 a.0.1 (subst IsBytes first.0 fits) in
          let more = records_take n end id layout a.0.1 b.0 rest (omega arith) some b.1 in
          let parts : octets ≡ joined (a.0.0 ∷ more.0) ++ more.1 = first.0 ∙ ap (λ (t : List ℕ). a.0.0 ++ t) more.2
          ∙ sym (append_assoc a.0.0 (joined more.0) more.1)
          ∙ ap (λ (t : List ℕ). t ++ more.1) (sym (flat_map-cons (λ r. r) a.0.0 more.0)) in
          subst P (ok_is (one a.0.0 ∷ b.0) xs b.2) (
            a.0.0 ∷ more.0,
            more.1,
            parts,
            (some, refl, first.1, more.3),
            more.4,
          )
    ]
  where
    P : List RawRecord → Type 0
    P ys = (rs : List (List ℕ)) × (rest : List ℕ) × (octets ≡ joined rs ++ rest) × AreRecords id layout rs ys
        × (length rest < smallest layout)

    one : List ℕ → RawRecord
    one octets = raw id layout octets

-- Reading goes on after whole records, whatever follows them. Both what is read and the first cut record follow from
-- this.
abbrev pub with_records : List RawRecord → Result (List RawRecord) MessageError → Result (List RawRecord) MessageError
with_records front read = read >>= λ xs. Ok (front ++ xs)

before_front : (a : RawRecord) (front : List RawRecord) (read : Result (List RawRecord) MessageError)
    → (with_records front read >>= λ xs. Ok (a ∷ xs)) ≡ with_records (a ∷ front) read
before_front a front (Ok xs) = refl
before_front a front (Err d) = refl

nothing : (read : Result (List RawRecord) MessageError) → read ≡ with_records [] read
nothing (Ok xs) = refl
nothing (Err d) = refl

pub records_go_on : (n end id : ℕ) (layout : Layout) (rs : List (List ℕ)) (xs : List RawRecord) (tail : List ℕ)
    → AreRecords id layout rs xs → length (joined rs ++ tail) ≤ n
    → (m : ℕ) × (length tail ≤ m)
    × (records_at n end id layout (joined rs ++ tail) ≡ with_records xs (records_at m end id layout tail))
unfolding records_at
records_go_on n end id layout [] [] tail h le = (n, le, nothing (records_at n end id layout tail))
records_go_on n end id layout [] (x ∷ xs) tail h le = absurd h
records_go_on n end id layout (r ∷ rs) [] tail h le = absurd h
records_go_on zero end id layout (r ∷ rs) (x ∷ xs) tail h le =
    let regrouped : joined (r ∷ rs) ++ tail ≡ r ++ (joined rs ++ tail) =
    ap (λ (t : List ℕ). t ++ tail) (flat_map-cons (λ r. r) r rs) ∙ append_assoc r (joined rs) tail in
    let same_len : length (joined (r ∷ rs) ++ tail) ≡ length (r ++ (joined rs ++ tail)) = ap length regrouped in
    absurd (omega (arith, h.0, whole_long layout r h.2, length-append r (joined rs ++ tail)))
records_go_on (suc n) end id layout (r ∷ rs) (x ∷ xs) tail h le =
    let rest = joined rs ++ tail in
    let regrouped : joined (r ∷ rs) ++ tail ≡ r ++ rest = ap (λ (t : List ℕ). t ++ tail) (flat_map-cons (λ r. r) r rs)
    ∙ append_assoc r (joined rs) tail in
    let at = end - length (r ++ rest) in
    let first = extent_again at layout.fields r rest (h.2).0 (h.2).1 in
    let whole = whole_long layout r h.2 in
    let both = length-append r rest in
    let long : ltb (length (r ++ rest)) (smallest layout) ≡ false = le-ltb _ _ (omega arith) in
    let same_len : length (joined (r ∷ rs) ++ tail) ≡ length (r ++ rest) = ap length regrouped in
    let more = records_go_on n end id layout rs xs tail h.3 (omega (arith, h.0)) in
    let one : records_at (suc n) end id layout (r ++ rest) ≡ with_records (x ∷ xs)
    (records_at more.0 end id layout tail) =
    rw (long, first, more.2) (before_front (raw id layout r) xs (records_at more.0 end id layout tail)
    ∙ ap (λ (y : RawRecord). with_records (y ∷ xs) (records_at more.0 end id layout tail)) (sym h.1)) in
    (more.0, more.1, ap (records_at (suc n) end id layout) regrouped ∙ one)

records_end : (m end id : ℕ) (layout : Layout) (rest : List ℕ) → length rest < smallest layout
    → records_at m end id layout rest ≡ Ok []
unfolding records_at
records_end zero end id layout rest short = refl
records_end (suc m) end id layout rest short = let e : ltb (length rest) (smallest layout) ≡ true = lt-ltb _ _ short in
    rw e refl

pub is_zero : (n : ℕ) → n ≡ 0 → eqb n 0 ≡ true
is_zero n e = rw e refl

pub is_positive : (n : ℕ) → 0 < n → eqb n 0 ≡ false
is_positive n h = ne_eqb n 0 (λ e. omega arith)

-- ---- a data Set

pub data_takes : (end id : ℕ) (definition : Option Layout) (text : List ℕ) (records : List RawRecord) → IsBytes text
    → data_at end id definition text ≡ Ok records
    → (rs : List (List ℕ)) × (rest : List ℕ) × (text ≡ joined rs ++ rest)
    × IsData id definition (record { id = id; records = rs; rest = rest }) records
unfolding data_at records_of
data_takes end id None text records fits e = ([], text, refl, (refl, sym (ok_is [] records e)))
data_takes end id (Some layout) text records fits e =
    elim (chosen (eqb (smallest layout) 0) (Ok []) (records_at (length text) end id layout text) (Ok records) e) [
      | inl w ↦
          let P : List RawRecord → Type 0 = λ xs. (rs : List (List ℕ)) × (rest : List ℕ) × (text ≡ joined rs ++ rest)
          × IsData id (Some layout) (record { id = id; records = rs; rest = rest }) xs in
          subst P (ok_is [] records w.1) ([], text, refl, (tt, inl (eqb-true _ _ w.0)))
      | inr w ↦
          let none = eqb-false (smallest layout) 0 w.0 in
          let f = records_take (length text) end id layout text records fits (omega arith) (omega arith) w.1 in
          (f.0, f.1, f.2, (f.3, inr f.4))
    ]

pub data_again : (end id : ℕ) (definition : Option Layout) (rs : List (List ℕ)) (rest : List ℕ)
    (records : List RawRecord) → IsData id definition (record { id = id; records = rs; rest = rest }) records
    → data_at end id definition (joined rs ++ rest) ≡ Ok records
unfolding data_at records_of
data_again end id None rs rest records h = ap Ok (sym h.1)
data_again end id (Some layout) [] rest [] (h, inl none) = rw (is_zero (smallest layout) none) refl
data_again end id (Some layout) [] rest (x ∷ xs) (h, inl none) = absurd h
data_again end id (Some layout) (r ∷ rs) rest [] (h, inl none) = absurd h
data_again end id (Some layout) (r ∷ rs) rest (x ∷ xs) (h, inl none) = absurd (omega (arith, h.0))
data_again end id (Some layout) rs rest records (h, inr short) =
    let go = records_go_on (length (joined rs ++ rest)) end id layout rs records rest h (omega arith) in
    let last : with_records records (records_at go.0 end id layout rest) ≡ Ok records =
    rw (records_end go.0 end id layout rest short) (ap (λ (xs : List RawRecord). Ok xs) (append-nil records)) in
    rw (is_positive (smallest layout) (omega arith)) (go.2 ∙ last)
