-- The first cut data record: what reading answers is one, and each is answered.
use Rattle.std.proofs.Common.{◌≡◌, ℕ, zero, suc, ◌+◌, ◌-◌, ◌^◌, ◌<◌, ◌≤◌, true, false, ltb, eqb, List, [], ◌∷◌, ◌++◌}
use Rattle.std.proofs.Common.{length, take, drop, Option, Some, None, Ok, Err, refl, sym, ap, subst, ◌∙◌, append_assoc}
use Rattle.std.proofs.Common.{eq-eqb, arith, inl, inr}
use Rattle.std.specs.Int.{w16, to_be_bytes}
use Rattle.std.proofs.lemmas.Bool.{ltb-false, ltb-true, le-ltb, lt-ltb, ne_eqb, eqb-false, eqb-true}
use Rattle.std.proofs.lemmas.List.{length-append}
use Rattle.std.proofs.lemmas.List.Concat.{flat_map-cons}
use Rattle.flow_elements.specs.declared.element.ElementId.{ElementId}
use Rattle.flow_codec.specs.declared.error.MessageError.{MessageError}
use Rattle.flow_codec.specs.declared.error.MessageError.TheVariants.{RecordCut}
use Rattle.flow_codec.specs.declared.message.Field.{Field}
use Rattle.flow_codec.specs.Layout.{Layout, smallest}
use Rattle.flow_codec.specs.Fields.{AreFields}
use Rattle.flow_codec.specs.Raw.{RawRecord, raw}
use Rattle.flow_codec.specs.Reading.{◌>>=◌, number_at, octets_at, behind, counted_at, field_at, extent_at, records_at}
use Rattle.flow_codec.specs.Reading.{records_of, data_at}
use Rattle.flow_codec.specs.Message.{AreRecords, joined}
use Rattle.flow_codec.specs.Fault.{IsCutField, IsCutRecord}
use Rattle.flow_codec.proofs.Steps.{bind_err, past_err, chosen}
use Rattle.flow_codec.proofs.NumberLaws.{IsBytes, IsBytes-drop, wide16, number_takes, number_again, number_cut}
use Rattle.flow_codec.proofs.NumberLaws.{number_short}
use Rattle.flow_codec.proofs.FieldLaws.{suffix, field_takes, field_again, extent_takes}
use Rattle.flow_codec.proofs.RecordLaws.{with_records, records_go_on, whole_long, is_positive}

-- ---- one field

octets_fault : (at len : ℕ) (octets : List ℕ) (d : MessageError) → octets_at at len octets ≡ Err d
    → (length octets < len) × (d ≡ RecordCut at)
octets_fault at len octets d e =
    elim (past_err (ltb (length octets) len) (RecordCut at) (Ok (take len octets, drop len octets)) d e) [
      | inl w ↦ (ltb-true _ _ w.0, w.1)
      | inr w ↦ let no = w.1 in absurd cc
    ]

octets_fault_again : (at len : ℕ) (octets : List ℕ) → length octets < len → octets_at at len octets ≡ Err (RecordCut at)
octets_fault_again at len octets lt = let e : ltb (length octets) len ≡ true = lt-ltb _ _ lt in rw e refl

counted_fault : (at : ℕ) (octets : List ℕ) (d : MessageError) → IsBytes octets → counted_at at octets ≡ Err d
    → IsCutField 65535 octets × (d ≡ RecordCut at)
unfolding counted_at
counted_fault at [] d fits e = (inr (refl, inl refl), cc)
counted_fault at (n ∷ rest) d fits e =
    elim (chosen (ltb n 255) (behind (n ∷ []) (octets_at at n rest)) (number_at (RecordCut at) w16 rest >>=
    λ len. behind (n ∷ take 2 rest) (octets_at at len.0 len.1)) (Err d) e) [
      | inl w ↦ elim (bind_err (octets_at at n rest) (λ y. Ok (n ∷ y.0, y.1)) d w.1) [
        | inl v ↦ let f = octets_fault at n rest d v in
            (inr (refl, inr (inl (n, rest, refl, ltb-true _ _ w.0, f.0))), f.1)
        | inr v ↦ let no = v.2 in absurd cc
      ]
      | inr w ↦
          let large : 255 ≤ n = ltb-false _ _ w.0 in
          let first : n ≡ 255 = omega (arith, fits 0) in
          let more : IsBytes rest = IsBytes-drop 1 (n ∷ rest) fits in
          elim (bind_err (number_at (RecordCut at) w16 rest)
          (λ len. behind (n ∷ take 2 rest) (octets_at at len.0 len.1)) d w.1) [
            | inl v ↦ let f = number_cut (RecordCut at) w16 rest d v in
                (inr (refl, inr (inr (inl (rest, ap (λ (k : ℕ). k ∷ rest) first, f.0)))), f.1)
            | inr a ↦
                let t = number_takes (RecordCut at) w16 (2 ^ 16) wide16 rest a.0 more a.1 in
                elim (bind_err (octets_at at (a.0).0 (a.0).1) (λ y. Ok (n ∷ (take 2 rest ++ y.0), y.1)) d a.2) [
                  | inl v ↦
                      let f = octets_fault at (a.0).0 (a.0).1 d v in
                      let parts : n ∷ rest ≡ 255 ∷ (to_be_bytes w16 (a.0).0 ++ (a.0).1) =
                      ap (λ (k : ℕ). k ∷ rest) first ∙ ap (λ (x : List ℕ). 255 ∷ x) (t.0).parts in
                      (inr (refl, inr (inr (inr ((a.0).0, (a.0).1, parts, t.1, f.0)))), f.1)
                  | inr v ↦ let no = v.2 in absurd cc
                ]
          ]
    ]

field_fault : (at len : ℕ) (octets : List ℕ) (d : MessageError) → IsBytes octets → field_at at len octets ≡ Err d
    → IsCutField len octets × (d ≡ RecordCut at)
field_fault at len octets d fits e =
    elim (chosen (eqb len 65535) (counted_at at octets) (octets_at at len octets) (Err d) e) [
      | inl w ↦ let f = counted_fault at octets d fits w.1 in
          (subst (λ (n : ℕ). IsCutField n octets) (sym (eqb-true _ _ w.0)) f.0, f.1)
      | inr w ↦ let f = octets_fault at len octets d w.1 in (inl (eqb-false _ _ w.0, f.0), f.1)
    ]

field_fault_again : (at len : ℕ) (tail : List ℕ) → IsCutField len tail → field_at at len tail ≡ Err (RecordCut at)
unfolding counted_at
field_fault_again at len tail (inl (fixed, short)) =
    let test : eqb len 65535 ≡ false = ne_eqb len 65535 fixed in
    rw test (octets_fault_again at len tail short)
field_fault_again at len tail (inr (variable, inl none)) =
    let test : eqb len 65535 ≡ true = eq-eqb len 65535 variable in
    rw (test, none) refl
field_fault_again at len tail (inr (variable, inr (inl (n, more, parts, small, short)))) =
    let test : eqb len 65535 ≡ true = eq-eqb len 65535 variable in
    let l : ltb n 255 ≡ true = lt-ltb _ _ small in
    rw (test, parts, l, octets_fault_again at n more short) refl
field_fault_again at len tail (inr (variable, inr (inr (inl (more, parts, short))))) =
    let test : eqb len 65535 ≡ true = eq-eqb len 65535 variable in
    rw (test, parts, number_short (RecordCut at) w16 more short) refl
field_fault_again at len tail (inr (variable, inr (inr (inr (n, more, parts, below, short))))) =
    let test : eqb len 65535 ≡ true = eq-eqb len 65535 variable in
    rw (
      test,
      parts,
      number_again (RecordCut at) w16 (2 ^ 16) wide16 n more below,
      octets_fault_again at n more short,
    ) refl

-- ---- one record

-- a field of the record that these octets begin with is cut
abbrev pub IsCutIn : List (ElementId × ℕ) → List ℕ → Type 0
IsCutIn fs octets =
    (front : List (ElementId × ℕ)) × (f : ElementId × ℕ) × (back : List (ElementId × ℕ)) × (fs ≡ front ++ f ∷ back)
    × (first : List ℕ) × (tail : List ℕ) × (fields : List Field) × (octets ≡ first ++ tail)
    × AreFields front first fields × IsCutField f.1 tail

pub extent_fault : (at : ℕ) (fs : List (ElementId × ℕ)) (octets : List ℕ) (d : MessageError) → IsBytes octets
    → extent_at at fs octets ≡ Err d → IsCutIn fs octets × (d ≡ RecordCut at)
unfolding extent_at
extent_fault at [] octets d fits e = absurd cc
extent_fault at (f ∷ fs) octets d fits e =
    elim (bind_err (field_at at f.1 octets) (λ first. behind first.0 (extent_at at fs first.1)) d e) [
      | inl w ↦ let c = field_fault at f.1 octets d fits w in (([], f, fs, refl, [], octets, [], refl, refl, c.0), c.1)
      | inr a ↦
          let first = field_takes at f.1 octets a.0 fits a.1 in
          let rest : IsBytes (a.0).1 = suffix (a.0).0 (a.0).1 (subst IsBytes first.0 fits) in
          elim (bind_err (extent_at at fs (a.0).1) (λ y. Ok ((a.0).0 ++ y.0, y.1)) d a.2) [
            | inl w ↦
                let c = extent_fault at fs (a.0).1 d rest w in
                let cut = c.0 in
                let field : Field = record { id = f.0; octets = first.1 } in
                let parts : octets ≡ ((a.0).0 ++ cut.4) ++ cut.5 = first.0 ∙ ap (λ (t : List ℕ). (a.0).0 ++ t) cut.7
                ∙ sym (append_assoc (a.0).0 cut.4 cut.5) in (
                  (
                    f ∷ cut.0,
                    cut.1,
                    cut.2,
                    ap (λ (t : List (ElementId × ℕ)). f ∷ t) cut.3,
                    (a.0).0 ++ cut.4,
                    cut.5,
                    field ∷ cut.6,
                    parts,
                    ((a.0).0, cut.4, refl, refl, first.2, cut.8),
                    cut.9,
                  ),
                  c.1,
                )
            | inr w ↦ let no = w.2 in absurd cc
          ]
    ]

cut_by : (at : ℕ) (front : List (ElementId × ℕ)) (f : ElementId × ℕ) (back : List (ElementId × ℕ))
    (first tail : List ℕ) (fields : List Field) → AreFields front first fields → IsCutField f.1 tail
    → extent_at at (front ++ f ∷ back) (first ++ tail) ≡ Err (RecordCut at)
unfolding extent_at
cut_by at [] f back first tail [] h cut = rw (h, field_fault_again at f.1 tail cut) refl
cut_by at [] f back first tail (x ∷ xs) h cut = absurd h
cut_by at (g ∷ front) f back first tail [] h cut = absurd h
cut_by at (g ∷ front) f back first tail (x ∷ xs) h cut =
    let regrouped : first ++ tail ≡ h.0 ++ (h.1 ++ tail) = ap (λ (t : List ℕ). t ++ tail) h.2
    ∙ append_assoc h.0 h.1 tail in
    ap (extent_at at (g ∷ (front ++ f ∷ back))) regrouped
    ∙ rw (field_again at g.1 h.0 x.octets (h.1 ++ tail) h.4, cut_by at front f back h.1 tail xs h.5 cut) refl

pub extent_fault_again : (at : ℕ) (fs : List (ElementId × ℕ)) (octets : List ℕ) → IsCutIn fs octets
    → extent_at at fs octets ≡ Err (RecordCut at)
extent_fault_again at fs octets h = rw (h.3, h.7) (cut_by at h.0 h.1 h.2 h.4 h.5 h.6 h.8 h.9)

-- ---- the records of a Set

pub records_fault : (n end id : ℕ) (layout : Layout) (octets : List ℕ) (d : MessageError) → IsBytes octets
    → length octets ≤ n → 0 < smallest layout → records_at n end id layout octets ≡ Err d
    → (rs : List (List ℕ)) × (xs : List RawRecord) × (bad : List ℕ) × (octets ≡ joined rs ++ bad)
    × AreRecords id layout rs xs × IsCutRecord layout bad × (d ≡ RecordCut (end - length bad))
unfolding records_at
records_fault zero end id layout octets d fits le some e = absurd cc
records_fault (suc n) end id layout octets d fits le some e =
    elim (chosen (ltb (length octets) (smallest layout)) (Ok [])
    (extent_at (end - length octets) layout.fields octets >>= λ whole. records_at n end id layout whole.1 >>=
    λ others. Ok (one whole.0 ∷ others)) (Err d) e) [
      | inl w ↦ let no = w.1 in absurd cc
      | inr w ↦
          let long : smallest layout ≤ length octets = ltb-false _ _ w.0 in
          elim (bind_err (extent_at (end - length octets) layout.fields octets)
          (λ whole. records_at n end id layout whole.1 >>= λ others. Ok (one whole.0 ∷ others)) d w.1) [
            | inl v ↦
                let c = extent_fault (end - length octets) layout.fields octets d fits v in
                let cut = c.0 in (
                  [],
                  [],
                  octets,
                  refl,
                  tt,
                  (long, some, cut.0, cut.1, cut.2, cut.3, cut.4, cut.5, cut.6, cut.7, cut.8, cut.9),
                  c.1,
                )
            | inr a ↦
                let first = extent_takes (end - length octets) layout.fields octets a.0 fits a.1 in
                let size : length octets ≡ length (a.0).0 + length (a.0).1 = ap length first.0
                ∙ length-append (a.0).0 (a.0).1 in
                let rest : IsBytes (a.0).1 = suffix (a.0).0 (a.0).1 (subst IsBytes first.0 fits) in
                elim (bind_err (records_at n end id layout (a.0).1) (λ others. Ok (one (a.0).0 ∷ others)) d a.2) [
                  | inl v ↦
                      let f = records_fault n end id layout (a.0).1 d rest
                      (omega (arith, whole_long layout (a.0).0 first.1)) some v in
                      let parts : octets ≡ joined ((a.0).0 ∷ f.0) ++ f.2 = first.0
                      ∙ ap (λ (t : List ℕ). (a.0).0 ++ t) f.3 ∙ sym (append_assoc (a.0).0 (joined f.0) f.2)
                      ∙ ap (λ (t : List ℕ). t ++ f.2) (sym (flat_map-cons (λ r. r) (a.0).0 f.0)) in
                      ((a.0).0 ∷ f.0, one (a.0).0 ∷ f.1, f.2, parts, (some, refl, first.1, f.4), f.5, f.6)
                  | inr v ↦ let no = v.2 in absurd cc
                ]
          ]
    ]
  where
    one : List ℕ → RawRecord
    one octets = raw id layout octets

cut_first : (m end id : ℕ) (layout : Layout) (bad : List ℕ) → length bad ≤ m → IsCutRecord layout bad
    → records_at m end id layout bad ≡ Err (RecordCut (end - length bad))
unfolding records_at
cut_first zero end id layout bad le h = absurd (omega (arith, h.0, h.1))
cut_first (suc m) end id layout bad le h =
    let long : ltb (length bad) (smallest layout) ≡ false = le-ltb _ _ h.0 in
    let cut : IsCutIn layout.fields bad = (h.2, h.3, h.4, h.5, h.6, h.7, h.8, h.9, h.10, h.11) in
    rw (long, extent_fault_again (end - length bad) layout.fields bad cut) refl

pub data_fault : (end id : ℕ) (definition : Option Layout) (text : List ℕ) (d : MessageError) → IsBytes text
    → data_at end id definition text ≡ Err d
    → (layout : Layout) × (definition ≡ Some layout) × (rs : List (List ℕ)) × (xs : List RawRecord) × (bad : List ℕ)
    × (text ≡ joined rs ++ bad) × AreRecords id layout rs xs × IsCutRecord layout bad
    × (d ≡ RecordCut (end - length bad))
unfolding data_at records_of
data_fault end id None text d fits e = absurd cc
data_fault end id (Some layout) text d fits e =
    elim (chosen (eqb (smallest layout) 0) (Ok []) (records_at (length text) end id layout text) (Err d) e) [
      | inl w ↦ let no = w.1 in absurd cc
      | inr w ↦
          let none = eqb-false (smallest layout) 0 w.0 in
          let f = records_fault (length text) end id layout text d fits (omega arith) (omega arith) w.1 in
          (layout, refl, f.0, f.1, f.2, f.3, f.4, f.5, f.6)
    ]

pub data_fault_again : (end id : ℕ) (layout : Layout) (rs : List (List ℕ)) (xs : List RawRecord) (bad : List ℕ)
    → AreRecords id layout rs xs → IsCutRecord layout bad
    → data_at end id (Some layout) (joined rs ++ bad) ≡ Err (RecordCut (end - length bad))
unfolding data_at records_of
data_fault_again end id layout rs xs bad h cut =
    let go = records_go_on (length (joined rs ++ bad)) end id layout rs xs bad h (omega arith) in
    let last : with_records xs (records_at go.0 end id layout bad) ≡ Err (RecordCut (end - length bad)) =
    rw (cut_first go.0 end id layout bad go.1 cut) refl in
    rw (is_positive (smallest layout) cut.1) (go.2 ∙ last)
