-- The fields of a record: what is read is a division of its octets, each division is read, and there is one.
use Rattle.std.proofs.Common.{◌≡◌, ℕ, ◌+◌, ◌^◌, ◌<◌, ◌≤◌, true, false, ltb, eqb, List, [], ◌∷◌, ◌++◌, length, take}
use Rattle.std.proofs.Common.{drop, Ok, refl, sym, ap, subst, ◌∙◌, append_assoc, eq-eqb, arith, inl, inr}
use Rattle.std.specs.Prelude.{sum_by}
use Rattle.std.specs.Int.{w16, from_be_bytes, to_be_bytes}
use Rattle.std.proofs.lemmas.Bool.{ltb-false, ltb-true, le-ltb, lt-ltb, ne_eqb, eqb-false, eqb-true}
use Rattle.std.proofs.lemmas.List.{length-append, length-take, take_at, drop_at, take-append-drop}
use Rattle.std.proofs.lemmas.List.Sums.{sum_by-cons}
use Rattle.flow_elements.specs.declared.element.ElementId.{ElementId}
use Rattle.flow_codec.specs.declared.error.MessageError.TheVariants.{RecordCut}
use Rattle.flow_codec.specs.declared.message.Field.{Field}
use Rattle.flow_codec.specs.Layout.{least_length}
use Rattle.flow_codec.specs.Fields.{IsField, AreFields, counted_of, value_of, fields_in}
use Rattle.flow_codec.specs.Reading.{◌>>=◌, number_at, octets_at, behind, counted_at, field_at, extent_at}
use Rattle.flow_codec.proofs.Steps.{bind_ok, guard_ok, ok_is, chosen}
use Rattle.flow_codec.proofs.NumberLaws.{IsBytes, IsBytes-drop, wide16, number_takes, number_again}

pub suffix : (xs ys : List ℕ) → IsBytes (xs ++ ys) → IsBytes ys
suffix xs ys h = subst IsBytes (drop_at xs ys (length xs) refl) (IsBytes-drop (length xs) (xs ++ ys) h)

-- ---- one field

octets_take : (at len : ℕ) (octets : List ℕ) (x : List ℕ × List ℕ) → octets_at at len octets ≡ Ok x
    → (octets ≡ x.0 ++ x.1) × (length x.0 ≡ len)
octets_take at len octets x e =
    let g = guard_ok (ltb (length octets) len) (RecordCut at) (take len octets, drop len octets) x e in
    let long : len ≤ length octets = ltb-false _ _ g.0 in
    let P : List ℕ × List ℕ → Type 0 = λ y. (octets ≡ y.0 ++ y.1) × (length y.0 ≡ len) in
    subst P g.1 (sym (take-append-drop len octets), omega (arith, length-take len octets))

octets_again : (at : ℕ) (value rest : List ℕ) → octets_at at (length value) (value ++ rest) ≡ Ok (value, rest)
octets_again at value rest =
    let long : ltb (length (value ++ rest)) (length value) ≡ false =
    le-ltb _ _ (omega (arith, length-append value rest)) in
    rw (long, take_at value rest (length value) refl, drop_at value rest (length value) refl) refl

-- these octets begin with a field of its length
abbrev pub TakesField : ℕ → List ℕ → List ℕ × List ℕ → Type 0
TakesField len octets x = (octets ≡ x.0 ++ x.1) × (value : List ℕ) × IsField len x.0 value

counted_takes : (at : ℕ) (octets : List ℕ) (x : List ℕ × List ℕ) → IsBytes octets → counted_at at octets ≡ Ok x
    → TakesField 65535 octets x
unfolding counted_at
counted_takes at [] x fits e = absurd cc
counted_takes at (n ∷ rest) x fits e =
    elim (chosen (ltb n 255) (behind (n ∷ []) (octets_at at n rest)) (number_at (RecordCut at) w16 rest >>=
    λ len. behind (n ∷ take 2 rest) (octets_at at len.0 len.1)) (Ok x) e) [
      | inl w ↦
          let a = bind_ok (octets_at at n rest) (λ y. Ok (n ∷ y.0, y.1)) x w.1 in
          let t = octets_take at n rest a.0 a.1 in
          let small : length a.0.0 < 255 = rw t.1 (ltb-true _ _ w.0) in
          let octets : n ∷ a.0.0 ≡ length a.0.0 ∷ a.0.0 = ap (λ (k : ℕ). k ∷ a.0.0) (sym t.1) in
          subst P (ok_is (n ∷ a.0.0, a.0.1) x a.2) (
            ap (λ (t : List ℕ). n ∷ t) t.0,
            a.0.0,
            inr (inl (refl, small, octets)),
          )
      | inr w ↦
          let a = bind_ok (number_at (RecordCut at) w16 rest)
          (λ len. behind (n ∷ take 2 rest) (octets_at at len.0 len.1)) x w.1 in
          let b = bind_ok (octets_at at a.0.0 a.0.1) (λ y. Ok (n ∷ (take 2 rest ++ y.0), y.1)) x a.2 in
          let more : IsBytes rest = IsBytes-drop 1 (n ∷ rest) fits in
          let number = number_takes (RecordCut at) w16 (2 ^ 16) wide16 rest a.0 more a.1 in
          let t = octets_take at a.0.0 a.0.1 b.0 b.1 in
          let large : 255 ≤ n = ltb-false _ _ w.0 in
          let first : n ≡ 255 = omega (arith, fits 0) in
          let front : take 2 rest ≡ to_be_bytes w16 a.0.0 = ap (take 2) number.0.parts
          ∙ take_at (to_be_bytes w16 a.0.0) a.0.1 2 refl in
          let below : length b.0.0 < 2 ^ 16 = rw t.1 number.1 in
          let whole : n ∷ rest ≡ (n ∷ (take 2 rest ++ b.0.0)) ++ b.0.1 =
          ap (λ (t : List ℕ). n ∷ t) (number.0.parts ∙ ap (λ (t : List ℕ). to_be_bytes w16 a.0.0 ++ t) t.0
          ∙ ap (λ (t : List ℕ). t ++ (b.0.0 ++ b.0.1)) (sym front)
          ∙ sym (append_assoc (take 2 rest) b.0.0 b.0.1)) in
          let octets : n ∷ (take 2 rest ++ b.0.0) ≡ 255 ∷ (to_be_bytes w16 (length b.0.0) ++ b.0.0) =
          ap (λ (k : ℕ). k ∷ (take 2 rest ++ b.0.0)) first
          ∙ ap (λ (t : List ℕ). 255 ∷ (t ++ b.0.0)) (front ∙ ap (to_be_bytes w16) (sym t.1)) in
          subst P (ok_is (n ∷ (take 2 rest ++ b.0.0), b.0.1) x b.2) (whole, b.0.0, inr (inr (refl, below, octets)))
    ]
  where
    P : List ℕ × List ℕ → Type 0
    P y = TakesField 65535 (n ∷ rest) y

pub field_takes : (at len : ℕ) (octets : List ℕ) (x : List ℕ × List ℕ) → IsBytes octets → field_at at len octets ≡ Ok x
    → TakesField len octets x
field_takes at len octets x fits e =
    elim (chosen (eqb len 65535) (counted_at at octets) (octets_at at len octets) (Ok x) e) [
      | inl w ↦ subst (λ (n : ℕ). TakesField n octets x) (sym (eqb-true _ _ w.0)) (counted_takes at octets x fits w.1)
      | inr w ↦ let t = octets_take at len octets x w.1 in (t.0, x.0, inl (eqb-false _ _ w.0, refl, t.1))
    ]

pub field_again : (at len : ℕ) (octets value rest : List ℕ) → IsField len octets value
    → field_at at len (octets ++ rest) ≡ Ok (octets, rest)
unfolding counted_at
field_again at len octets value rest (inl (fixed, same, is)) =
    let test : eqb len 65535 ≡ false = ne_eqb len 65535 fixed in
    rw (test, same, ← is) (octets_again at value rest)
field_again at len octets value rest (inr (inl (variable, short, same))) =
    let test : eqb len 65535 ≡ true = eq-eqb len 65535 variable in
    let small : ltb (length value) 255 ≡ true = lt-ltb _ _ short in
    rw (test, same, small, octets_again at value rest) refl
field_again at len octets value rest (inr (inr (variable, below, same))) =
    let test : eqb len 65535 ≡ true = eq-eqb len 65535 variable in
    let n = length value in
    let large : ltb 255 255 ≡ false = refl in
    let regrouped : (255 ∷ (to_be_bytes w16 n ++ value)) ++ rest ≡ 255 ∷ (to_be_bytes w16 n ++ (value ++ rest)) =
    ap (λ (t : List ℕ). 255 ∷ t) (append_assoc (to_be_bytes w16 n) value rest) in
    let inner : counted_at at (255 ∷ (to_be_bytes w16 n ++ (value ++ rest))) ≡ Ok (
      255 ∷ (to_be_bytes w16 n ++ value),
      rest,
    ) =
    rw (number_again (RecordCut at) w16 (2 ^ 16) wide16 n (value ++ rest) below, octets_again at value rest) refl in
    rw (test, same) (ap (counted_at at) regrouped ∙ inner)

long_value : (n : ℕ) (octets : List ℕ) → from_be_bytes w16 (take 2 octets) ≡ n
    → counted_of (255 ∷ octets) ≡ (take n (drop 2 octets), drop n (drop 2 octets))
long_value n octets e = rw e refl

-- the value of the field that octets begin with
pub value_again : (len : ℕ) (octets value rest : List ℕ) → IsField len octets value
    → value_of len (octets ++ rest) ≡ (value, rest)
value_again len octets value rest (inl (fixed, same, is)) =
    let test : eqb len 65535 ≡ false = ne_eqb len 65535 fixed in
    rw (test, same, take_at value rest len is, drop_at value rest len is) refl
value_again len octets value rest (inr (inl (variable, short, same))) =
    let test : eqb len 65535 ≡ true = eq-eqb len 65535 variable in
    let small : ltb (length value) 255 ≡ true = lt-ltb _ _ short in
    rw (test, same, small, take_at value rest (length value) refl, drop_at value rest (length value) refl) refl
value_again len octets value rest (inr (inr (variable, below, same))) =
    let test : eqb len 65535 ≡ true = eq-eqb len 65535 variable in
    let n = length value in
    let regrouped : (255 ∷ (to_be_bytes w16 n ++ value)) ++ rest ≡ 255 ∷ (to_be_bytes w16 n ++ (value ++ rest)) =
    ap (λ (t : List ℕ). 255 ∷ t) (append_assoc (to_be_bytes w16 n) value rest) in
    let front : take 2 (to_be_bytes w16 n ++ (value ++ rest)) ≡ to_be_bytes w16 n =
    take_at (to_be_bytes w16 n) (value ++ rest) 2 refl in
    let back : drop 2 (to_be_bytes w16 n ++ (value ++ rest)) ≡ value ++ rest =
    drop_at (to_be_bytes w16 n) (value ++ rest) 2 refl in
    let inner : counted_of (255 ∷ (to_be_bytes w16 n ++ (value ++ rest))) ≡ (value, rest) =
    long_value n (to_be_bytes w16 n ++ (value ++ rest)) (ap (from_be_bytes w16) front ∙ wide16.again n below)
    ∙ rw (back, take_at value rest n refl, drop_at value rest n refl) refl in
    rw (test, same) (ap counted_of regrouped ∙ inner)

pub field_long : (len : ℕ) (octets value : List ℕ) → IsField len octets value → least_length len ≤ length octets
field_long len octets value (inl (fixed, same, is)) =
    let test : eqb len 65535 ≡ false = ne_eqb len 65535 fixed in
    rw (test, same) (omega (arith, is))
field_long len octets value (inr (inl (variable, short, same))) =
    let test : eqb len 65535 ≡ true = eq-eqb len 65535 variable in
    rw (test, same) (omega arith)
field_long len octets value (inr (inr (variable, below, same))) =
    let test : eqb len 65535 ≡ true = eq-eqb len 65535 variable in
    rw (test, same) (omega arith)

-- ---- all fields of a record

-- what is read is a whole record
pub extent_takes : (at : ℕ) (fs : List (ElementId × ℕ)) (octets : List ℕ) (x : List ℕ × List ℕ) → IsBytes octets
    → extent_at at fs octets ≡ Ok x
    → (octets ≡ x.0 ++ x.1) × ((fields : List Field) × AreFields fs x.0 fields)
unfolding extent_at
extent_takes at [] octets x fits e =
    let P : List ℕ × List ℕ → Type 0 = λ y. (octets ≡ y.0 ++ y.1) × ((fields : List Field) × AreFields [] y.0 fields) in
    subst P (ok_is ([], octets) x e) (refl, ([], refl))
extent_takes at (f ∷ fs) octets x fits e =
    let a = bind_ok (field_at at f.1 octets) (λ first. behind first.0 (extent_at at fs first.1)) x e in
    let b = bind_ok (extent_at at fs a.0.1) (λ y. Ok (a.0.0 ++ y.0, y.1)) x a.2 in
    let first = field_takes at f.1 octets a.0 fits a.1 in
    let rest : IsBytes a.0.1 = suffix a.0.0 a.0.1 (subst IsBytes first.0 fits) in
    let others = extent_takes at fs a.0.1 b.0 rest b.1 in
    let field : Field = record { id = f.0; octets = first.1 } in
    let parts : octets ≡ (a.0.0 ++ b.0.0) ++ b.0.1 = first.0 ∙ ap (λ (t : List ℕ). a.0.0 ++ t) others.0
    ∙ sym (append_assoc a.0.0 b.0.0 b.0.1) in
    let P : List ℕ × List ℕ → Type 0 =
    λ y. (octets ≡ y.0 ++ y.1) × ((fields : List Field) × AreFields (f ∷ fs) y.0 fields) in
    subst P (ok_is (a.0.0 ++ b.0.0, b.0.1) x b.2) (
      parts,
      (field ∷ (others.1).0, (a.0.0, b.0.0, refl, refl, first.2, (others.1).1)),
    )

-- each whole record is read, whatever follows it
pub extent_again : (at : ℕ) (fs : List (ElementId × ℕ)) (octets rest : List ℕ) (xs : List Field)
    → AreFields fs octets xs → extent_at at fs (octets ++ rest) ≡ Ok (octets, rest)
unfolding extent_at
extent_again at [] octets rest [] h = rw h refl
extent_again at [] octets rest (x ∷ xs) h = absurd h
extent_again at (f ∷ fs) octets rest [] h = absurd h
extent_again at (f ∷ fs) octets rest (x ∷ xs) h =
    let regrouped : octets ++ rest ≡ h.0 ++ (h.1 ++ rest) = ap (λ (t : List ℕ). t ++ rest) h.2
    ∙ append_assoc h.0 h.1 rest in
    let same : Ok (h.0 ++ h.1, rest) ≡ Ok (octets, rest) = ap (λ (t : List ℕ). Ok (t, rest)) (sym h.2) in
    ap (extent_at at (f ∷ fs)) regrouped
    ∙ rw (field_again at f.1 h.0 x.octets (h.1 ++ rest) h.4, extent_again at fs h.1 rest xs h.5) same

-- a record has at least the octets of the smallest
pub extent_long : (fs : List (ElementId × ℕ)) (octets : List ℕ) (xs : List Field) → AreFields fs octets xs
    → sum_by (λ f. least_length f.1) fs ≤ length octets
extent_long [] octets xs h = omega arith
extent_long (f ∷ fs) octets [] h = absurd h
extent_long (f ∷ fs) octets (x ∷ xs) h =
    let first = field_long f.1 h.0 x.octets h.4 in
    let more = extent_long fs h.1 xs h.5 in
    let both : length octets ≡ length h.0 + length h.1 = ap length h.2 ∙ length-append h.0 h.1 in
    rw sum_by-cons (omega arith)

-- ---- the fields as a function of the octets

field_is : (f : ElementId × ℕ) (value : List ℕ) (x : Field) → x.id ≡ f.0 → x.octets ≡ value
    → (let made : Field = record { id = f.0; octets = value } in x ≡ made)
field_is f value x id octets = rw (← id, ← octets) refl

pub fields_are : (fs : List (ElementId × ℕ)) (octets : List ℕ) (xs : List Field) → AreFields fs octets xs
    → xs ≡ fields_in fs octets
unfolding fields_in
fields_are [] octets [] h = refl
fields_are [] octets (x ∷ xs) h = absurd h
fields_are (f ∷ fs) octets [] h = absurd h
fields_are (f ∷ fs) octets (x ∷ xs) h =
    let read : value_of f.1 octets ≡ (x.octets, h.1) = ap (value_of f.1) h.2 ∙ value_again f.1 h.0 x.octets h.1 h.4 in
    let more = fields_are fs h.1 xs h.5 in
    rw (read, ← more, ← h.3) refl

-- one division
pub fields_unique : (fs : List (ElementId × ℕ)) (octets : List ℕ) (xs ys : List Field) → AreFields fs octets xs
    → AreFields fs octets ys → xs ≡ ys
fields_unique fs octets xs ys p q = fields_are fs octets xs p ∙ sym (fields_are fs octets ys q)

-- octets that are a whole record have the fields that `fields_in` gives
pub fields_fit : (fs : List (ElementId × ℕ)) (octets : List ℕ) (xs : List Field) → AreFields fs octets xs
    → AreFields fs octets (fields_in fs octets)
fields_fit fs octets xs h = subst (AreFields fs octets) (fields_are fs octets xs h) h

-- octets begin with at most one whole record of a definition
pub extent_unique : (fs : List (ElementId × ℕ)) (octets rest others back : List ℕ) (xs ys : List Field)
    → AreFields fs octets xs → AreFields fs others ys → octets ++ rest ≡ others ++ back → octets ≡ others
extent_unique fs octets rest others back xs ys p q same =
    let e = sym (extent_again 0 fs octets rest xs p) ∙ ap (extent_at 0 fs) same ∙ extent_again 0 fs others back ys q in
    ap (λ (x : List ℕ × List ℕ). x.0) (ok_is (octets, rest) (others, back) e)
