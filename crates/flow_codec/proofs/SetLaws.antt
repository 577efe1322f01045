-- Sets: what is read is a division, and each division is read.
use Rattle.std.proofs.Common.{◌≡◌, ◌≢◌, ℕ, zero, suc, ◌+◌, ◌-◌, ◌^◌, ◌<◌, ◌≤◌, false, cond, ltb, eqb, List, [], ◌∷◌}
use Rattle.std.proofs.Common.{◌++◌, length, take, drop, Option, Some, None, Result, Ok, Err, refl, sym, ap, subst, ◌∙◌}
use Rattle.std.proofs.Common.{append_assoc, arith, inl, inr, ◌⊎◌}
use Rattle.std.specs.Prelude.{◌||◌}
use Rattle.std.specs.Int.{w16, to_be_bytes}
use Rattle.std.specs.List.{flat_map}
use Rattle.std.proofs.lemmas.Bool.{ltb-false, ltb-true, le-ltb, ne_eqb, eqb-false, eqb-true}
use Rattle.std.proofs.lemmas.List.{length-append, length-take, take_at, drop_at, take-append-drop, nil_from_length}
use Rattle.std.proofs.lemmas.List.Concat.{flat_map-cons}
use Rattle.flow_codec.specs.declared.error.MessageError.{MessageError}
use Rattle.flow_codec.specs.declared.error.MessageError.TheVariants.{SetLength}
use Rattle.flow_codec.specs.declared.kind.TemplateKind.{TemplateKind}
use Rattle.flow_codec.specs.declared.kind.TemplateKind.TheVariants.{Plain, Options}
use Rattle.flow_codec.specs.Raw.{RawRecord}
use Rattle.flow_codec.specs.Layout.{set_id}
use Rattle.flow_codec.specs.Templates.{AllTemplates, definition_of, definitions_of}
use Rattle.flow_codec.specs.Reading.{◌>>=◌, number_at, templates_at, data_at, kind_of, other_at, content_by, content_at}
use Rattle.flow_codec.specs.Reading.{set_at, sets_at}
use Rattle.flow_codec.specs.Message.{AreTemplates, IsEnd, Division, content, set_octets, joined, IsSet, AreSets}
use Rattle.flow_codec.proofs.Steps.{with_front, bind_ok, guard_ok, ok_is, chosen, by_bool}
use Rattle.flow_codec.proofs.NumberLaws.{IsBytes, IsBytes-take, IsBytes-drop, Takes-then, wide16, number_takes}
use Rattle.flow_codec.proofs.NumberLaws.{number_again}
use Rattle.flow_codec.proofs.TemplateLaws.{templates_take, templates_again, or_false}
use Rattle.flow_codec.proofs.RecordLaws.{data_takes, data_again}

-- ---- the head of a Set

pub record IsHead (octets : List ℕ) (id : ℕ) (text rest : List ℕ) : Type 0 where
  pub id_below : id < 2 ^ 16
  pub len_below : 4 + length text < 2 ^ 16
  pub parts : octets ≡ (to_be_bytes w16 id ++ to_be_bytes w16 (4 + length text) ++ text) ++ rest
  pub text_fits : IsBytes text
  pub rest_fits : IsBytes rest

pub set_takes : (at : ℕ) (octets : List ℕ) (x : ℕ × List ℕ × List ℕ) → IsBytes octets → set_at at octets ≡ Ok x
    → IsHead octets x.0 x.1 x.2
unfolding set_at
set_takes at octets x fits e =
    let cut = SetLength at in
    let a = bind_ok (number_at cut w16 octets) (λ id. number_at cut w16 id.1 >>=
    λ len. cond (ltb len.0 4 || ltb (length octets) len.0) (Err cut)
    (Ok (id.0, take (len.0 - 4) len.1, drop (len.0 - 4) len.1))) x e in
    let b = bind_ok (number_at cut w16 a.0.1)
    (λ len. cond (ltb len.0 4 || ltb (length octets) len.0) (Err cut)
    (Ok (a.0.0, take (len.0 - 4) len.1, drop (len.0 - 4) len.1))) x a.2 in
    let t0 = number_takes cut w16 (2 ^ 16) wide16 octets a.0 fits a.1 in
    let t1 = number_takes cut w16 (2 ^ 16) wide16 a.0.1 b.0 t0.0.rest_fits b.1 in
    let g = guard_ok (ltb b.0.0 4 || ltb (length octets) b.0.0) cut (
      a.0.0,
      take (b.0.0 - 4) b.0.1,
      drop (b.0.0 - 4) b.0.1,
    ) x b.2 in
    let tests = or_false (ltb b.0.0 4) (ltb (length octets) b.0.0) g.0 in
    let least : 4 ≤ b.0.0 = ltb-false _ _ tests.0 in
    let most : b.0.0 ≤ length octets = ltb-false _ _ tests.1 in
    let both = Takes-then octets (to_be_bytes w16 a.0.0) a.0.1 (to_be_bytes w16 b.0.0) b.0.1 t0.0 t1.0 in
    let text = take (b.0.0 - 4) b.0.1 in
    let rest = drop (b.0.0 - 4) b.0.1 in
    let len : length octets ≡ 4 + length b.0.1 = ap length both.parts
    ∙ length-append (to_be_bytes w16 a.0.0 ++ to_be_bytes w16 b.0.0) b.0.1 in
    let text_len : length text ≡ b.0.0 - 4 = omega (arith, length-take (b.0.0 - 4) b.0.1) in
    let whole : 4 + length text ≡ b.0.0 = omega (arith) in
    let split : b.0.1 ≡ text ++ rest = sym (take-append-drop (b.0.0 - 4) b.0.1) in
    let head = to_be_bytes w16 a.0.0 ++ to_be_bytes w16 b.0.0 in
    let parts : octets ≡ (to_be_bytes w16 a.0.0 ++ to_be_bytes w16 (4 + length text) ++ text) ++ rest =
    both.parts ∙ ap (λ (t : List ℕ). head ++ t) split ∙ sym (append_assoc head text rest)
    ∙ ap (λ (n : ℕ). (to_be_bytes w16 a.0.0 ++ to_be_bytes w16 n ++ text) ++ rest) (sym whole) in
    let P : ℕ × List ℕ × List ℕ → Type 0 = λ y. IsHead octets y.0 y.1 y.2 in
    subst P g.1 (record {
      id_below = t0.1;
      len_below = omega (arith, t1.1);
      parts = parts;
      text_fits =
          IsBytes-take (b.0.0 - 4) b.0.1 t1.0.rest_fits;
      rest_fits = IsBytes-drop (b.0.0 - 4) b.0.1 t1.0.rest_fits;
    })

pub set_again : (at id : ℕ) (text rest : List ℕ) → id < 2 ^ 16 → 4 + length text < 2 ^ 16
    → set_at at ((to_be_bytes w16 id ++ to_be_bytes w16 (4 + length text) ++ text) ++ rest) ≡ Ok (id, text, rest)
unfolding set_at
set_again at id text rest id_below len_below =
    let cut = SetLength at in
    let n = 4 + length text in
    let regrouped : (to_be_bytes w16 id ++ to_be_bytes w16 n ++ text) ++ rest ≡ to_be_bytes w16 id ++
    (to_be_bytes w16 n ++ (text ++ rest)) = simp append_assoc in
    let least : ltb n 4 ≡ false = le-ltb _ _ (omega arith) in
    let most : ltb (length (to_be_bytes w16 id ++ (to_be_bytes w16 n ++ (text ++ rest)))) n ≡ false =
    le-ltb _ _ (omega (arith, length-append text rest)) in
    let k : n - 4 ≡ length text = omega arith in
    ap (set_at at) regrouped
    ∙ rw (
      number_again cut w16 (2 ^ 16) wide16 id (to_be_bytes w16 n ++ (text ++ rest)) id_below,
      number_again cut w16 (2 ^ 16) wide16 n (text ++ rest) len_below,
      least,
      most,
      k,
      take_at text rest (length text) refl,
      drop_at text rest (length text) refl,
    ) refl

-- ---- the kinds of Sets

set_id_same : (a b : TemplateKind) → set_id a ≡ set_id b → a ≡ b
set_id_same Plain Plain e = refl
set_id_same Plain Options e = absurd (omega arith)
set_id_same Options Plain e = absurd (omega arith)
set_id_same Options Options e = refl

pub set_id_small : (kind : TemplateKind) → set_id kind < 256
set_id_small Plain = omega arith
set_id_small Options = omega arith

pub kind_is : (kind : TemplateKind) → kind_of (set_id kind) ≡ Some kind
kind_is Plain = refl
kind_is Options = refl

pub by_kind : (id : ℕ) → ((kind : TemplateKind) × (id ≡ set_id kind) × (kind_of id ≡ Some kind))
    ⊎ ((id ≢ 2) × (id ≢ 3) × (kind_of id ≡ None))
by_kind id = elim (by_bool (eqb id 2)) [
  | inl a ↦ inl (Plain, eqb-true _ _ a, rw a refl)
  | inr a ↦ elim (by_bool (eqb id 3)) [
    | inl b ↦ inl (Options, eqb-true _ _ b, rw (a, b) refl)
    | inr b ↦ inr (eqb-false _ _ a, eqb-false _ _ b, rw (a, b) refl)
  ]
]

-- ---- the content of a Set

-- the records and the rest of a Set of this ID
pub record Divides (domain : ℕ) (before : AllTemplates) (id : ℕ) (text : List ℕ) (records : List RawRecord)
    (after : AllTemplates) : Type 0 where
  pub parts : List (List ℕ)
  pub rest : List ℕ
  pub whole : text ≡ joined parts ++ rest
  pub is : id < 2 ^ 16 → 4 + length (joined parts ++ rest) < 2 ^ 16
      → IsSet domain before (record { id = id; records = parts; rest = rest }) records after

-- a Set of template records
are_set : (domain id : ℕ) (kind : TemplateKind) (before : AllTemplates) (rs : List (List ℕ)) (rest : List ℕ)
    (after : AllTemplates) → id ≡ set_id kind → AreTemplates domain kind before rs after → IsEnd rest
    → id < 2 ^ 16 → 4 + length (joined rs ++ rest) < 2 ^ 16
    → IsSet domain before (record { id = id; records = rs; rest = rest }) [] after
are_set domain id kind before rs rest after is hold ended id_below len_below =
    record {
      id = id_below;
      fits = len_below;
      templates = λ other e. (
        refl,
        subst (λ (k : TemplateKind). AreTemplates domain k before rs after)
            (set_id_same kind other (sym is ∙ e)) hold,
        ended,
      );
      other = λ two three _. absurd (neither kind is two three);
      «data» = λ h. absurd (omega (arith, set_id_small kind));
    }
  where
    neither : (kind : TemplateKind) → id ≡ set_id kind → id ≢ 2 → id ≢ 3 → ⊥
    neither Plain is two three = two is
    neither Options is two three = three is

never : (id : ℕ) (kind : TemplateKind) → id ≢ 2 → id ≢ 3 → id ≡ set_id kind → ⊥
never id Plain two three is = two is
never id Options two three is = three is

other_takes : (end domain id : ℕ) (before : AllTemplates) (text : List ℕ) (x : List RawRecord × AllTemplates)
    → IsBytes text → id ≢ 2 → id ≢ 3 → other_at end domain id before text ≡ Ok x → Divides domain before id text x.0 x.1
other_takes end domain id before text x fits two three e =
    let r : Result (List RawRecord × AllTemplates) MessageError =
    data_at end id (definition_of id (definitions_of domain before)) text >>= λ records. Ok (records, before) in
    elim (chosen (ltb id 256) (Ok ([], before)) r (Ok x) e) [
      | inl w ↦
          let small : id < 256 = ltb-true _ _ w.0 in
          subst P (ok_is ([], before) x w.1) (record {
            parts = [];
            rest = text;
            whole = refl;
            is = λ id_below len_below. record {
              id = id_below;
              fits = len_below;
              templates =
                  λ kind is. absurd (never id kind two three is);
              other = λ _ _ _. (refl, refl, refl);
              «data» =
                  λ h. absurd (omega arith);
            };
          })
      | inr w ↦
          let large : 256 ≤ id = ltb-false _ _ w.0 in
          let a = bind_ok (data_at end id (definition_of id (definitions_of domain before)) text)
          (λ records. Ok (records, before)) x w.1 in
          let f = data_takes end id (definition_of id (definitions_of domain before)) text a.0 fits a.1 in
          subst P (ok_is (a.0, before) x a.2) (record {
            parts = f.0;
            rest = f.1;
            whole = f.2;
            is = λ id_below len_below. record {
              id = id_below;
              fits = len_below;
              templates =
                  λ kind is. absurd (never id kind two three is);
              other = λ _ _ h. absurd (omega arith);
              «data» =
                  λ _. (f.3, refl);
            };
          })
    ]
  where
    P : List RawRecord × AllTemplates → Type 0
    P y = Divides domain before id text y.0 y.1

pub content_takes : (end domain id : ℕ) (before : AllTemplates) (text : List ℕ) (x : List RawRecord × AllTemplates)
    → IsBytes text → content_at end domain id before text ≡ Ok x → Divides domain before id text x.0 x.1
unfolding content_at
content_takes end domain id before text x fits e = elim (by_kind id) [
  | inl k ↦
      let read : content_by (Some k.0) end domain id before text ≡ Ok x =
      subst (λ (o : Option TemplateKind). content_by o end domain id before text ≡ Ok x) k.2 e in
      let a = bind_ok (templates_at (length text) end domain k.0 before text) (λ after. Ok ([], after)) x read in
      let f = templates_take (length text) end domain k.0 before text a.0 (omega arith) fits a.1 in
      subst P (ok_is ([], a.0) x a.2) (record {
        parts = f.0;
        rest = f.1;
        whole = f.2;
        is =
            λ id_below len_below. are_set domain id k.0 before f.0 f.1 a.0 k.1 f.3 f.4 id_below len_below;
      })
  | inr k ↦
      let read : content_by None end domain id before text ≡ Ok x =
      subst (λ (o : Option TemplateKind). content_by o end domain id before text ≡ Ok x) k.2 e in
      other_takes end domain id before text x fits k.0 k.1 read
]
  where
    P : List RawRecord × AllTemplates → Type 0
    P y = Divides domain before id text y.0 y.1

other_again : (end domain : ℕ) (before : AllTemplates) (set : Division) (records : List RawRecord)
    (after : AllTemplates) → set.id ≢ 2 → set.id ≢ 3 → IsSet domain before set records after
    → other_at end domain set.id before (content set) ≡ Ok (records, after)
other_again end domain before set records after two three h = elim (by_bool (ltb set.id 256)) [
  | inl w ↦
      let t = h.other two three (ltb-true _ _ w) in
      rw (w, t.0, t.2) refl
  | inr w ↦
      let t = h.«data» (ltb-false _ _ w) in
      let a = data_again end set.id
      (definition_of set.id (definitions_of domain before)) set.records set.rest records t.0 in
      rw (w, a, t.1) refl
]

pub content_again : (end domain : ℕ) (before : AllTemplates) (set : Division) (records : List RawRecord)
    (after : AllTemplates) → IsSet domain before set records after
    → content_at end domain set.id before (content set) ≡ Ok (records, after)
unfolding content_at
content_again end domain before set records after h = elim (by_kind set.id) [
  | inl k ↦
      let t = h.templates k.0 k.1 in
      let a = templates_again (length (content set)) end domain k.0 before set.records set.rest after t.1 t.2
      (omega arith) in
      ap (λ (o : Option TemplateKind). content_by o end domain set.id before (content set)) k.2
      ∙ rw a (ap (λ (rs : List RawRecord). Ok (rs, after)) (sym t.0))
  | inr k ↦ ap (λ (o : Option TemplateKind). content_by o end domain set.id before (content set)) k.2
      ∙ other_again end domain before set records after k.0 k.1 h
]

-- ---- Sets, one after the other

abbrev pub all_octets : List Division → List ℕ
all_octets sets = flat_map set_octets sets

pub sets_take : (n end domain : ℕ) (here : AllTemplates) (octets : List ℕ) (x : List RawRecord × AllTemplates)
    → length octets ≤ n → IsBytes octets → sets_at n end domain here octets ≡ Ok x
    → (sets : List Division) × (octets ≡ all_octets sets) × AreSets domain here sets x.0 x.1
unfolding sets_at
sets_take zero end domain here octets x le fits e =
    let P : List RawRecord × AllTemplates → Type 0 = λ y. (sets : List Division) × (octets ≡ all_octets sets)
    × AreSets domain here sets y.0 y.1 in
    subst P (ok_is ([], here) x e) ([], nil_from_length octets (omega arith), (refl, refl))
sets_take (suc n) end domain here octets x le fits e =
    elim (chosen (eqb (length octets) 0) (Ok ([], here)) (set_at (end - length octets) octets >>=
    λ set. content_at (end - length set.2) domain set.0 here set.1 >>=
    λ first. sets_at n end domain first.1 set.2 >>= λ others. Ok (first.0 ++ others.0, others.1)) (Ok x) e) [
      | inl w ↦ subst P (ok_is ([], here) x w.1) ([], nil_from_length octets (eqb-true _ _ w.0), (refl, refl))
      | inr w ↦
          let at = end - length octets in
          let a = bind_ok (set_at at octets) (λ set. content_at (end - length set.2) domain set.0 here set.1 >>=
          λ first. sets_at n end domain first.1 set.2 >>= λ others. Ok (first.0 ++ others.0, others.1)) x w.1 in
          let b = bind_ok (content_at (end - length a.0.2) domain a.0.0 here a.0.1)
          (λ first. sets_at n end domain first.1 a.0.2 >>= λ others. Ok (first.0 ++ others.0, others.1)) x a.2 in
          let c = bind_ok (sets_at n end domain b.0.1 a.0.2) (λ others. Ok (b.0.0 ++ others.0, others.1)) x b.2 in
          let head = set_takes at octets a.0 fits a.1 in
          let d = content_takes (end - length a.0.2) domain a.0.0 here a.0.1 b.0 head.text_fits b.1 in
          let set : Division = record { id = a.0.0; records = d.parts; rest = d.rest } in
          let len : 4 + length (joined d.parts ++ d.rest) < 2 ^ 16 =
          subst (λ (t : List ℕ). 4 + length t < 2 ^ 16) d.whole head.len_below in
          let is : IsSet domain here set b.0.0 b.0.1 = d.is head.id_below len in
          let shape : (to_be_bytes w16 a.0.0 ++ to_be_bytes w16 (4 + length a.0.1) ++ a.0.1) ≡ set_octets set =
          ap (λ (t : List ℕ). to_be_bytes w16 a.0.0 ++ to_be_bytes w16 (4 + length t) ++ t) d.whole in
          let parts : octets ≡ set_octets set ++ a.0.2 = head.parts ∙ ap (λ (t : List ℕ). t ++ a.0.2) shape in
          let long : length octets ≡ length (set_octets set) + length a.0.2 = ap length parts
          ∙ length-append (set_octets set) a.0.2 in
          let more = sets_take n end domain b.0.1 a.0.2 c.0 (omega arith) head.rest_fits c.1 in
          let whole : octets ≡ all_octets (set ∷ more.0) = parts ∙ ap (λ (t : List ℕ). set_octets set ++ t) more.1
          ∙ sym (flat_map-cons set_octets set more.0) in
          subst P (ok_is (b.0.0 ++ c.0.0, c.0.1) x c.2) (set ∷ more.0, whole, (b.0.0, c.0.0, b.0.1, is, more.2, refl))
    ]
  where
    P : List RawRecord × AllTemplates → Type 0
    P y = (sets : List Division) × (octets ≡ all_octets sets) × AreSets domain here sets y.0 y.1

pub nothing : (read : Result (List RawRecord × AllTemplates) MessageError) → with_front [] read ≡ read
nothing (Ok x) = refl
nothing (Err f) = refl

before_front : (a b : List RawRecord) (read : Result (List RawRecord × AllTemplates) MessageError)
    → (with_front b read >>= λ x. Ok (a ++ x.0, x.1)) ≡ with_front (a ++ b) read
before_front a b (Ok x) = let f : List RawRecord → Result (List RawRecord × AllTemplates) MessageError =
    λ rs. Ok (rs, x.1) in ap f (sym (append_assoc a b x.0))
before_front a b (Err f) = refl

-- Reading goes on after whole Sets, whatever follows them. Both what is read and the first fault follow from this.
pub sets_go_on : (n end domain : ℕ) (here : AllTemplates) (sets : List Division) (records : List RawRecord)
    (next : AllTemplates) (tail : List ℕ) → AreSets domain here sets records next → length (all_octets sets ++ tail) ≤ n
    → (m : ℕ) × (length tail ≤ m)
    × (sets_at n end domain here (all_octets sets ++ tail) ≡ with_front records (sets_at m end domain next tail))
unfolding sets_at
sets_go_on n end domain here [] records next tail h le =
    let e : sets_at n end domain here tail ≡ with_front records (sets_at n end domain next tail) =
    rw (h.0, h.1) (sym (nothing (sets_at n end domain here tail))) in
    (n, le, e)
sets_go_on zero end domain here (s ∷ ss) records next tail h le =
    let regrouped : all_octets (s ∷ ss) ++ tail ≡ set_octets s ++ (all_octets ss ++ tail) =
    ap (λ (t : List ℕ). t ++ tail) (flat_map-cons set_octets s ss)
    ∙ append_assoc (set_octets s) (all_octets ss) tail in
    let len : length (all_octets (s ∷ ss) ++ tail) ≡ length (set_octets s) + length (all_octets ss ++ tail) =
    ap length regrouped ∙ length-append (set_octets s) (all_octets ss ++ tail) in
    absurd (omega arith)
sets_go_on (suc n) end domain here (s ∷ ss) records next tail h le =
    let rest = all_octets ss ++ tail in
    let octets = set_octets s ++ rest in
    let at = end - length octets in
    let regrouped : all_octets (s ∷ ss) ++ tail ≡ octets =
    ap (λ (t : List ℕ). t ++ tail) (flat_map-cons set_octets s ss)
    ∙ append_assoc (set_octets s) (all_octets ss) tail in
    let len : length (all_octets (s ∷ ss) ++ tail) ≡ length (set_octets s) + length rest = ap length regrouped
    ∙ length-append (set_octets s) rest in
    let some : eqb (length octets) 0 ≡ false =
    ne_eqb (length octets) 0 (λ e. omega (arith, length-append (set_octets s) rest)) in
    let first = set_again at s.id (content s) rest (h.3).id (h.3).fits in
    let second = content_again (end - length rest) domain here s h.0 h.2 h.3 in
    let more = sets_go_on n end domain h.2 ss h.1 next tail h.4 (omega arith) in
    let one : sets_at (suc n) end domain here octets ≡ with_front records (sets_at more.0 end domain next tail) =
    rw (some, first, second, more.2, h.5) (before_front h.0 h.1 (sets_at more.0 end domain next tail)) in
    (more.0, more.1, ap (sets_at (suc n) end domain here) regrouped ∙ one)

-- nothing is left
pub sets_end : (m end domain : ℕ) (here : AllTemplates) → sets_at m end domain here [] ≡ Ok ([], here)
unfolding sets_at
sets_end zero end domain here = refl
sets_end (suc m) end domain here = refl
