-- The first fault of Sets: what reading answers is one, and each is answered.
use Rattle.std.proofs.Common.{◌≡◌, ℕ, zero, suc, ◌+◌, ◌-◌, ◌^◌, ◌<◌, ◌≤◌, Bool, true, false, cond, ltb, eqb, List, []}
use Rattle.std.proofs.Common.{◌∷◌, ◌++◌, length, take, drop, Option, Some, None, Result, Ok, Err, refl, sym, ap, subst}
use Rattle.std.proofs.Common.{◌∙◌, append_assoc, arith, inl, inr, ◌⊎◌}
use Rattle.std.specs.Prelude.{◌||◌}
use Rattle.std.specs.Int.{w16, to_be_bytes}
use Rattle.std.proofs.lemmas.Bool.{ltb-false, ltb-true, le-ltb, lt-ltb, ne_eqb, eqb-false, cases_lt}
use Rattle.std.proofs.lemmas.List.{length-append, length-drop, take_at}
use Rattle.std.proofs.lemmas.List.Concat.{flat_map-cons}
use Rattle.flow_codec.specs.declared.error.MessageError.{MessageError}
use Rattle.flow_codec.specs.declared.error.MessageError.TheVariants.{SetLength, RecordCut}
use Rattle.flow_codec.specs.declared.kind.TemplateKind.{TemplateKind}
use Rattle.flow_codec.specs.Raw.{RawRecord}
use Rattle.flow_codec.specs.Layout.{Layout, set_id}
use Rattle.flow_codec.specs.Templates.{AllTemplates, definition_of, definitions_of}
use Rattle.flow_codec.specs.Reading.{◌>>=◌, number_at, is_ended, templates_at, data_at, kind_of, content_by, content_at}
use Rattle.flow_codec.specs.Reading.{set_at, sets_at}
use Rattle.flow_codec.specs.Message.{AreRecords, AreTemplates, IsEnd, Division, content, set_octets, joined, IsSet}
use Rattle.flow_codec.specs.Message.{AreSets}
use Rattle.flow_codec.specs.Fault.{IsTemplateFault, IsCutRecord, IsSetFault}
use Rattle.flow_codec.proofs.Steps.{bind_err, past_err, chosen, by_bool}
use Rattle.flow_codec.proofs.NumberLaws.{IsBytes, IsBytes-take, Takes-then, wide16, number_takes, number_again}
use Rattle.flow_codec.proofs.NumberLaws.{number_cut, number_short}
use Rattle.flow_codec.proofs.FieldLaws.{suffix}
use Rattle.flow_codec.proofs.TemplateLaws.{positive, ended_is}
use Rattle.flow_codec.proofs.TemplateFaults.{has, or_held, templates_fault, template_fault_again, templates_fault_again}
use Rattle.flow_codec.proofs.RecordFaults.{data_fault, data_fault_again}
use Rattle.flow_codec.proofs.SetLaws.{IsHead, all_octets, by_kind, kind_is, set_id_small, set_takes, set_again}
use Rattle.flow_codec.proofs.SetLaws.{content_takes}

-- ---- inside a Set

-- the template record that is wrong, after whole ones
abbrev pub AtTemplate : ℕ → ℕ → ℕ → AllTemplates → List ℕ → MessageError → Type 0
AtTemplate end domain id before text d =
    (kind : TemplateKind) × (id ≡ set_id kind) × (rs : List (List ℕ)) × (bad : List ℕ) × (next : AllTemplates)
    × (text ≡ joined rs ++ bad) × AreTemplates domain kind before rs next × (IsEnd bad → ⊥)
    × IsTemplateFault kind (end - length bad) bad d

-- the data record that is cut, after whole ones
abbrev pub AtRecord : ℕ → ℕ → ℕ → AllTemplates → List ℕ → MessageError → Type 0
AtRecord end domain id before text d =
    (256 ≤ id) × (layout : Layout) × (definition_of id (definitions_of domain before) ≡ Some layout)
    × (rs : List (List ℕ)) × (xs : List RawRecord) × (bad : List ℕ) × (text ≡ joined rs ++ bad)
    × AreRecords id layout rs xs
    × IsCutRecord layout bad × (d ≡ RecordCut (end - length bad))

pub content_fault : (end domain id : ℕ) (before : AllTemplates) (text : List ℕ) (d : MessageError) → IsBytes text
    → content_at end domain id before text ≡ Err d → AtTemplate end domain id before text d
    ⊎ AtRecord end domain id before text d
unfolding content_at
content_fault end domain id before text d fits e = elim (by_kind id) [
  | inl k ↦
      let read : content_by (Some k.0) end domain id before text ≡ Err d =
      subst (λ (o : Option TemplateKind). content_by o end domain id before text ≡ Err d) k.2 e in
      elim (bind_err (templates_at (length text) end domain k.0 before text) (λ after. Ok ([], after)) d read) [
        | inl w ↦ let f = templates_fault (length text) end domain k.0 before text d (omega arith) fits w in
            inl (k.0, k.1, f.0, f.1, f.2, f.3, f.4, f.5, f.6)
        | inr w ↦ let no = w.2 in absurd cc
      ]
  | inr k ↦
      let read : content_by None end domain id before text ≡ Err d =
      subst (λ (o : Option TemplateKind). content_by o end domain id before text ≡ Err d) k.2 e in
      let r : Result (List RawRecord × AllTemplates) MessageError =
      data_at end id (definition_of id (definitions_of domain before)) text >>= λ records. Ok (records, before) in
      elim (chosen (ltb id 256) (Ok ([], before)) r (Err d) read) [
        | inl w ↦ let no = w.1 in absurd cc
        | inr v ↦ elim (bind_err (data_at end id (definition_of id (definitions_of domain before)) text)
            (λ records. Ok (records, before)) d v.1) [
              | inl w ↦ let f = data_fault end id (definition_of id (definitions_of domain before)) text d fits w in
                  inr (ltb-false _ _ v.0, f.0, f.1, f.2, f.3, f.4, f.5, f.6, f.7, f.8)
              | inr w ↦ let no = w.2 in absurd cc
            ]
      ]
]

-- ---- the head of a Set

set_fault : (domain : ℕ) (before : AllTemplates) (at : ℕ) (octets : List ℕ) (d : MessageError) → IsBytes octets
    → 0 < length octets → set_at at octets ≡ Err d → IsSetFault domain before at octets d
unfolding set_at
set_fault domain before at octets d fits some e =
    let cut = SetLength at in
    elim (bind_err (number_at cut w16 octets) (λ id. number_at cut w16 id.1 >>=
    λ len. cond (ltb len.0 4 || ltb (length octets) len.0) (Err cut)
    (Ok (id.0, take (len.0 - 4) len.1, drop (len.0 - 4) len.1))) d e) [
      | inl w ↦ let n = number_cut cut w16 octets d w in inl (some, inl (omega arith), n.1)
      | inr a ↦
          let t0 = number_takes cut w16 (2 ^ 16) wide16 octets a.0 fits a.1 in
          let len0 : length octets ≡ 2 + length (a.0).1 = omega (arith, ap length (t0.0).parts) in
          elim (bind_err (number_at cut w16 (a.0).1)
          (λ len. cond (ltb len.0 4 || ltb (length octets) len.0) (Err cut)
          (Ok ((a.0).0, take (len.0 - 4) len.1, drop (len.0 - 4) len.1))) d a.2) [
            | inl w ↦ let n = number_cut cut w16 (a.0).1 d w in inl (some, inl (omega arith), n.1)
            | inr b ↦
                let t1 = number_takes cut w16 (2 ^ 16) wide16 (a.0).1 b.0 (t0.0).rest_fits b.1 in
                let both = Takes-then octets (to_be_bytes w16 (a.0).0) (a.0).1 (to_be_bytes w16 (b.0).0)
                (b.0).1 t0.0 t1.0 in
                elim (past_err (ltb (b.0).0 4 || ltb (length octets) (b.0).0) cut
                (Ok ((a.0).0, take ((b.0).0 - 4) (b.0).1, drop ((b.0).0 - 4) (b.0).1)) d b.2) [
                  | inl w ↦ inl (
                    some,
                    inr (
                      (a.0).0,
                      (b.0).0,
                      (b.0).1,
                      both.parts,
                      t0.1,
                      t1.1,
                      wrong (ltb (b.0).0 4) refl (b.0).0 w.0 refl,
                    ),
                    w.1,
                  )
                  | inr w ↦ let no = w.1 in absurd cc
                ]
          ]
    ]
  where
    wrong : (b : Bool) → b ≡ b → (len : ℕ) → (ltb len 4 || ltb (length octets) len) ≡ true → len ≡ len → (len < 4)
        ⊎ (length octets < len)
    wrong b _ len e _ = elim (by_bool (ltb len 4)) [
      | inl w ↦ inl (ltb-true _ _ w)
      | inr w ↦ let h = rw w at e in inr (ltb-true _ _ h)
    ]

-- ---- Sets, one after the other

pub sets_fault : (n end domain : ℕ) (before : AllTemplates) (octets : List ℕ) (d : MessageError) → length octets ≤ n
    → length octets ≤ end → IsBytes octets → sets_at n end domain before octets ≡ Err d
    → (sets : List Division) × (records : List RawRecord) × (next : AllTemplates) × (tail : List ℕ)
    × (octets ≡ all_octets sets ++ tail) × AreSets domain before sets records next
    × IsSetFault domain next (end - length tail) tail d × (length tail ≤ end)
unfolding sets_at
sets_fault zero end domain before octets d le within fits e = absurd cc
sets_fault (suc n) end domain before octets d le within fits e =
    elim (chosen (eqb (length octets) 0) (Ok ([], before)) (set_at (end - length octets) octets >>=
    λ set. content_at (end - length set.2) domain set.0 before set.1 >>=
    λ first. sets_at n end domain first.1 set.2 >>= λ others. Ok (first.0 ++ others.0, others.1)) (Err d) e) [
      | inl w ↦ let no = w.1 in absurd cc
      | inr v ↦
          let at = end - length octets in
          let some : 0 < length octets = positive (length octets) (eqb-false _ _ v.0) in
          elim (bind_err (set_at at octets) (λ set. content_at (end - length set.2) domain set.0 before set.1 >>=
          λ first. sets_at n end domain first.1 set.2 >>= λ others. Ok (first.0 ++ others.0, others.1)) d v.1) [
            | inl w ↦ (
              [],
              [],
              before,
              octets,
              refl,
              (refl, refl),
              set_fault domain before at octets d fits some w,
              within,
            )
            | inr a ↦
                let head = set_takes at octets a.0 fits a.1 in
                let id = (a.0).0 in
                let text = (a.0).1 in
                let after = (a.0).2 in
                let len : length octets ≡ 4 + length text + length after =
                omega (
                  arith,
                  ap length head.parts,
                  length-append (to_be_bytes w16 id ++ to_be_bytes w16 (4 + length text) ++ text) after,
                ) in
                elim (bind_err (content_at (end - length after) domain id before text)
                (λ first. sets_at n end domain first.1 after >>=
                λ others. Ok (first.0 ++ others.0, others.1)) d a.2) [
                  | inl w ↦ (
                    [],
                    [],
                    before,
                    octets,
                    refl,
                    (refl, refl),
                    inside id text after head
                        (content_fault (end - length after) domain id before text d head.text_fits w) len,
                    within,
                  )
                  | inr b ↦
                      let c = content_takes (end - length after) domain id before text b.0 head.text_fits b.1 in
                      let set : Division = record { id = id; records = c.parts; rest = c.rest } in
                      let below : 4 + length (joined c.parts ++ c.rest) < 2 ^ 16 =
                      subst (λ (t : List ℕ). 4 + length t < 2 ^ 16) c.whole head.len_below in
                      let is : IsSet domain before set (b.0).0 (b.0).1 = c.is head.id_below below in
                      let shape : (to_be_bytes w16 id ++ to_be_bytes w16 (4 + length text) ++ text) ≡ set_octets set =
                      ap (λ (t : List ℕ). to_be_bytes w16 id ++ to_be_bytes w16 (4 + length t) ++ t) c.whole in
                      let parts : octets ≡ set_octets set ++ after = head.parts
                      ∙ ap (λ (t : List ℕ). t ++ after) shape in
                      elim (bind_err (sets_at n end domain (b.0).1 after)
                      (λ others. Ok ((b.0).0 ++ others.0, others.1)) d b.2) [
                        | inl w ↦
                            let f = sets_fault n end domain (b.0).1 after d (omega arith)
                            (omega arith) head.rest_fits w in
                            let whole : octets ≡ all_octets (set ∷ f.0) ++ f.3 = parts
                            ∙ ap (λ (t : List ℕ). set_octets set ++ t) f.4
                            ∙ sym (append_assoc (set_octets set) (all_octets f.0) f.3)
                            ∙ ap (λ (t : List ℕ). t ++ f.3) (sym (flat_map-cons set_octets set f.0)) in (
                              set ∷ f.0,
                              (b.0).0 ++ f.1,
                              f.2,
                              f.3,
                              whole,
                              ((b.0).0, f.1, (b.0).1, is, f.5, refl),
                              f.6,
                              f.7,
                            )
                        | inr w ↦ let no = w.2 in absurd cc
                      ]
                ]
          ]
    ]
  where
    inside : (id : ℕ) (text after : List ℕ) → IsHead octets id text after
        → AtTemplate (end - length after) domain id before text d
        ⊎ AtRecord (end - length after) domain id before text d
        → length octets ≡ 4 + length text + length after → IsSetFault domain before (end - length octets) octets d
    inside id text after head (inl (kind, is, rs, bad, next, whole, hold, unended, wrong)) len =
        let set : Division = record { id = id; records = rs; rest = bad } in
        let shape : (to_be_bytes w16 id ++ to_be_bytes w16 (4 + length text) ++ text) ≡ set_octets set =
        ap (λ (t : List ℕ). to_be_bytes w16 id ++ to_be_bytes w16 (4 + length t) ++ t) whole in
        let parts : octets ≡ set_octets set ++ after = head.parts ∙ ap (λ (t : List ℕ). t ++ after) shape in
        let below : 4 + length (joined rs ++ bad) < 2 ^ 16 =
        subst (λ (t : List ℕ). 4 + length t < 2 ^ 16) whole head.len_below in
        let size : length text ≡ length (joined rs) + length bad = ap length whole ∙ length-append (joined rs) bad in
        let place : end - length after - length bad ≡ end - length octets + 4 + length (joined rs) = omega arith in
        inr (
          set,
          after,
          parts,
          head.id_below,
          below,
          inl (kind, is, next, hold, unended, subst (λ (p : ℕ). IsTemplateFault kind p bad d) place wrong),
        )
    inside id text after head (inr (large, layout, found, rs, xs, bad, whole, hold, cut, fault)) len =
        let set : Division = record { id = id; records = rs; rest = bad } in
        let shape : (to_be_bytes w16 id ++ to_be_bytes w16 (4 + length text) ++ text) ≡ set_octets set =
        ap (λ (t : List ℕ). to_be_bytes w16 id ++ to_be_bytes w16 (4 + length t) ++ t) whole in
        let parts : octets ≡ set_octets set ++ after = head.parts ∙ ap (λ (t : List ℕ). t ++ after) shape in
        let below : 4 + length (joined rs ++ bad) < 2 ^ 16 =
        subst (λ (t : List ℕ). 4 + length t < 2 ^ 16) whole head.len_below in
        let size : length text ≡ length (joined rs) + length bad = ap length whole ∙ length-append (joined rs) bad in
        let place : end - length after - length bad ≡ end - length octets + 4 + length (joined rs) = omega arith in
        inr (
          set,
          after,
          parts,
          head.id_below,
          below,
          inr (
            large,
            layout,
            found,
            xs,
            hold,
            cut,
            fault
                ∙ ap (λ (p : ℕ). RecordCut p) place,
          ),
        )

-- ---- each fault is answered

-- a Set whose Length is wrong
length_again : (at : ℕ) (octets : List ℕ) → (length octets < 4)
    ⊎ ((id : ℕ) × (len : ℕ) × (rest : List ℕ) × (octets ≡ to_be_bytes w16 id ++ to_be_bytes w16 len ++ rest)
    × (id < 2 ^ 16) × (len < 2 ^ 16) × ((len < 4) ⊎ (length octets < len)))
    → set_at at octets ≡ Err (SetLength at)
unfolding set_at
length_again at octets (inl short) = elim (cases_lt (length octets) 2) [
  | inl lt ↦ rw (number_short (SetLength at) w16 octets lt) refl
  | inr le ↦ rw (
    has (SetLength at) w16 octets le,
    number_short (SetLength at) w16 (drop 2 octets) (omega (arith, length-drop 2 octets)),
  ) refl
]
length_again at octets (inr (id, len, rest, parts, id_below, len_below, bad)) =
    let flat : octets ≡ to_be_bytes w16 id ++ (to_be_bytes w16 len ++ rest) = parts
    ∙ append_assoc (to_be_bytes w16 id) (to_be_bytes w16 len) rest in
    let first : number_at (SetLength at) w16 octets ≡ Ok (id, to_be_bytes w16 len ++ rest) =
    ap (number_at (SetLength at) w16) flat
    ∙ number_again (SetLength at) w16 (2 ^ 16) wide16 id (to_be_bytes w16 len ++ rest) id_below in
    let test : (ltb len 4 || ltb (length octets) len) ≡ true =
    or_held (ltb len 4) (ltb (length octets) len) (tests bad) in
    rw (first, number_again (SetLength at) w16 (2 ^ 16) wide16 len rest len_below, test) refl
  where
    tests : (len < 4) ⊎ (length octets < len) → (ltb len 4 ≡ true) ⊎ (ltb (length octets) len ≡ true)
    tests (inl lt) = inl (lt-ltb _ _ lt)
    tests (inr lt) = inr (lt-ltb _ _ lt)

prefix : (xs ys : List ℕ) → IsBytes (xs ++ ys) → IsBytes xs
prefix xs ys h = subst IsBytes (take_at xs ys (length xs) refl) (IsBytes-take (length xs) (xs ++ ys) h)

left_over : (rest : List ℕ) → (IsEnd rest → ⊥) → 0 < length rest
left_over [] h = absurd (h (inl (omega arith)))
left_over (x ∷ xs) h = omega arith

still_goes : (rest : List ℕ) → IsBytes rest → (IsEnd rest → ⊥) → is_ended rest ≡ false
still_goes rest fits unended =
    elim (by_bool (is_ended rest)) [ inl e ↦ absurd (unended (ended_is rest fits e)) | inr e ↦ e ]

template_content : (end domain : ℕ) (before : AllTemplates) (set : Division) (d : MessageError) (kind : TemplateKind)
    (next : AllTemplates) → IsBytes set.rest → set.id ≡ set_id kind → AreTemplates domain kind before set.records next
    → (IsEnd set.rest → ⊥)
    → IsTemplateFault kind (end - length set.rest) set.rest d
    → content_at end domain set.id before (content set) ≡ Err d
unfolding content_at
template_content end domain before set d kind next fits is hold unended wrong =
    let fault = template_fault_again kind (end - length set.rest) set.rest d wrong in
    let inner = templates_fault_again (length (content set)) end domain kind before set.records set.rest next d hold
    (still_goes set.rest fits unended) fault (omega arith) (left_over set.rest unended) in
    let k : kind_of set.id ≡ Some kind = ap kind_of is ∙ kind_is kind in
    ap (λ (o : Option TemplateKind). content_by o end domain set.id before (content set)) k ∙ rw inner refl

record_content : (end domain : ℕ) (before : AllTemplates) (set : Division) (layout : Layout) (xs : List RawRecord)
    → 256 ≤ set.id → definition_of set.id (definitions_of domain before) ≡ Some layout
    → AreRecords set.id layout set.records xs → IsCutRecord layout set.rest
    → content_at end domain set.id before (content set) ≡ Err (RecordCut (end - length set.rest))
unfolding content_at
record_content end domain before set layout xs large found hold cut = elim (by_kind set.id) [
  | inl k ↦ absurd (omega (arith, set_id_small k.0, k.1))
  | inr k ↦
      let test : ltb set.id 256 ≡ false = le-ltb _ _ large in
      let inner = data_fault_again end set.id layout set.records xs set.rest hold cut in
      ap (λ (o : Option TemplateKind). content_by o end domain set.id before (content set)) k.2
      ∙ rw (test, found, inner) refl
]

-- the first Set is wrong
pub set_fault_again : (n end domain : ℕ) (before : AllTemplates) (octets : List ℕ) (d : MessageError) → IsBytes octets
    → length octets ≤ n → length octets ≤ end → IsSetFault domain before (end - length octets) octets d
    → sets_at n end domain before octets ≡ Err d
unfolding sets_at
set_fault_again zero end domain before octets d fits le within (inl (some, bad, is)) = absurd (omega arith)
set_fault_again (suc n) end domain before octets d fits le within (inl (some, bad, is)) =
    let left : eqb (length octets) 0 ≡ false = ne_eqb (length octets) 0 (λ e. omega arith) in
    rw (left, length_again (end - length octets) octets bad, is) refl
set_fault_again zero end domain before octets d fits le within (inr (set, more, parts, id_below, len_below, why)) =
    let size : length octets ≡ length (set_octets set) + length more = ap length parts
    ∙ length-append (set_octets set) more in
    absurd (omega arith)
set_fault_again (suc n) end domain before octets d fits le within (inr (set, more, parts, id_below, len_below, why)) =
    let left : eqb (length octets) 0 ≡ false = ne_eqb (length octets) 0 (λ e. omega (arith, size)) in
    let at = end - length octets in
    let first : set_at at octets ≡ Ok (set.id, content set, more) = ap (set_at at) parts
    ∙ set_again at set.id (content set) more id_below len_below in
    rw (left, first, inner why) refl
  where
    size : length octets ≡ length (set_octets set) + length more
    size = ap length parts ∙ length-append (set_octets set) more

    long : length (content set) ≡ length (joined set.records) + length set.rest
    long = length-append (joined set.records) set.rest

    place : end - length octets + 4 + length (joined set.records) ≡ end - length more - length set.rest
    place = omega (arith, size, long)

    bytes : IsBytes set.rest
    bytes =
        let h : IsBytes (set_octets set ++ more) = subst IsBytes parts fits in
        suffix (joined set.records) set.rest
        (suffix (to_be_bytes w16 set.id ++ to_be_bytes w16 (4 + length (content set))) (content set)
        (prefix (set_octets set) more h))

    inner : ((kind : TemplateKind) × (set.id ≡ set_id kind) × (next : AllTemplates)
        × AreTemplates domain kind before set.records next × (IsEnd set.rest → ⊥)
        × IsTemplateFault kind (end - length octets + 4 + length (joined set.records)) set.rest d)
        ⊎ ((256 ≤ set.id) × (layout : Layout) × (definition_of set.id (definitions_of domain before) ≡ Some layout)
        × (records : List RawRecord) × AreRecords set.id layout set.records records × IsCutRecord layout set.rest
        × (d ≡ RecordCut (end - length octets + 4 + length (joined set.records))))
        → content_at (end - length more) domain set.id before (content set) ≡ Err d
    inner (inl (kind, is, next, hold, unended, wrong)) =
        template_content (end - length more) domain before set d kind next bytes is hold unended
        (subst (λ (p : ℕ). IsTemplateFault kind p set.rest d) place wrong)
    inner (inr (large, layout, found, xs, hold, cut, fault)) =
        let e = record_content (end - length more) domain before set layout xs large found hold cut in
        let same : RecordCut (end - length more - length set.rest) ≡ d = ap (λ (p : ℕ). RecordCut p) (sym place)
        ∙ sym fault in
        e ∙ ap (λ (f : MessageError). Err f) same
