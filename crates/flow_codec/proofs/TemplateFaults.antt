-- The first fault of template records: what reading answers is one, and each is answered.
use Rattle.std.proofs.Common.{◌≡◌, ◌≢◌, ℕ, zero, suc, ◌+◌, ◌-◌, ◌^◌, ◌<◌, ◌≤◌, Bool, true, false, cond, ltb, eqb, List}
use Rattle.std.proofs.Common.{[], ◌∷◌, ◌++◌, length, take, drop, Some, None, Result, Ok, Err, refl, sym, ap, ◌∙◌}
use Rattle.std.proofs.Common.{append_assoc, eq-eqb, arith, inl, inr, ◌⊎◌}
use Rattle.std.specs.Prelude.{◌||◌, ◌&&◌}
use Rattle.std.specs.Int.{Width, w16, w32, byte_len, from_be_bytes, to_be_bytes}
use Rattle.std.specs.List.{AllByRecursion}
use Rattle.std.proofs.lemmas.Bool.{ltb-false, ltb-true, le-ltb, lt-ltb, ne_eqb, eqb-false, eqb-true, cases_lt}
use Rattle.std.proofs.lemmas.List.{length-append, length-drop, take_at}
use Rattle.std.proofs.lemmas.List.Concat.{flat_map-cons}
use Rattle.flow_elements.specs.declared.element.ElementId.{ElementId}
use Rattle.flow_codec.specs.declared.error.MessageError.{MessageError}
use Rattle.flow_codec.specs.declared.error.MessageError.TheVariants.{TemplateCut, TemplateId, ScopeCount}
use Rattle.flow_codec.specs.declared.kind.TemplateKind.{TemplateKind}
use Rattle.flow_codec.specs.declared.kind.TemplateKind.TheVariants.{Plain, Options}
use Rattle.flow_codec.specs.declared.templates.TemplateRecord.{TemplateRecord}
use Rattle.flow_codec.specs.declared.templates.TemplateRecord.TheVariants.{Define, Withdraw, WithdrawAll}
use Rattle.flow_codec.specs.Layout.{Layout, IsSpecifier, set_id, is_options, specifier, specifiers}
use Rattle.flow_codec.specs.Templates.{AllTemplates, applied, template, scope_octets}
use Rattle.flow_codec.specs.Reading.{◌>>=◌, number_at, element_at, specifier_at, specifiers_at, scope_at, definition_at}
use Rattle.flow_codec.specs.Reading.{change_at, template_at, is_ended, templates_at}
use Rattle.flow_codec.specs.Message.{AreTemplates, IsEnd, joined}
use Rattle.flow_codec.specs.Fault.{IsCutSpecifier, IsDefinitionFault, IsTemplateFault}
use Rattle.flow_codec.proofs.Steps.{bind_err, past_err, chosen}
use Rattle.flow_codec.proofs.NumberLaws.{IsBytes, Takes-then, wide16, number_takes, number_again, number_cut}
use Rattle.flow_codec.proofs.NumberLaws.{number_short}
use Rattle.flow_codec.proofs.Specifiers.{specifier_takes, specifier_again}
use Rattle.flow_codec.proofs.TemplateLaws.{or_true, and_false, positive, scope_of, scope_of-is, scope_takes}
use Rattle.flow_codec.proofs.TemplateLaws.{scope_again, template_takes, template_again, template_long, end_again}
use Rattle.flow_codec.proofs.TemplateLaws.{goes_on}

-- ---- specifiers

specifier_fault : (at : ℕ) (octets : List ℕ) (d : MessageError) → IsBytes octets → specifier_at at octets ≡ Err d
    → IsCutSpecifier octets × (d ≡ TemplateCut at)
unfolding specifier_at
specifier_fault at octets d fits e =
    elim (bind_err (number_at (TemplateCut at) w16 octets) (λ number. number_at (TemplateCut at) w16 number.1 >>=
    λ len. element_at at number.0 len.0 len.1) d e) [
      | inl w ↦ let n = number_cut (TemplateCut at) w16 octets d w in (inl (omega arith), n.1)
      | inr a ↦
          let t0 = number_takes (TemplateCut at) w16 (2 ^ 16) wide16 octets a.0 fits a.1 in
          let len0 : length octets ≡ 2 + length (a.0).1 = omega (arith, ap length (t0.0).parts) in
          elim (bind_err (number_at (TemplateCut at) w16 (a.0).1) (λ len. element_at at (a.0).0 len.0 len.1) d a.2) [
            | inl w ↦ let n = number_cut (TemplateCut at) w16 (a.0).1 d w in (inl (omega arith), n.1)
            | inr b ↦
                let t1 = number_takes (TemplateCut at) w16 (2 ^ 16) wide16 (a.0).1 b.0 (t0.0).rest_fits b.1 in
                let len1 : length (a.0).1 ≡ 2 + length (b.0).1 = omega (arith, ap length (t1.0).parts) in
                elim (chosen (ltb (a.0).0 32768)
                (Ok ((record { enterprise = None; number = (a.0).0 }, (b.0).0), (b.0).1))
                (number_at (TemplateCut at) w32 (b.0).1 >>=
                λ enterprise. Ok (
                  (record { enterprise = Some enterprise.0; number = (a.0).0 - 32768 }, (b.0).0),
                  enterprise.1,
                )) (Err d) b.2) [
                  | inl w ↦ let no = w.1 in absurd cc
                  | inr w ↦
                      let big : 32768 ≤ (a.0).0 = ltb-false _ _ w.0 in
                      let number : from_be_bytes w16 (take 2 octets) ≡ (a.0).0 =
                      ap (λ (o : List ℕ). from_be_bytes w16 (take 2 o)) (t0.0).parts
                      ∙ ap (from_be_bytes w16) (take_at (to_be_bytes w16 (a.0).0) (a.0).1 2 refl)
                      ∙ wide16.again (a.0).0 t0.1 in
                      elim (bind_err (number_at (TemplateCut at) w32 (b.0).1)
                      (λ enterprise. Ok (
                        (
                          record { enterprise = Some enterprise.0; number = (a.0).0 - 32768 },
                          (b.0).0,
                        ),
                        enterprise.1,
                      )) d w.1) [
                        | inl v ↦ let n = number_cut (TemplateCut at) w32 (b.0).1 d v in
                            (inr (omega arith, omega arith), n.1)
                        | inr v ↦ let no = v.2 in absurd cc
                      ]
                ]
          ]
    ]

specifiers_fault : (at n : ℕ) (octets : List ℕ) (d : MessageError) → IsBytes octets → specifiers_at at n octets ≡ Err d
    → (fs : List (ElementId × ℕ)) × (tail : List ℕ) × (octets ≡ specifiers fs ++ tail) × AllByRecursion IsSpecifier fs
    × (length fs < n) × IsCutSpecifier tail × (d ≡ TemplateCut at)
unfolding specifiers_at
specifiers_fault at zero octets d fits e = absurd cc
specifiers_fault at (suc n) octets d fits e =
    elim (bind_err (specifier_at at octets) (λ first. specifiers_at at n first.1 >>=
    λ others. Ok (first.0 ∷ others.0, others.1)) d e) [
      | inl w ↦ let f = specifier_fault at octets d fits w in ([], octets, refl, tt, omega arith, f.0, f.1)
      | inr a ↦
          let first = specifier_takes at octets a.0 fits a.1 in
          elim (bind_err (specifiers_at at n (a.0).1) (λ others. Ok ((a.0).0 ∷ others.0, others.1)) d a.2) [
            | inl w ↦
                let f = specifiers_fault at n (a.0).1 d (first.0).rest_fits w in
                let parts : octets ≡ specifiers ((a.0).0 ∷ f.0) ++ f.1 = (first.0).parts
                ∙ ap (λ (t : List ℕ). specifier (a.0).0 ++ t) f.2
                ∙ sym (append_assoc (specifier (a.0).0) (specifiers f.0) f.1)
                ∙ ap (λ (t : List ℕ). t ++ f.1) (sym (flat_map-cons specifier (a.0).0 f.0)) in
                ((a.0).0 ∷ f.0, f.1, parts, (first.1, f.3), omega (arith, f.4), f.5, f.6)
            | inr w ↦ let no = w.2 in absurd cc
          ]
    ]

-- a number is read where there are enough octets
pub has : (cut : MessageError) (w : Width) (octets : List ℕ) → byte_len w ≤ length octets
    → number_at cut w octets ≡ Ok (from_be_bytes w (take (byte_len w) octets), drop (byte_len w) octets)
has cut w octets le = let e : ltb (length octets) (byte_len w) ≡ false = le-ltb _ _ le in rw e refl

short_again : (at : ℕ) (octets : List ℕ) → length octets < 4 → specifier_at at octets ≡ Err (TemplateCut at)
unfolding specifier_at
short_again at octets short = elim (cases_lt (length octets) 2) [
  | inl lt ↦ rw (number_short (TemplateCut at) w16 octets lt) refl
  | inr le ↦ rw (
    has (TemplateCut at) w16 octets le,
    number_short (TemplateCut at) w16 (drop 2 octets) (omega (arith, length-drop 2 octets)),
  ) refl
]

cut_again : (at : ℕ) (octets : List ℕ) → IsCutSpecifier octets → specifier_at at octets ≡ Err (TemplateCut at)
unfolding specifier_at
cut_again at octets (inl short) = short_again at octets short
cut_again at octets (inr (big, short)) = elim (cases_lt (length octets) 4) [
  | inl lt ↦ short_again at octets lt
  | inr le ↦
      let two : 2 ≤ length (drop 2 octets) = omega (arith, length-drop 2 octets) in
      let four : length (drop 2 (drop 2 octets)) < 4 =
      omega (arith, length-drop 2 octets, length-drop 2 (drop 2 octets)) in
      let large : ltb (from_be_bytes w16 (take 2 octets)) 32768 ≡ false = le-ltb _ _ big in
      rw (
        has (TemplateCut at) w16 octets (omega arith),
        has (TemplateCut at) w16 (drop 2 octets) two,
        large,
        number_short (TemplateCut at) w32 (drop 2 (drop 2 octets)) four,
      ) refl
]

cuts_again : (at n : ℕ) (fs : List (ElementId × ℕ)) (tail : List ℕ) → AllByRecursion IsSpecifier fs → length fs < n
    → IsCutSpecifier tail → specifiers_at at n (specifiers fs ++ tail) ≡ Err (TemplateCut at)
unfolding specifiers_at
cuts_again at zero fs tail each lt h = absurd (omega arith)
cuts_again at (suc n) [] tail each lt h = rw (cut_again at tail h) refl
cuts_again at (suc n) (f ∷ fs) tail each lt h =
    let regrouped : specifiers (f ∷ fs) ++ tail ≡ specifier f ++ (specifiers fs ++ tail) =
    ap (λ (x : List ℕ). x ++ tail) (flat_map-cons specifier f fs)
    ∙ append_assoc (specifier f) (specifiers fs) tail in
    ap (specifiers_at at (suc n)) regrouped
    ∙ rw (specifier_again at f (specifiers fs ++ tail) each.0, cuts_again at n fs tail each.1 (omega arith) h) refl

pub or_held : (a b : Bool) → (a ≡ true) ⊎ (b ≡ true) → (a || b) ≡ true
or_held a b (inl e) = rw e refl
or_held true b (inr e) = refl
or_held false b (inr e) = e

and_failed : (a b : Bool) → (a ≡ false) ⊎ (b ≡ false) → (a && b) ≡ false
and_failed a b (inl e) = rw e refl
and_failed true b (inr e) = e
and_failed false b (inr e) = refl

-- ---- what reading answers is a fault

scope_fault : (kind : TemplateKind) (at count : ℕ) (octets : List ℕ) (d : MessageError) → IsBytes octets
    → scope_at kind at count octets ≡ Err d → IsDefinitionFault kind at count octets d
scope_fault Plain at count octets d fits e = absurd cc
scope_fault Options at count octets d fits e =
    elim (bind_err (number_at (TemplateCut at) w16 octets)
    (λ scope. cond (eqb scope.0 0 || ltb count scope.0) (Err (ScopeCount at)) (Ok scope)) d e) [
      | inl w ↦ let n = number_cut (TemplateCut at) w16 octets d w in inl (refl, n.0, n.1)
      | inr a ↦
          let t = number_takes (TemplateCut at) w16 (2 ^ 16) wide16 octets a.0 fits a.1 in
          elim (past_err (eqb (a.0).0 0 || ltb count (a.0).0) (ScopeCount at) (Ok a.0) d a.2) [
            | inl w ↦ inr (inl (refl, (a.0).0, (a.0).1, (t.0).parts, t.1, wrong (a.0).0 w.0, w.1))
            | inr w ↦ let no = w.1 in absurd cc
          ]
    ]
  where
    wrong : (scope : ℕ) → (eqb scope 0 || ltb count scope) ≡ true → (scope ≡ 0) ⊎ (count < scope)
    wrong scope e = elim (or_true (eqb scope 0) (ltb count scope) e) [
      | inl x ↦ inl (eqb-true _ _ x)
      | inr x ↦
          inr (ltb-true _ _ x)
    ]

definition_fault : (kind : TemplateKind) (at id count : ℕ) (octets : List ℕ) (d : MessageError) → IsBytes octets
    → definition_at kind at id count octets ≡ Err d → IsDefinitionFault kind at count octets d
definition_fault kind at id count octets d fits e =
    elim (bind_err (scope_at kind at count octets) (λ scope. specifiers_at at count scope.1 >>=
    λ fields. Ok (made scope.0 fields.0, fields.1)) d e) [
      | inl w ↦ scope_fault kind at count octets d fits w
      | inr a ↦
          let t = scope_takes kind at count octets a.0 fits a.1 in
          elim (bind_err (specifiers_at at count (a.0).1) (λ fields. Ok (made (a.0).0 fields.0, fields.1)) d a.2) [
            | inl w ↦
                let f = specifiers_fault at count (a.0).1 d (t.0).rest_fits w in
                let layout : Layout = record { options = is_options kind; scope = (a.0).0; fields = f.0 } in
                let parts : octets ≡ scope_octets kind layout ++ specifiers f.0 ++ f.1 =
                (t.0).parts ∙ ap (λ (x : List ℕ). scope_of kind (a.0).0 ++ x) f.2
                ∙ ap (λ (x : List ℕ). x ++ (specifiers f.0 ++ f.1)) (sym (scope_of-is kind layout))
                ∙ sym (append_assoc (scope_octets kind layout) (specifiers f.0) f.1) in
                inr (inr (layout, t.1, f.1, parts, f.3, f.4, f.5, f.6))
            | inr w ↦ let no = w.2 in absurd cc
          ]
    ]
  where
    made : ℕ → List (ElementId × ℕ) → TemplateRecord
    made scope fields = Define id (record { options = is_options kind; scope = scope; fields = fields })

change_fault : (kind : TemplateKind) (at id count : ℕ) (octets : List ℕ) (d : MessageError) → IsBytes octets
    → change_at kind at id count octets ≡ Err d
    → ((id < 256) × ((id ≢ set_id kind) ⊎ (0 < count)) × (d ≡ TemplateId at))
    ⊎ ((256 ≤ id) × (0 < count) × IsDefinitionFault kind at count octets d)
change_fault kind at id count octets d fits e =
    let r2 : Result (TemplateRecord × List ℕ) MessageError =
    cond (eqb count 0) (Ok (Withdraw id, octets)) (definition_at kind at id count octets) in
    elim (chosen (eqb id (set_id kind) && eqb count 0) (Ok (WithdrawAll, octets))
    (cond (ltb id 256) (Err (TemplateId at)) r2) (Err d) e) [
      | inl w ↦ let no = w.1 in absurd cc
      | inr v ↦ elim (past_err (ltb id 256) (TemplateId at) r2 d v.1) [
        | inl w ↦ inl (
          ltb-true _ _ w.0,
          elim (and_false _ _ v.0) [
            | inl x ↦ inl (eqb-false _ _ x)
            | inr x ↦
                inr (positive count (eqb-false _ _ x))
          ],
          w.1,
        )
        | inr u ↦ elim (chosen (eqb count 0) (Ok (Withdraw id, octets)) (definition_at kind at id count octets)
            (Err d) u.1) [
              | inl w ↦ let no = w.1 in absurd cc
              | inr w ↦ inr (
                ltb-false _ _ u.0,
                positive count (eqb-false _ _ w.0),
                definition_fault kind at id count octets d fits w.1,
              )
            ]
      ]
    ]

pub template_fault : (kind : TemplateKind) (at : ℕ) (octets : List ℕ) (d : MessageError) → IsBytes octets
    → (IsEnd octets → ⊥) → template_at kind at octets ≡ Err d → IsTemplateFault kind at octets d
unfolding template_at
template_fault kind at octets d fits goes e =
    elim (bind_err (number_at (TemplateCut at) w16 octets) (λ id. number_at (TemplateCut at) w16 id.1 >>=
    λ count. change_at kind at id.0 count.0 count.1) d e) [
      | inl w ↦ let n = number_cut (TemplateCut at) w16 octets d w in absurd (goes (inl (omega arith)))
      | inr a ↦
          let t0 = number_takes (TemplateCut at) w16 (2 ^ 16) wide16 octets a.0 fits a.1 in
          let len0 : length octets ≡ 2 + length (a.0).1 = omega (arith, ap length (t0.0).parts) in
          elim (bind_err (number_at (TemplateCut at) w16 (a.0).1)
          (λ count. change_at kind at (a.0).0 count.0 count.1) d a.2) [
            | inl w ↦ let n = number_cut (TemplateCut at) w16 (a.0).1 d w in absurd (goes (inl (omega arith)))
            | inr b ↦
                let t1 = number_takes (TemplateCut at) w16 (2 ^ 16) wide16 (a.0).1 b.0 (t0.0).rest_fits b.1 in
                let both = Takes-then octets (to_be_bytes w16 (a.0).0) (a.0).1 (to_be_bytes w16 (b.0).0)
                (b.0).1 t0.0 t1.0 in
                let some : 0 < (a.0).0 =
                positive (a.0).0 (λ none. goes
                (inr ((a.0).1, (t0.0).parts ∙ ap (λ (n : ℕ). to_be_bytes w16 n ++ (a.0).1) none))) in (
                  (a.0).0,
                  (b.0).0,
                  (b.0).1,
                  both.parts,
                  t0.1,
                  t1.1,
                  some,
                  change_fault kind at (a.0).0 (b.0).0 (b.0).1 d (t1.0).rest_fits b.2,
                )
          ]
    ]

pub templates_fault : (n end domain : ℕ) (kind : TemplateKind) (before : AllTemplates) (octets : List ℕ)
    (d : MessageError) → length octets ≤ n → IsBytes octets → templates_at n end domain kind before octets ≡ Err d
    → (rs : List (List ℕ)) × (bad : List ℕ) × (next : AllTemplates) × (octets ≡ joined rs ++ bad)
    × AreTemplates domain kind before rs next × (IsEnd bad → ⊥) × IsTemplateFault kind (end - length bad) bad d
unfolding templates_at
templates_fault zero end domain kind before octets d le fits e = absurd cc
templates_fault (suc n) end domain kind before octets d le fits e =
    elim (chosen (is_ended octets) (Ok before) (template_at kind (end - length octets) octets >>=
    λ t. templates_at n end domain kind (applied domain kind t.0 before) t.1) (Err d) e) [
      | inl w ↦ let no = w.1 in absurd cc
      | inr w ↦
          let goes : IsEnd octets → ⊥ = λ h. let holds = end_again octets h in let no = w.0 in absurd cc in
          elim (bind_err (template_at kind (end - length octets) octets)
          (λ t. templates_at n end domain kind (applied domain kind t.0 before) t.1) d w.1) [
            | inl v ↦ (
              [],
              octets,
              before,
              refl,
              refl,
              goes,
              template_fault kind (end - length octets) octets d fits goes v,
            )
            | inr a ↦
                let t = template kind (a.0).0 in
                let first = template_takes kind (end - length octets) octets a.0 fits a.1 in
                let parts = (first.0).parts in
                let len : length octets ≡ length t + length (a.0).1 = ap length parts ∙ length-append t (a.0).1 in
                let f = templates_fault n end domain kind (applied domain kind (a.0).0 before) (a.0).1 d
                (omega (arith, template_long kind (a.0).0 first.1)) (first.0).rest_fits a.2 in
                let whole : octets ≡ joined (t ∷ f.0) ++ f.1 = parts ∙ ap (λ (x : List ℕ). t ++ x) f.3
                ∙ sym (append_assoc t (joined f.0) f.1)
                ∙ ap (λ (x : List ℕ). x ++ f.1) (sym (flat_map-cons (λ r. r) t f.0)) in
                (t ∷ f.0, f.1, f.2, whole, ((a.0).0, first.1, refl, f.4), f.5, f.6)
          ]
    ]

-- ---- each fault is answered

definition_fault_again : (kind : TemplateKind) (at id count : ℕ) (octets : List ℕ) (d : MessageError)
    → IsDefinitionFault kind at count octets d → definition_at kind at id count octets ≡ Err d
definition_fault_again Plain at id count octets d (inl (is, short, fault)) = absurd cc
definition_fault_again Options at id count octets d (inl (is, short, fault)) =
    rw (number_short (TemplateCut at) w16 octets short, fault) refl
definition_fault_again Plain at id count octets d (inr (inl (is, scope, more, parts, below, wrong, fault))) = absurd cc
definition_fault_again Options at id count octets d (inr (inl (is, scope, more, parts, below, wrong, fault))) =
    let test : (eqb scope 0 || ltb count scope) ≡ true = or_held (eqb scope 0) (ltb count scope) (tests wrong) in
    let first : number_at (TemplateCut at) w16 octets ≡ Ok (scope, more) = ap (number_at (TemplateCut at) w16) parts
    ∙ number_again (TemplateCut at) w16 (2 ^ 16) wide16 scope more below in
    rw (first, test, fault) refl
  where
    tests : (scope ≡ 0) ⊎ (count < scope) → (eqb scope 0 ≡ true) ⊎ (ltb count scope ≡ true)
    tests (inl e) = inl (eq-eqb scope 0 e)
    tests (inr lt) = inr (lt-ltb _ _ lt)
definition_fault_again kind at id count octets d (inr (inr (layout, scope, tail, parts, each, lt, cut, fault))) =
    let flat : octets ≡ scope_of kind layout.scope ++ (specifiers layout.fields ++ tail) =
    parts ∙ append_assoc (scope_octets kind layout) (specifiers layout.fields) tail
    ∙ ap (λ (t : List ℕ). t ++ (specifiers layout.fields ++ tail)) (scope_of-is kind layout) in
    let first : scope_at kind at count octets ≡ Ok (layout.scope, specifiers layout.fields ++ tail) =
    ap (scope_at kind at count) flat
    ∙ scope_again kind at layout.scope count (specifiers layout.fields ++ tail) scope in
    rw (first, cuts_again at count layout.fields tail each lt cut, fault) refl

change_fault_again : (kind : TemplateKind) (at id count : ℕ) (octets : List ℕ) (d : MessageError)
    → ((id < 256) × ((id ≢ set_id kind) ⊎ (0 < count)) × (d ≡ TemplateId at))
    ⊎ ((256 ≤ id) × (0 < count) × IsDefinitionFault kind at count octets d)
    → change_at kind at id count octets ≡ Err d
change_fault_again kind at id count octets d (inl (small, why, fault)) =
    let l : ltb id 256 ≡ true = lt-ltb _ _ small in
    let test : (eqb id (set_id kind) && eqb count 0) ≡ false =
    and_failed (eqb id (set_id kind)) (eqb count 0) (tests why) in
    rw (test, l, fault) refl
  where
    tests : (id ≢ set_id kind) ⊎ (0 < count) → (eqb id (set_id kind) ≡ false) ⊎ (eqb count 0 ≡ false)
    tests (inl other) = inl (ne_eqb id (set_id kind) other)
    tests (inr some) = inr (ne_eqb count 0 (λ e. omega arith))
change_fault_again kind at id count octets d (inr (large, some, h)) =
    let l : ltb id 256 ≡ false = le-ltb _ _ large in
    let none : eqb count 0 ≡ false = ne_eqb count 0 (λ e. omega arith) in
    let test : (eqb id (set_id kind) && eqb count 0) ≡ false =
    and_failed (eqb id (set_id kind)) (eqb count 0) (inr none) in
    rw (test, l, none) (definition_fault_again kind at id count octets d h)

pub template_fault_again : (kind : TemplateKind) (at : ℕ) (octets : List ℕ) (d : MessageError)
    → IsTemplateFault kind at octets d → template_at kind at octets ≡ Err d
unfolding template_at
template_fault_again kind at octets d h =
    let id = h.0 in
    let count = h.1 in
    let rest = h.2 in
    let flat : octets ≡ to_be_bytes w16 id ++ (to_be_bytes w16 count ++ rest) = h.3
    ∙ append_assoc (to_be_bytes w16 id) (to_be_bytes w16 count) rest in
    ap (template_at kind at) flat
    ∙ rw (
      number_again (TemplateCut at) w16 (2 ^ 16) wide16 id (to_be_bytes w16 count ++ rest) h.4,
      number_again (TemplateCut at) w16 (2 ^ 16) wide16 count rest h.5,
    )
    (change_fault_again kind at id count rest d h.7)

pub templates_fault_again : (n end domain : ℕ) (kind : TemplateKind) (before : AllTemplates) (rs : List (List ℕ))
    (bad : List ℕ) (next : AllTemplates) (d : MessageError) → AreTemplates domain kind before rs next
    → is_ended bad ≡ false → template_at kind (end - length bad) bad ≡ Err d
    → length (joined rs ++ bad) ≤ n → 0 < length bad → templates_at n end domain kind before (joined rs ++ bad) ≡ Err d
unfolding templates_at
templates_fault_again zero end domain kind before [] bad next d h goes is le some = absurd (omega arith)
templates_fault_again (suc n) end domain kind before [] bad next d h goes is le some = rw (goes, is) refl
templates_fault_again zero end domain kind before (r ∷ rs) bad next d h goes is le some =
    let len : length (joined (r ∷ rs) ++ bad) ≡ length (r ++ (joined rs ++ bad)) =
    ap length (ap (λ (t : List ℕ). t ++ bad) (flat_map-cons (λ r. r) r rs) ∙ append_assoc r (joined rs) bad) in
    absurd (omega (arith, length-append r (joined rs ++ bad), length-append (joined rs) bad))
templates_fault_again (suc n) end domain kind before (r ∷ rs) bad next d h goes is le some =
    let t = template kind h.0 in
    let regrouped : joined (r ∷ rs) ++ bad ≡ t ++ (joined rs ++ bad) =
    ap (λ (t : List ℕ). t ++ bad) (flat_map-cons (λ r. r) r rs) ∙ append_assoc r (joined rs) bad
    ∙ ap (λ (x : List ℕ). x ++ (joined rs ++ bad)) h.2 in
    let len : length (joined (r ∷ rs) ++ bad) ≡ length t + length (joined rs ++ bad) = ap length regrouped
    ∙ length-append t (joined rs ++ bad) in
    let first = template_again kind (end - length (t ++ (joined rs ++ bad))) h.0 (joined rs ++ bad) h.1 in
    let more = templates_fault_again n end domain kind (applied domain kind h.0 before) rs bad next d h.3 goes is
    (omega (arith, template_long kind h.0 h.1)) some in
    ap (templates_at (suc n) end domain kind before) regrouped
    ∙ rw (goes_on kind h.0 (joined rs ++ bad) h.1, first, more) refl
