-- Template records: what is read is one in its octets, and each is read.
use Rattle.std.proofs.Common.{◌≡◌, ℕ, zero, suc, ◌+◌, ◌-◌, ◌^◌, ◌<◌, ◌≤◌, Bool, true, false, cond, ltb, eqb, List, []}
use Rattle.std.proofs.Common.{◌∷◌, ◌++◌, length, take, Result, Ok, Err, refl, sym, ap, subst, ◌∙◌, append_assoc, arith}
use Rattle.std.proofs.Common.{inl, inr, ◌⊎◌}
use Rattle.std.specs.Prelude.{◌||◌, ◌&&◌}
use Rattle.std.specs.Int.{w16, from_be_bytes, to_be_bytes}
use Rattle.std.proofs.lemmas.Bool.{ltb-false, ltb-true, le-ltb, lt-ltb, ne_eqb, eqb-false, eqb-true}
use Rattle.std.proofs.lemmas.List.{length-append, take_at}
use Rattle.std.proofs.lemmas.List.Concat.{flat_map-cons}
use Rattle.flow_elements.specs.declared.element.ElementId.{ElementId}
use Rattle.flow_codec.specs.declared.error.MessageError.{MessageError}
use Rattle.flow_codec.specs.declared.error.MessageError.TheVariants.{TemplateCut, TemplateId, ScopeCount}
use Rattle.flow_codec.specs.declared.kind.TemplateKind.{TemplateKind}
use Rattle.flow_codec.specs.declared.kind.TemplateKind.TheVariants.{Plain, Options}
use Rattle.flow_codec.specs.declared.templates.TemplateRecord.{TemplateRecord}
use Rattle.flow_codec.specs.declared.templates.TemplateRecord.TheVariants.{Define, Withdraw, WithdrawAll}
use Rattle.flow_codec.specs.Layout.{Layout, IsScope, set_id, is_options, specifiers}
use Rattle.flow_codec.specs.Templates.{AllTemplates, applied, template, scope_octets, IsTemplateRecord}
use Rattle.flow_codec.specs.Reading.{◌>>=◌, number_at, specifiers_at, scope_at, definition_at, change_at, template_at}
use Rattle.flow_codec.specs.Reading.{is_ended, templates_at}
use Rattle.flow_codec.specs.Message.{AreTemplates, IsEnd, joined}
use Rattle.flow_codec.specs.Fault.{IsScopeOf}
use Rattle.flow_codec.proofs.Steps.{bind_ok, guard_ok, ok_is, past, chosen}
use Rattle.flow_codec.proofs.NumberLaws.{IsBytes, Takes, Takes-then, wide16, number_takes, number_again}
use Rattle.flow_codec.proofs.Specifiers.{specifiers_take, specifiers_again}

pub or_false : (a b : Bool) → (a || b) ≡ false → (a ≡ false) × (b ≡ false)
or_false true b e = absurd cc
or_false false b e = (refl, e)

pub or_true : (a b : Bool) → (a || b) ≡ true → (a ≡ true) ⊎ (b ≡ true)
or_true true b e = inl refl
or_true false b e = inr e

pub and_true : (a b : Bool) → (a && b) ≡ true → (a ≡ true) × (b ≡ true)
and_true true b e = (refl, e)
and_true false b e = absurd cc

pub and_false : (a b : Bool) → (a && b) ≡ false → (a ≡ false) ⊎ (b ≡ false)
and_false true b e = inr e
and_false false b e = inl refl

pub positive : (n : ℕ) → (n ≡ 0 → ⊥) → 0 < n
positive zero h = absurd (h refl)
positive (suc n) h = omega arith

-- ---- a Scope Field Count

-- the octets of a Scope Field Count
abbrev pub scope_of : TemplateKind → ℕ → List ℕ
scope_of Plain scope = []
scope_of Options scope = to_be_bytes w16 scope

pub scope_of-is : (kind : TemplateKind) (layout : Layout) → scope_octets kind layout ≡ scope_of kind layout.scope
scope_of-is Plain layout = refl
scope_of-is Options layout = refl

pub scope_takes : (kind : TemplateKind) (at count : ℕ) (octets : List ℕ) (x : ℕ × List ℕ) → IsBytes octets
    → scope_at kind at count octets ≡ Ok x → Takes octets (scope_of kind x.0) x.1 × IsScopeOf kind x.0 count
scope_takes Plain at count octets x fits e =
    subst (λ (y : ℕ × List ℕ). Takes octets [] y.1 × (y.0 ≡ 0)) (ok_is (0, octets) x e)
    (record { parts = refl; rest_fits = fits }, refl)
scope_takes Options at count octets x fits e =
    let a = bind_ok (number_at (TemplateCut at) w16 octets)
    (λ scope. cond (eqb scope.0 0 || ltb count scope.0) (Err (ScopeCount at)) (Ok scope)) x e in
    let t = number_takes (TemplateCut at) w16 (2 ^ 16) wide16 octets a.0 fits a.1 in
    let g = guard_ok (eqb a.0.0 0 || ltb count a.0.0) (ScopeCount at) a.0 x a.2 in
    let tests = or_false (eqb a.0.0 0) (ltb count a.0.0) g.0 in
    let some : a.0.0 ≡ 0 → ⊥ = eqb-false _ _ tests.0 in
    let most : a.0.0 ≤ count = ltb-false _ _ tests.1 in
    subst (λ (y : ℕ × List ℕ). Takes octets (to_be_bytes w16 y.0) y.1 × IsScopeOf Options y.0 count) g.1 (
      t.0,
      (positive a.0.0 some, most, t.1),
    )

pub scope_again : (kind : TemplateKind) (at scope count : ℕ) (rest : List ℕ) → IsScopeOf kind scope count
    → scope_at kind at count (scope_of kind scope ++ rest) ≡ Ok (scope, rest)
scope_again Plain at scope count rest h = rw h refl
scope_again Options at scope count rest h =
    let some : eqb scope 0 ≡ false = ne_eqb scope 0 (λ e. omega (arith, h.0)) in
    let most : ltb count scope ≡ false = le-ltb _ _ h.1 in
    rw (number_again (TemplateCut at) w16 (2 ^ 16) wide16 scope rest h.2, some, most) refl

scope_is : (kind : TemplateKind) (layout : Layout) → IsScopeOf kind layout.scope (length layout.fields)
    → IsScope kind layout
scope_is Plain layout h = h
scope_is Options layout h = (h.0, h.1)

is_scope : (kind : TemplateKind) (layout : Layout) → length layout.fields < 2 ^ 16 → IsScope kind layout
    → IsScopeOf kind layout.scope (length layout.fields)
is_scope Plain layout lt h = h
is_scope Options layout lt h = (h.0, h.1, omega (arith, h.0, h.1))

-- ---- one template record

-- what follows an ID and a Field Count
pub record IsChange (kind : TemplateKind) (id count : ℕ) (octets : List ℕ) (change : TemplateRecord)
    (rest : List ℕ) : Type 0 where
  pub text : List ℕ
  pub takes : Takes octets text rest
  pub whole : to_be_bytes w16 id ++ to_be_bytes w16 count ++ text ≡ template kind change
  pub is : IsTemplateRecord kind change

definition_takes : (kind : TemplateKind) (at id count : ℕ) (octets : List ℕ) (x : TemplateRecord × List ℕ)
    → IsBytes octets → 256 ≤ id → id < 2 ^ 16 → 0 < count → count < 2 ^ 16
    → definition_at kind at id count octets ≡ Ok x
    → IsChange kind id count octets x.0 x.1
definition_takes kind at id count octets x fits large id_below some count_below e =
    let made : ℕ → List (ElementId × ℕ) → TemplateRecord =
    λ scope fields. Define id (record { options = is_options kind; scope = scope; fields = fields }) in
    let a = bind_ok (scope_at kind at count octets) (λ scope. specifiers_at at count scope.1 >>=
    λ fields. Ok (made scope.0 fields.0, fields.1)) x e in
    let b = bind_ok (specifiers_at at count a.0.1) (λ fields. Ok (made a.0.0 fields.0, fields.1)) x a.2 in
    let t0 = scope_takes kind at count octets a.0 fits a.1 in
    let t1 = specifiers_take at count a.0.1 b.0 t0.0.rest_fits b.1 in
    let layout : Layout = record { options = is_options kind; scope = a.0.0; fields = b.0.0 } in
    let both = Takes-then octets (scope_of kind a.0.0) a.0.1 (specifiers b.0.0) b.0.1 t0.0 t1.0 in
    let scope : IsScopeOf kind a.0.0 (length b.0.0) = subst (IsScopeOf kind a.0.0) (sym t1.1) t0.1 in
    let whole : to_be_bytes w16 id ++ to_be_bytes w16 count ++
    (scope_of kind a.0.0 ++ specifiers b.0.0) ≡ template kind (Define id layout) =
    ap (λ (n : ℕ). to_be_bytes w16 id ++ to_be_bytes w16 n ++ (scope_of kind a.0.0 ++ specifiers b.0.0)) (sym t1.1)
    ∙ ap (λ (t : List ℕ). to_be_bytes w16 id ++ to_be_bytes w16 (length b.0.0) ++ (t ++ specifiers b.0.0))
    (sym (scope_of-is kind layout)) in
    subst (λ (y : TemplateRecord × List ℕ). IsChange kind id count octets y.0 y.1)
    (ok_is (Define id layout, b.0.1) x b.2) (record {
      text = scope_of kind a.0.0 ++ specifiers b.0.0;
      takes = both;
      whole = whole;
      is = (
        record { least_id = large; below = id_below },
        record {
          some = omega (arith, t1.1);
          count =
              omega (arith, t1.1);
          fields = t1.2;
          options = refl;
          scope = scope_is kind layout scope;
        },
      );
    })

change_takes : (kind : TemplateKind) (at id count : ℕ) (octets : List ℕ) (x : TemplateRecord × List ℕ) → IsBytes octets
    → id < 2 ^ 16 → count < 2 ^ 16 → change_at kind at id count octets ≡ Ok x → IsChange kind id count octets x.0 x.1
change_takes kind at id count octets x fits id_below count_below e =
    let r2 : Result (TemplateRecord × List ℕ) MessageError =
    cond (eqb count 0) (Ok (Withdraw id, octets)) (definition_at kind at id count octets) in
    elim (chosen (eqb id (set_id kind) && eqb count 0) (Ok (WithdrawAll, octets))
    (cond (ltb id 256) (Err (TemplateId at)) r2) (Ok x) e) [
      | inl w ↦
          let both = and_true (eqb id (set_id kind)) (eqb count 0) w.0 in
          let whole : to_be_bytes w16 id ++ to_be_bytes w16 count ≡ template kind WithdrawAll =
          ap (λ (n : ℕ). to_be_bytes w16 n ++ to_be_bytes w16 count) (eqb-true _ _ both.0)
          ∙ ap (λ (n : ℕ). to_be_bytes w16 (set_id kind) ++ to_be_bytes w16 n) (eqb-true _ _ both.1) in
          subst P (ok_is (WithdrawAll, octets) x w.1)
          (record { text = []; takes = record { parts = refl; rest_fits = fits }; whole = whole; is = tt })
      | inr v ↦
          let g = past (ltb id 256) (TemplateId at) r2 x v.1 in
          let large : 256 ≤ id = ltb-false _ _ g.0 in
          elim (chosen (eqb count 0) (Ok (Withdraw id, octets)) (definition_at kind at id count octets) (Ok x) g.1) [
            | inl w ↦
                let whole : to_be_bytes w16 id ++ to_be_bytes w16 count ≡ template kind (Withdraw id) =
                ap (λ (n : ℕ). to_be_bytes w16 id ++ to_be_bytes w16 n) (eqb-true _ _ w.0) in
                subst P (ok_is (Withdraw id, octets) x w.1)
                (record {
                  text = [];
                  takes = record { parts = refl; rest_fits = fits };
                  whole = whole;
                  is =
                      record { least_id = large; below = id_below };
                })
            | inr w ↦ definition_takes kind at id count octets x fits large id_below
                (positive count (eqb-false _ _ w.0)) count_below w.1
          ]
    ]
  where
    P : TemplateRecord × List ℕ → Type 0
    P y = IsChange kind id count octets y.0 y.1

pub template_takes : (kind : TemplateKind) (at : ℕ) (octets : List ℕ) (x : TemplateRecord × List ℕ) → IsBytes octets
    → template_at kind at octets ≡ Ok x → Takes octets (template kind x.0) x.1 × IsTemplateRecord kind x.0
unfolding template_at
template_takes kind at octets x fits e =
    let a = bind_ok (number_at (TemplateCut at) w16 octets) (λ id. number_at (TemplateCut at) w16 id.1 >>=
    λ count. change_at kind at id.0 count.0 count.1) x e in
    let b = bind_ok (number_at (TemplateCut at) w16 a.0.1) (λ count. change_at kind at a.0.0 count.0 count.1) x a.2 in
    let t0 = number_takes (TemplateCut at) w16 (2 ^ 16) wide16 octets a.0 fits a.1 in
    let t1 = number_takes (TemplateCut at) w16 (2 ^ 16) wide16 a.0.1 b.0 t0.0.rest_fits b.1 in
    let c = change_takes kind at a.0.0 b.0.0 b.0.1 x t1.0.rest_fits t0.1 t1.1 b.2 in
    let more = Takes-then a.0.1 (to_be_bytes w16 b.0.0) b.0.1 c.text x.1 t1.0 c.takes in
    let all = Takes-then octets (to_be_bytes w16 a.0.0) a.0.1 (to_be_bytes w16 b.0.0 ++ c.text) x.1 t0.0 more in
    (subst (λ (t : List ℕ). Takes octets t x.1) c.whole all, c.is)

-- the ID and the Field Count that a template record begins with
pub record IsHeaded (kind : TemplateKind) (change : TemplateRecord) : Type 0 where
  pub id : ℕ
  pub count : ℕ
  pub text : List ℕ
  pub whole : template kind change ≡ to_be_bytes w16 id ++ (to_be_bytes w16 count ++ text)
  pub id_below : id < 2 ^ 16
  pub count_below : count < 2 ^ 16
  pub some : 0 < id
  pub again : (at : ℕ) (rest : List ℕ) → change_at kind at id count (text ++ rest) ≡ Ok (change, rest)

large_id : (kind : TemplateKind) (id : ℕ) → 256 ≤ id → eqb id (set_id kind) ≡ false
large_id Plain id large = ne_eqb id 2 (λ e. omega arith)
large_id Options id large = ne_eqb id 3 (λ e. omega arith)

own_id : (kind : TemplateKind) → eqb (set_id kind) (set_id kind) ≡ true
own_id Plain = refl
own_id Options = refl

id_small : (kind : TemplateKind) → (0 < set_id kind) × (set_id kind < 2 ^ 16)
id_small Plain = (omega arith, omega arith)
id_small Options = (omega arith, omega arith)

pub headed : (kind : TemplateKind) (change : TemplateRecord) → IsTemplateRecord kind change → IsHeaded kind change
headed kind WithdrawAll h = record {
  id = set_id kind;
  count = 0;
  text = [];
  whole = refl;
  id_below = (id_small kind).1;
  count_below = omega arith;
  some = (id_small kind).0;
  again = λ at rest. rw (own_id kind) refl;
}
headed kind (Withdraw id) h =
    let large : ltb id 256 ≡ false = le-ltb _ _ h.least_id in
    record {
      id = id;
      count = 0;
      text = [];
      whole = refl;
      id_below = h.below;
      count_below = omega arith;
      some = omega (arith, h.least_id);
      again = λ at rest. rw (large_id kind id h.least_id, large) refl;
    }
headed kind (Define id layout) h =
    let large : ltb id 256 ≡ false = le-ltb _ _ (h.0).least_id in
    let n = length layout.fields in
    let some : eqb n 0 ≡ false = ne_eqb n 0 (λ e. omega (arith, (h.1).some)) in
    let scope = is_scope kind layout (h.1).count (h.1).scope in
    record {
      id = id;
      count = n;
      text = scope_of kind layout.scope ++ specifiers layout.fields;
      whole = ap (λ (t : List ℕ). to_be_bytes w16 id ++ to_be_bytes w16 n ++ t ++ specifiers layout.fields)
          (scope_of-is kind layout);
      id_below = (h.0).below;
      count_below = (h.1).count;
      some = omega (arith, (h.0).least_id);
      again = λ at rest.
          let flat = append_assoc (scope_of kind layout.scope) (specifiers layout.fields) rest in
          rw (
            large_id kind id (h.0).least_id,
            large,
            some,
            flat,
            scope_again kind at layout.scope n (specifiers layout.fields ++ rest) scope,
            specifiers_again at layout.fields rest (h.1).fields,
          ) (same (h.1).options rest);
    }
  where
    made : Bool → List ℕ → Result (TemplateRecord × List ℕ) MessageError
    made options rest = Ok (
      Define id (record { options = options; scope = layout.scope; fields = layout.fields }),
      rest,
    )

    same : layout.options ≡ is_options kind → (rest : List ℕ) → made (is_options kind) rest ≡ made layout.options rest
    same e rest = rw e refl

pub template_again : (kind : TemplateKind) (at : ℕ) (change : TemplateRecord) (rest : List ℕ)
    → IsTemplateRecord kind change → template_at kind at (template kind change ++ rest) ≡ Ok (change, rest)
unfolding template_at
template_again kind at change rest h =
    let t = headed kind change h in
    let flat : template kind change ++ rest ≡ to_be_bytes w16 t.id ++ (to_be_bytes w16 t.count ++ (t.text ++ rest)) =
    ap (λ (x : List ℕ). x ++ rest) t.whole in
    ap (template_at kind at) flat
    ∙ rw (
      number_again (TemplateCut at) w16 (2 ^ 16) wide16 t.id
          (to_be_bytes w16 t.count ++ (t.text ++ rest)) t.id_below,
      number_again (TemplateCut at) w16 (2 ^ 16) wide16 t.count (t.text ++ rest) t.count_below,
    ) (t.again at rest)

pub template_long : (kind : TemplateKind) (change : TemplateRecord) → IsTemplateRecord kind change
    → 4 ≤ length (template kind change)
template_long kind change h = let t = headed kind change h in rw t.whole (omega arith)

-- ---- the end of a Set of template records

pub ended_is : (octets : List ℕ) → IsBytes octets → is_ended octets ≡ true → IsEnd octets
ended_is [] fits e = inl (omega arith)
ended_is (a ∷ []) fits e = inl (omega arith)
ended_is (a ∷ b ∷ rest) fits e =
    elim (or_true (ltb (length (a ∷ b ∷ rest)) 4) (eqb (from_be_bytes w16 (a ∷ b ∷ [])) 0) e) [
      | inl short ↦ inl (ltb-true _ _ short)
      | inr none ↦
          let n : from_be_bytes w16 (a ∷ b ∷ []) ≡ 0 = eqb-true _ _ none in
          let first : a ≡ 0 = omega (arith, fits 0, fits 1) in
          let second : b ≡ 0 = omega (arith, fits 0, fits 1) in
          inr (rest, rw (first, second) refl)
    ]

pub end_again : (octets : List ℕ) → IsEnd octets → is_ended octets ≡ true
end_again octets (inl short) = let e : ltb (length octets) 4 ≡ true = lt-ltb _ _ short in rw e refl
end_again octets (inr (more, e)) = rw e (go (ltb (length (0 ∷ 0 ∷ more)) 4))
  where
    go : (b : Bool) → (b || true) ≡ true
    go true = refl
    go false = refl

pub goes_on : (kind : TemplateKind) (change : TemplateRecord) (rest : List ℕ) → IsTemplateRecord kind change
    → is_ended (template kind change ++ rest) ≡ false
goes_on kind change rest h =
    let t = headed kind change h in
    let tail = to_be_bytes w16 t.count ++ (t.text ++ rest) in
    let flat : template kind change ++ rest ≡ to_be_bytes w16 t.id ++ tail = ap (λ (x : List ℕ). x ++ rest) t.whole in
    let long : ltb (length (to_be_bytes w16 t.id ++ tail)) 4 ≡ false = le-ltb _ _ (omega arith) in
    let number : from_be_bytes w16 (take 2 (to_be_bytes w16 t.id ++ tail)) ≡ t.id =
    ap (from_be_bytes w16) (take_at (to_be_bytes w16 t.id) tail 2 refl) ∙ wide16.again t.id t.id_below in
    let some : eqb t.id 0 ≡ false = ne_eqb t.id 0 (λ e. omega (arith, t.some)) in
    ap is_ended flat ∙ rw (long, number, some) refl

-- ---- template records, one after the other

pub templates_take : (n end domain : ℕ) (kind : TemplateKind) (before : AllTemplates) (octets : List ℕ)
    (after : AllTemplates) → length octets ≤ n → IsBytes octets
    → templates_at n end domain kind before octets ≡ Ok after
    → (rs : List (List ℕ)) × (rest : List ℕ) × (octets ≡ joined rs ++ rest) × AreTemplates domain kind before rs after
    × IsEnd rest
unfolding templates_at
templates_take zero end domain kind before octets after le fits e =
    ([], octets, refl, sym (ok_is before after e), inl (omega arith))
templates_take (suc n) end domain kind before octets after le fits e =
    elim (chosen (is_ended octets) (Ok before) (template_at kind (end - length octets) octets >>=
    λ t. templates_at n end domain kind (applied domain kind t.0 before) t.1) (Ok after) e) [
      | inl w ↦ ([], octets, refl, sym (ok_is before after w.1), ended_is octets fits w.0)
      | inr w ↦
          let a = bind_ok (template_at kind (end - length octets) octets)
          (λ t. templates_at n end domain kind (applied domain kind t.0 before) t.1) after w.1 in
          let t = template kind a.0.0 in
          let first = template_takes kind (end - length octets) octets a.0 fits a.1 in
          let parts = first.0.parts in
          let len : length octets ≡ length t + length a.0.1 = ap length parts ∙ length-append t a.0.1 in
          let more = templates_take n end domain kind (applied domain kind a.0.0 before) a.0.1 after
          (omega (arith, template_long kind a.0.0 first.1)) first.0.rest_fits a.2 in
          let whole : octets ≡ joined (t ∷ more.0) ++ more.1 = parts ∙ ap (λ (x : List ℕ). t ++ x) more.2
          ∙ sym (append_assoc t (joined more.0) more.1)
          ∙ ap (λ (x : List ℕ). x ++ more.1) (sym (flat_map-cons (λ r. r) t more.0)) in
          (t ∷ more.0, more.1, whole, (a.0.0, first.1, refl, more.3), more.4)
    ]

pub templates_again : (n end domain : ℕ) (kind : TemplateKind) (before : AllTemplates) (rs : List (List ℕ))
    (rest : List ℕ) (after : AllTemplates) → AreTemplates domain kind before rs after → IsEnd rest
    → length (joined rs ++ rest) ≤ n
    → templates_at n end domain kind before (joined rs ++ rest) ≡ Ok after
unfolding templates_at
templates_again zero end domain kind before [] rest after h ended le = ap Ok (sym h)
templates_again (suc n) end domain kind before [] rest after h ended le = let e : is_ended rest ≡ true =
    end_again rest ended in rw (e, h) refl
templates_again zero end domain kind before (r ∷ rs) rest after h ended le =
    let len : length (joined (r ∷ rs) ++ rest) ≡ length (r ++ (joined rs ++ rest)) =
    ap length (ap (λ (t : List ℕ). t ++ rest) (flat_map-cons (λ r. r) r rs) ∙ append_assoc r (joined rs) rest) in
    let some : length r ≡ length (template kind h.0) = ap length h.2 in
    absurd (omega (arith, length-append r (joined rs ++ rest), template_long kind h.0 h.1))
templates_again (suc n) end domain kind before (r ∷ rs) rest after h ended le =
    let t = template kind h.0 in
    let regrouped : joined (r ∷ rs) ++ rest ≡ t ++ (joined rs ++ rest) =
    ap (λ (t : List ℕ). t ++ rest) (flat_map-cons (λ r. r) r rs) ∙ append_assoc r (joined rs) rest
    ∙ ap (λ (x : List ℕ). x ++ (joined rs ++ rest)) h.2 in
    let len : length (joined (r ∷ rs) ++ rest) ≡ length t + length (joined rs ++ rest) = ap length regrouped
    ∙ length-append t (joined rs ++ rest) in
    let goes : is_ended (t ++ (joined rs ++ rest)) ≡ false = goes_on kind h.0 (joined rs ++ rest) h.1 in
    let first = template_again kind (end - length (t ++ (joined rs ++ rest))) h.0 (joined rs ++ rest) h.1 in
    let more = templates_again n end domain kind (applied domain kind h.0 before) rs rest after h.3 ended
    (omega (arith, template_long kind h.0 h.1)) in
    ap (templates_at (suc n) end domain kind before) regrouped ∙ rw (goes, first, more) refl
