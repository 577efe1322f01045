-- A domain's definitions that are changed on their own and put back are as good as those changed in their place among
-- all.
use Rattle.std.proofs.Common.{◌≡◌, ℕ, ◌≤◌, Bool, true, false, eqb, List, [], length, Option, Some, None, refl, sym, ap}
use Rattle.std.proofs.Common.{subst, ◌∙◌, inl, inr}
use Rattle.std.specs.Prelude.{◌||◌, ◌&&◌, unwrap_or}
use Rattle.std.proofs.lemmas.Bool.{eqb-true}
use Rattle.std.proofs.lemmas.List.{nil_from_length}
use Rattle.flow_codec.specs.declared.kind.TemplateKind.{TemplateKind}
use Rattle.flow_codec.specs.declared.templates.DomainTemplates.{DomainTemplates}
use Rattle.flow_codec.specs.declared.templates.TemplateRecord.{TemplateRecord}
use Rattle.flow_codec.specs.Layout.{Layout}
use Rattle.flow_codec.specs.Templates.{AllTemplates, no_definitions, definitions_of, is_empty, changed, with_domain}
use Rattle.flow_codec.specs.Templates.{applied, IsOnce, IsDomain, AreTemplatesInForce}
use Rattle.flow_codec.specs.Working.{put_back}
use Rattle.flow_codec.proofs.Steps.{by_bool}
use Rattle.flow_codec.proofs.Entries.{without, found, with_entry, once_insert, lookup-insert, lookup-remove}
use Rattle.flow_codec.proofs.Entries.{remove-absent, insert-insert, insert-present, remove-insert, length-remove}
use Rattle.flow_codec.proofs.Entries.{length-move, holds-found}

no_length : {A : Type 0} (xs : List A) → eqb (length xs) 0 ≡ true → xs ≡ []
no_length xs e = nil_from_length xs (eqb-true _ _ e)

both : (a b : Bool) → (a && b) ≡ true → (a ≡ true) × (b ≡ true)
both true b e = (refl, e)
both false b e = absurd cc

pub none_is : (here : DomainTemplates) → is_empty here ≡ true → here ≡ no_definitions
none_is here e =
    let t = both (eqb (length here.templates) 0) (eqb (length here.options) 0) e in
    rebuilt here.templates here.options (no_length here.templates t.0) (no_length here.options t.1)
  where
    rebuilt : (xs ys : List (ℕ × Layout)) → xs ≡ [] → ys ≡ []
        → (let made : DomainTemplates = record { templates = xs; options = ys } in made ≡ no_definitions)
    rebuilt xs ys a b = rw (a, b) refl

module _ (d : ℕ) (all : AllTemplates) (once : IsOnce all) where
  gone : found d (without d all) ≡ None
  gone = lookup-remove d all once

  twice : without d (without d all) ≡ without d all
  twice = remove-absent d (without d all) gone

  -- the definitions in force in a domain are those that were put back there
  pub put_found : (left : Bool) (here : DomainTemplates) → definitions_of d (put_back d left here all) ≡ here
  put_found left here = elim (by_bool (is_empty here)) [
    | inl w ↦ away left w
    | inr w ↦ there left w
  ]
    where
      away : (b : Bool) → is_empty here ≡ true → definitions_of d (put_back d b here all) ≡ here
      away true w = let none = none_is here w in rw (w, twice, gone) (sym none)
      away false w = let none = none_is here w in rw (w, gone) (sym none)

      there : (b : Bool) → is_empty here ≡ false → definitions_of d (put_back d b here all) ≡ here
      there true w = rw (w, lookup-insert d (without d all) here) refl
      there false w = rw (w, lookup-insert d all here) refl

  -- how many domains there are then
  pub put_length : (left : Bool) (here : DomainTemplates) → is_empty here ≡ false
      → length (put_back d left here all) ≡ length (with_entry all d here)
  put_length true here w = rw w (length-move d all here once)
  put_length false here w = rw w refl

  pub put_none : (left : Bool) (here : DomainTemplates) → is_empty here ≡ true
      → put_back d left here all ≡ without d all
  put_none true here w = rw w twice
  put_none false here w = rw w refl

  pub put_none_length : (left : Bool) (here : DomainTemplates) → is_empty here ≡ true
      → length (put_back d left here all) ≤ length all
  put_none_length left here w = rw (put_none left here w) (length-remove d all)

  -- a domain without definitions is taken out
  pub taken_out : (left : Bool) (here : DomainTemplates) (now new : AllTemplates) → is_empty here ≡ true → all ≡ now
      → new ≡ without d all → new ≡ put_back d left here now
  taken_out left here now new w same is = is ∙ sym (put_none left here w) ∙ ap (put_back d left here) same

  module _ (kind : TemplateKind) (change : TemplateRecord) where
    -- over a domain that has definitions
    over : (base : AllTemplates) (here : DomainTemplates) → is_empty here ≡ false
        → applied d kind change (with_domain d here base) ≡ with_domain d (changed kind change here) base
    over base here some =
        let there : with_domain d here base ≡ with_entry base d here = rw some refl in
        let is : definitions_of d (with_entry base d here) ≡ here = rw (lookup-insert d base here) refl in
        ap (applied d kind change) there
        ∙ ap (λ (h : DomainTemplates). with_domain d (changed kind change h) (with_entry base d here)) is
        ∙ replaced base here (changed kind change here)
      where
        replaced : (base : AllTemplates) (g h : DomainTemplates)
            → with_domain d h (with_entry base d g) ≡ with_domain d h base
        replaced base g h = elim (by_bool (is_empty h)) [
          | inl w ↦ rw w (remove-insert d base g)
          | inr w ↦ rw w (insert-insert d base g h)
        ]

    -- where there are none
    from_none : (here : DomainTemplates) → is_empty here ≡ true
        → applied d kind change (without d all) ≡ with_domain d (changed kind change here) (without d all)
    from_none here w =
        let is : definitions_of d (without d all) ≡ no_definitions = rw gone refl in
        ap (λ (h : DomainTemplates). with_domain d (changed kind change h) (without d all)) (is ∙ sym (none_is here w))

    -- One template record on what was put back is one on the domain's definitions, put back.
    pub applied_put_back : (left : Bool) (here : DomainTemplates)
        → applied d kind change (put_back d left here all) ≡ put_back d (left || is_empty here)
        (changed kind change here) all
    applied_put_back left here = elim (by_bool (is_empty here)) [
      | inl w ↦ ap (applied d kind change) (put_none left here w) ∙ from_none here w ∙ sym (at_end left w)
      | inr w ↦ stands left w
    ]
      where
        at_end : (b : Bool) → is_empty here ≡ true
            → put_back d (b || is_empty here) (changed kind change here) all ≡ with_domain d (changed kind change here)
            (without d all)
        at_end true w = refl
        at_end false w = rw w refl

        stands : (b : Bool) → is_empty here ≡ false
            → applied d kind change (put_back d b here all) ≡ put_back d (b || is_empty here)
            (changed kind change here) all
        stands true w = over (without d all) here w
        stands false w = over all here w ∙ sym (rw w refl)

-- A domain's definitions that are put back unchanged leave all as they were.
pub unchanged : (d : ℕ) (all : AllTemplates) → AreTemplatesInForce all → with_domain d (definitions_of d all) all ≡ all
unchanged d all h = by (found d all) refl
  where
    by : (o : Option DomainTemplates) → found d all ≡ o → with_domain d (unwrap_or o no_definitions) all ≡ all
    by None e = remove-absent d all e
    by (Some here) e =
        let holds = holds-found d IsDomain all here h.domains e in
        rw holds.some (insert-present d all here e)

-- Definitions that are in the place of a domain's for a while don't matter.
pub instead : (d : ℕ) (left : Bool) (here other : DomainTemplates) (all : AllTemplates)
    → put_back d left here (with_entry all d other) ≡ put_back d left here all
instead d true here other all = ap (λ (t : AllTemplates). with_domain d here t) (remove-insert d all other)
instead d false here other all = elim (by_bool (is_empty here)) [
  | inl w ↦ rw w (remove-insert d all other)
  | inr w ↦ rw w (insert-insert d all other here)
]

-- a domain's definitions that were taken out and are put back, changed or not
module _ (d : ℕ) (all : AllTemplates) (h : AreTemplatesInForce all) (out new : AllTemplates)
    (place : out ≡ with_entry all d no_definitions) where
  pub changed_back : (left : Bool) (here : DomainTemplates) → (IsOnce out → new ≡ put_back d left here out)
      → new ≡ put_back d left here all
  changed_back left here back =
      let once : IsOnce out = subst IsOnce (sym place) (once_insert d all no_definitions h.once) in
      back once ∙ ap (put_back d left here) place ∙ instead d left here no_definitions all

  pub same_back : (here : DomainTemplates) → here ≡ definitions_of d all
      → (IsOnce out → new ≡ put_back d false here out) → new ≡ all
  same_back here is back = changed_back false here back ∙ ap (λ (g : DomainTemplates). with_domain d g all) is
      ∙ unchanged d all h
