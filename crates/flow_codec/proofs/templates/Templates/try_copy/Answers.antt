use Rattle.std.proofs.Common.{◌≡◌, ℕ, [], ◌∷◌, refl, sym, ap, subst, ◌∙◌}
use Rattle.std.specs.List.{AllZip}
use Rattle.flow_codec.specs.declared.templates.DomainTemplates.{DomainTemplates}
use Rattle.flow_codec.specs.Templates.{AllTemplates, AreTemplatesInForce}
use Rattle.flow_codec.proofs.templates.Templates.try_copy.Goals as goal

-- entries that are equal one by one
equal : (xs ys : AllTemplates) → AllZip (λ p q. (q.0 ≡ p.0) × (q.1 ≡ p.1)) xs ys → ys ≡ xs
equal [] [] h = refl
equal [] (y ∷ ys) h = absurd h
equal (x ∷ xs) [] h = absurd h
equal (x ∷ xs) (y ∷ ys) h =
    let key : (y.0, y.1) ≡ (x.0, y.1) = ap (λ (k : ℕ). (k, y.1)) h.0.0 in
    let value : (x.0, y.1) ≡ (x.0, x.1) = ap (λ (d : DomainTemplates). (x.0, d)) h.0.1 in
    ap (λ (t : AllTemplates). y ∷ t) (equal xs ys h.1) ∙ ap (λ (e : ℕ × DomainTemplates). e ∷ xs) (key ∙ value)

pub returns : goal.returns
returns c = equal c.self.inside.domains.entries c.in_ok-clone.field-0.entries c.in_ok-clone.ensures.cases
    ∙ c.self.view_is

pub invariant_of-result : goal.invariant_of-result
invariant_of-result c = (
  subst AreTemplatesInForce
      (sym (equal c.self.inside.domains.entries c.in_ok-clone.field-0.entries c.in_ok-clone.ensures.cases))
      c.self.invariant.0,
  c.in_ok-clone-2.ensures.cases ∙ c.self.invariant.1,
)
