-- A definition that is in force, defined once more, changes nothing.
use Rattle.std.proofs.Common.{◌≡◌, ℕ, Bool, true, false, List, Option, Some, None, refl, sym, ap, ◌∙◌}
use Rattle.std.specs.Prelude.{◌&&◌, nat_eq, ◌↔◌, IsTrue}
use Rattle.std.specs.Bool.{beq}
use Rattle.std.specs.Cmp.{booleans_Decides}
use Rattle.std.specs.Bool.{Decides}
use Rattle.std.specs.Option.{option_eq}
use Rattle.std.specs.Cmp.Lexicographic.{pointwise}
use Rattle.std.proofs.lemmas.Bool.Decides.{Decides-eqb}
use Rattle.std.proofs.lemmas.Slice.Eq.{slice_eq-Decides}
use Rattle.flow_elements.specs.declared.element.ElementId.{ElementId}
use Rattle.flow_codec.specs.Layout.{Layout}
use Rattle.flow_codec.specs.Replaced.{same_field, same_layout as same}

-- ---- equal definitions

both : {P Q : Type 0} (a b : Bool) → Decides a P → Decides b Q → Decides (a && b) (P × Q)
both true true p q = ((λ e. (p.0 refl, q.0 refl)), λ h. refl)
both true false p q = ((λ e. absurd (cc e)), λ h. absurd (cc (q.1 h.1)))
both false b p q = ((λ e. absurd (cc e)), λ h. absurd (cc (p.1 h.0)))

same_enterprise : (a b : Option ℕ) → Decides (option_eq nat_eq a b) (a ≡ b)
same_enterprise None None = ((λ e. refl), λ e. refl)
same_enterprise None (Some b) = ((λ e. absurd (cc e)), λ e. absurd (cc e))
same_enterprise (Some a) None = ((λ e. absurd (cc e)), λ e. absurd (cc e))
same_enterprise (Some a) (Some b) = let d = Decides-eqb a b in ((λ e. ap Some (d.0 e)), λ e. d.1 (cc e))

same_element : (a b : ElementId) → a.enterprise ≡ b.enterprise → a.number ≡ b.number → a ≡ b
same_element a b enterprise number =
    ap (λ (e : Option ℕ). record { enterprise = e; number = a.number }) enterprise
    ∙ ap (λ (n : ℕ). record { enterprise = b.enterprise; number = n }) number

field_decides : (a b : ElementId × ℕ) → Decides (same_field a b) (a ≡ b)
field_decides a b =
    let d = both _ _ (both _ _ (same_enterprise a.0.enterprise b.0.enterprise) (Decides-eqb a.0.number b.0.number))
    (Decides-eqb a.1 b.1) in (
      (λ e. let h = d.0 e in ap (λ (x : ElementId). (x, a.1)) (same_element a.0 b.0 h.0.0 h.0.1)
          ∙ ap (λ (n : ℕ). (b.0, n)) h.1),
      λ e. d.1 (
        (ap (λ (x : ElementId × ℕ). x.0.enterprise) e, ap (λ (x : ElementId × ℕ). x.0.number) e),
        ap (λ (x : ElementId × ℕ). x.1) e,
      ),
    )

pub same_fields : (ones others : List (ElementId × ℕ)) (r : Bool) → r ≡ pointwise same_field ones others
    → Decides r (ones ≡ others)
same_fields = slice_eq-Decides field_decides

pub same_layout : (one other : Layout) (r : Bool) → one.options ≡ other.options → one.scope ≡ other.scope
    → r ≡ pointwise same_field one.fields other.fields → IsTrue r ↔ (one ≡ other)
same_layout one other r options scope is =
    let d = same_fields one.fields other.fields r is in (
      (λ e. ap (λ (o : Bool). record { options = o; scope = one.scope; fields = one.fields }) options
          ∙ ap (λ (n : ℕ). record { options = other.options; scope = n; fields = one.fields }) scope
          ∙ ap (λ (fs : List (ElementId × ℕ)). record { options = other.options; scope = other.scope; fields = fs })
          (d.0 e)),
      λ e. d.1 (ap (λ (x : Layout). x.fields) e),
    )

-- what tells whether two definitions are the same is a Boolean
same_decides : (one other : Layout) → Decides (same one other) (one ≡ other)
same_decides one other =
    let d = both _ _ (both _ _ (booleans_Decides one.options other.options) (Decides-eqb one.scope other.scope))
    (same_fields one.fields other.fields (pointwise same_field one.fields other.fields) refl) in (
      (λ e. let h = d.0 e in ap (λ (o : Bool). record { options = o; scope = one.scope; fields = one.fields }) h.0.0
          ∙ ap (λ (n : ℕ). record { options = other.options; scope = n; fields = one.fields }) h.0.1
          ∙ ap (λ (fs : List (ElementId × ℕ)). record { options = other.options; scope = other.scope; fields = fs })
          h.1),
      λ e. d.1 (
        (ap (λ (x : Layout). x.options) e, ap (λ (x : Layout). x.scope) e),
        ap (λ (x : Layout). x.fields) e,
      ),
    )

one_answer : {P : Type 0} (a b : Bool) → IsTrue a ↔ P → Decides b P → a ≡ b
one_answer true true p q = refl
one_answer true false p q = sym (q.1 (p.0 refl))
one_answer false true p q = p.1 (q.0 refl)
one_answer false false p q = refl

pub same_is : (one other : Layout) (r : Bool) → IsTrue r ↔ (one ≡ other) → r ≡ same one other
same_is one other r is = one_answer r (same one other) is (same_decides one other)
