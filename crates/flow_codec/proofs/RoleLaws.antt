-- The role that a field counts in is that of its element.
use Rattle.std.proofs.Common.{◌≡◌, ℕ, Bool, false, inl, inr, eqb, Option, Some, None, refl, sym, subst}
use Rattle.std.specs.Prelude.{◌&&◌}
use Rattle.std.proofs.lemmas.Bool.{eqb-true}
use Rattle.flow_elements.specs.declared.element.ElementId.{ElementId}
use Rattle.flow_codec.specs.declared.plan.Role.{Role}
use Rattle.flow_codec.specs.declared.plan.Role.TheVariants.{Octets, Packets, Protocol, Seconds, Milliseconds}
use Rattle.flow_codec.specs.Plan.{element_of, role_of, is_counted, counts_as}
use Rattle.flow_codec.proofs.Steps.{by_bool}

pub every : (P : Role → Type 0) → P Octets → P Packets → P Protocol → P Seconds → P Milliseconds → (r : Role) → P r
every P a b c d e Octets = a
every P a b c d e Packets = b
every P a b c d e Protocol = c
every P a b c d e Seconds = d
every P a b c d e Milliseconds = e

-- whether a field of an element of this role, or of none, counts in another
abbrev pub counts_in : Role → Option Role → ℕ → Bool
counts_in role None len = false
counts_in role (Some r) len = eqb (element_of r) (element_of role) && is_counted r len

module _ (role : Role) (len : ℕ) where
  Agree : Role → Role → Type 0
  Agree r s = (eqb (element_of r) (element_of s) && is_counted s len)
      ≡ (eqb (element_of r) (element_of s) && is_counted r len)

  agree : (r s : Role) → Agree r s
  unfolding Agree
  agree Octets s = every (Agree Octets) refl refl refl refl refl s
  agree Packets s = every (Agree Packets) refl refl refl refl refl s
  agree Protocol s = every (Agree Protocol) refl refl refl refl refl s
  agree Seconds s = every (Agree Seconds) refl refl refl refl refl s
  agree Milliseconds s = every (Agree Milliseconds) refl refl refl refl refl s

  IsAt : ℕ → Type 0
  IsAt n = (eqb n (element_of role) && is_counted role len)
      ≡ counts_in role (role_of (record { enterprise = None; number = n })) len

  numbered : (n : ℕ) → IsAt n
  unfolding IsAt Agree
  numbered n = elim (by_bool (eqb n 1)) [
    | inl w ↦ subst IsAt (sym (eqb-true n 1 w)) (agree Octets role)
    | inr a ↦ elim (by_bool (eqb n 2)) [
      | inl w ↦ subst IsAt (sym (eqb-true n 2 w)) (agree Packets role)
      | inr b ↦ elim (by_bool (eqb n 4)) [
        | inl w ↦ subst IsAt (sym (eqb-true n 4 w)) (agree Protocol role)
        | inr c ↦ elim (by_bool (eqb n 150)) [
          | inl w ↦ subst IsAt (sym (eqb-true n 150 w)) (agree Seconds role)
          | inr d ↦ elim (by_bool (eqb n 152)) [
            | inl w ↦ subst IsAt (sym (eqb-true n 152 w)) (agree Milliseconds role)
            | inr e ↦
                let other : eqb n (element_of role) ≡ false =
                every (λ r. eqb n (element_of r) ≡ false) a b c d e role in
                rw (other, a, b, c, d, e) refl
          ]
        ]
      ]
    ]
  ]

  by_element : (enterprise : Option ℕ) (n : ℕ)
      → counts_as role (record { enterprise = enterprise; number = n }, len)
      ≡ counts_in role (role_of (record { enterprise = enterprise; number = n })) len
  unfolding IsAt
  by_element None n = numbered n
  by_element (Some x) n = refl

  pub counts_is : (id : ElementId) → counts_as role (id, len) ≡ counts_in role (role_of id) len
  counts_is id = by_element id.enterprise id.number
