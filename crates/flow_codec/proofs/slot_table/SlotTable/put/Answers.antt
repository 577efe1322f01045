use Rattle.std.proofs.Common.{◌≡◌, ◌++◌, ◌∷◌, [], ℕ, Some, None, cond, length, refl, sym, ap, ◌∙◌, arith}
use Rattle.std.specs.Prelude.{nat_eq}
use Rattle.std.specs.HashMap.{get}
use Rattle.flow_codec.proofs.SlotLaws.{within, replaced, pushed, standing-replaced, standing-pushed}
use Rattle.flow_codec.proofs.slot_table.SlotTable.put.Goals as goal

pub index_mut-requires : goal.index_mut-requires
index_mut-requires c =
    omega (
      arith,
      within c.args.id c.args.self.now.slots.items (get nat_eq c.args.self.now.places)
          (λ _. None) c.requires.slots c.in-Some.place (sym c.get.ensures.value ∙ sym c.copied.ensures ∙ c.in-Some.is),
    )

pub returns-in-Some-clause-slots : goal.returns-in-Some-clause-slots
returns-in-Some-clause-slots c =
    replaced c.args.id c.args.self.now.slots.items (get nat_eq c.args.self.now.places)
    (λ _. None) c.requires.slots c.in-Some.place c.args.definition (sym c.get.ensures.value ∙ sym c.copied.ensures
    ∙ c.in-Some.is)

pub returns-in-Some-clause-entries : goal.returns-in-Some-clause-entries
returns-in-Some-clause-entries c =
    standing-replaced c.args.id c.args.self.now.slots.items (get nat_eq c.args.self.now.places)
    (λ _. None) c.requires.slots c.in-Some.place c.args.definition (sym c.get.ensures.value ∙ sym c.copied.ensures
    ∙ c.in-Some.is)

pub returns-clause-slots : goal.returns-clause-slots
returns-clause-slots c =
    let none : get nat_eq c.args.self.now.places c.args.id ≡ None = sym c.get.ensures.value ∙ sym c.copied.ensures
    ∙ c.in_default.is in
    let items : c.push-pushed.new.self.items ≡ c.args.self.now.slots.items ++ Some (
      c.args.id,
      c.args.definition,
    ) ∷ [] = rw (c.push-pushed.ensures.items, c.unwrap-2.ensures) refl in
    let len : c.len-place.result ≡ length c.args.self.now.slots.items = omega (arith, c.len-place.ensures) in
    rw items (pushed c.args.id c.args.self.now.slots.items (get nat_eq c.args.self.now.places)
    (get nat_eq c.insert-placed.new.self) c.requires.slots c.args.definition none
    (λ q. (rw c.unwrap.ensures at c.insert-placed.ensures.updates).0 q
    ∙ ap (λ (n : ℕ). cond (nat_eq c.args.id q) (Some n) (get nat_eq c.args.self.now.places q)) len))

pub returns-clause-entries : goal.returns-clause-entries
returns-clause-entries c =
    let none : get nat_eq c.args.self.now.places c.args.id ≡ None = sym c.get.ensures.value ∙ sym c.copied.ensures
    ∙ c.in_default.is in
    let items : c.push-pushed.new.self.items ≡ c.args.self.now.slots.items ++ Some (
      c.args.id,
      c.args.definition,
    ) ∷ [] = rw (c.push-pushed.ensures.items, c.unwrap-2.ensures) refl in
    rw items (standing-pushed c.args.id c.args.self.now.slots.items (get nat_eq c.args.self.now.places)
    (λ _. None) c.requires.slots c.args.definition none)
