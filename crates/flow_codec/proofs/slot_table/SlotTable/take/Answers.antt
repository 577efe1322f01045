use Rattle.std.proofs.Common.{None, sym, ◌∙◌, arith}
use Rattle.std.specs.Prelude.{nat_eq}
use Rattle.std.specs.HashMap.{get}
use Rattle.flow_codec.proofs.SlotLaws.{within, taken, standing-taken, standing-kept}
use Rattle.flow_codec.proofs.slot_table.SlotTable.take.Goals as goal

pub index_mut-requires : goal.index_mut-requires
index_mut-requires c =
    omega (
      arith,
      within c.args.id c.args.self.now.slots.items (get nat_eq c.args.self.now.places)
          (λ _. None) c.requires c.in-Some.place (sym c.remove.ensures.value ∙ c.in-Some.is),
    )

pub returns-in-Some-clause-slots : goal.returns-in-Some-clause-slots
returns-in-Some-clause-slots c =
    taken c.args.id c.args.self.now.slots.items (get nat_eq c.args.self.now.places)
    (get nat_eq c.remove.new.self) c.requires c.in-Some.place (sym c.remove.ensures.value
    ∙ c.in-Some.is) c.remove.ensures.updates.0

pub returns-in-Some-clause-entries : goal.returns-in-Some-clause-entries
returns-in-Some-clause-entries c =
    standing-taken c.args.id c.args.self.now.slots.items (get nat_eq c.args.self.now.places)
    (λ _. None) c.requires c.in-Some.place (sym c.remove.ensures.value ∙ c.in-Some.is)

pub returns-in_default-clause-entries : goal.returns-in_default-clause-entries
returns-in_default-clause-entries c =
    standing-kept c.args.id c.args.self.now.slots.items (get nat_eq c.args.self.now.places) (λ _. None) c.requires
    (sym c.remove.ensures.value ∙ c.in_default.is)
