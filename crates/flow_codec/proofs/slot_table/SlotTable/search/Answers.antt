use Rattle.std.proofs.Common.{None, sym, ◌∙◌, arith}
use Rattle.std.specs.Prelude.{nat_eq}
use Rattle.std.specs.HashMap.{get}
use Rattle.flow_codec.specs.Slots.{entries_of}
use Rattle.flow_codec.proofs.SlotLaws.{within, seen-value, seen-empty, missing, none_found}
use Rattle.flow_codec.proofs.slot_table.SlotTable.search.Goals as goal

pub returns-then-is_empty : goal.returns-then-is_empty
returns-then-is_empty c =
    none_found c.args.id (entries_of c.args.self.now) (sym c.if-is_empty.true ∙ c.is_empty.ensures)

pub returns-in_err-place : goal.returns-in_err-place
returns-in_err-place c =
    rw c.from_residual.ensures
    (sym (missing c.args.id c.args.self.now.slots.items (get nat_eq c.args.self.now.places) (λ _. None) c.requires
    (sym c.in_err-place.ensures.value)))

pub index-requires : goal.index-requires
index-requires c = omega (
  arith,
  within c.args.id c.args.self.now.slots.items (get nat_eq c.args.self.now.places)
      (λ _. None) c.requires c.in_ok-place.field-0.now (sym c.in_ok-place.ensures.value),
)

pub returns-in-Some : goal.returns-in-Some
returns-in-Some c =
    sym (seen-value c.args.id c.args.self.now.slots.items (get nat_eq c.args.self.now.places)
    (λ _. None) c.requires c.in_ok-place.field-0.now
    (sym c.in_ok-place.ensures.value) c.index.result.now c.in-Some.field-0-0 c.in-Some.definition c.index.ensures
    c.in-Some.is)

pub returns-in-None : goal.returns-in-None
returns-in-None c =
    absurd (seen-empty c.args.id c.args.self.now.slots.items (get nat_eq c.args.self.now.places)
    (λ _. None) c.requires c.in_ok-place.field-0.now
    (sym c.in_ok-place.ensures.value) c.index.result.now c.index.ensures c.in-None.is)
