use Rattle.std.proofs.Common.{◌≡◌, Some, length, refl, sym, ap, ◌∙◌}
use Rattle.std.proofs.lemmas.Option.{slice_get_read}
use Rattle.flow_codec.proofs.SlotLaws.{stands}
use Rattle.flow_codec.proofs.slot_table.SlotTable.get.Goals as goal

pub returns-then-here-id : goal.returns-then-here-id
returns-then-here-id c =
    let way = c.in-Some-Some in
    let h = rw way.is at c.get.ensures.lookup in
    let slots = c.deref.result.now in
    let same : slots ≡ c.args.self.now.slots.items = c.deref.ensures.value in
    let entry = way.field-0-is ∙ ap (λ n. Some (n, way.definition)) c.if-here-id.true in
    let at = slice_get_read slots (length slots) _ way.field-0.now refl h.3.0 h.1 ∙ ap (λ e. Some e) entry in
    sym (stands c.args.id c.args.self.now.slots.items _ way.definition c.requires.once (rw same at at))
