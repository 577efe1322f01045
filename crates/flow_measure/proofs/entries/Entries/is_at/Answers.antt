use Rattle.std.proofs.Common.{Some, sym, ap, ◌∙◌}
use Rattle.flow_measure.proofs.Keys.{equal_keys}
use Rattle.flow_measure.proofs.Places.{held}
use Rattle.flow_measure.proofs.entries.Entries.is_at.Goals as goal

pub returns-in-Some : goal.returns-in-Some
returns-in-Some c = λ same.
    let key = equal_keys c.in-Some.here c.args.key.now (sym c.eq.ensures ∙ same) in
    let at = sym c.get.ensures.value ∙ c.in-Some.is ∙ ap (λ k. Some (k, c.in-Some.field-0-1)) key in
    (held c.args.self.now c.args.place c.args.key.now c.in-Some.field-0-1 c.get.ensures.once at).0
