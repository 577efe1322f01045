use Rattle.std.proofs.Common.{◌∙◌, subst, ap, ◌≡◌, List}
use Rattle.std.specs.Prelude.{IfOk}
use Rattle.flow_measure.specs.declared.rows.Row.{Row}
use Rattle.flow_measure.specs.Query.{totals_between}
use Rattle.flow_archive.proofs.Appending.{totals_same}
use Rattle.flow_archive.proofs.plain.PlainArchive.totals.Goals as goal

pub returns-clause-rows : goal.returns-clause-rows
returns-clause-rows c =
    let same = totals_same c.args.from c.args.to c.self.inside.messages.items c.self.inside.templates c.self.inside.rows
    c.self.invariant ∙ ap (totals_between c.args.from c.args.to) c.self.view_is in
    subst (λ (rows : List Row). IfOk c.in_span.result (λ r. r.items ≡ rows)) same c.in_span.ensures
