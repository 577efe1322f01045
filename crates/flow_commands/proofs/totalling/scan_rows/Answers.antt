use Rattle.flow_commands.proofs.Spans.{read_by_one}
use Rattle.flow_commands.proofs.totalling.scan_rows.Goals as goal

pub returns-clause-found : goal.returns-clause-found
returns-clause-found g c honest =
    read_by_one (λ rows. rows.items) c.args.snapshot.now.shelf c.args.span.now _ _ c.from-from.ensures c.to-to.ensures c.totals.result
    (c.totals.ensures.found honest)
