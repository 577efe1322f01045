use Rattle.std.proofs.Common.{Vec, Global}
use Rattle.flow_measure.specs.declared.rows.Row.{Row}
use Rattle.flow_measure.specs.View.{view_of}
use Rattle.flow_snapshot.proofs.Totalling.{answered_within}
use Rattle.flow_snapshot.proofs.snapshot.Snapshot.totals.Goals as goal

pub returns-clause-answered : goal.returns-clause-answered
returns-clause-answered g c = λ honest h counts is all within view.
    answered_within h counts is all within (λ (rows : Vec Row Global). rows.items) c.args.from c.args.to _
    c.rows_between.result (c.rows_between.ensures.given honest (view_of h counts) view)
