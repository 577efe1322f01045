use Rattle.std.proofs.Common.{subst, sym}
use Rattle.flow_measure.specs.History.{flows_in}
use Rattle.flow_measure.specs.Sums.{AllFit}
use Rattle.flow_segment.specs.PartFlows.{with_flows}
use Rattle.flow_snapshot.specs.Totals.{IsTotalsRefusal}
use Rattle.flow_snapshot.proofs.Adding.{part_spent}
use Rattle.flow_snapshot.proofs.summing.add_part.Goals as goal

pub returns-in-Err-clause-given : goal.returns-in-Err-clause-given
returns-in-Err-clause-given g c = λ h messages are.
    subst (IsTotalsRefusal c.args.first (AllFit (with_flows (flows_in messages) c.args.rows.now)))
    (sym c.told_of_file.ensures)
    (part_spent c.args.first c.args.templates.now c.add_flows.new.templates c.replace.result c.args.rows.now
    c.add_flows.new.adding.rows messages c.in-Err.refusal c.replace.ensures.value
    (c.in-Err.ensures.given h messages are))
