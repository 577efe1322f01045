use Rattle.std.proofs.Common.{◌-◌, ◌^◌}
use Rattle.flow_codec.specs.Stream.{progress}
use Rattle.flow_report.proofs.Losing.{HasLacked}
use Rattle.flow_report.proofs.Summing.{HasSummed}
use Rattle.flow_report.proofs.measuring.add_messages.Given as goal

abbrev pub invariant-messages : goal.invariant-messages
invariant-messages g l =
    let old = g.R.Read.remaining l.initial.input in
    let reader = progress l.reader (g.R.Read.remaining l.input) in
    record {
      sums : HasSummed l.initial.sums.totals.rows.width old reader l.templates l.sums.totals;
      lacks : HasLacked old reader.rest l.templates l.lacking.losses l.lacking.due.entries;
    }

abbrev pub decreases-messages : goal.decreases-messages
decreases-messages g l = 2 ^ 48 - l.reader.count
