use Rattle.std.proofs.Common.{◌-◌, ◌^◌}
use Rattle.flow_codec.specs.Stream.{progress}
use Rattle.flow_report.proofs.Printing.{IsDumping}
use Rattle.flow_report.proofs.dumping.dump_messages.Given as goal

abbrev pub invariant-messages : goal.invariant-messages
invariant-messages g l =
    IsDumping (g.R.Read.remaining l.initial.input) (g.W.Write.contents l.initial.output)
    (progress l.reader (g.R.Read.remaining l.input)) l.templates
    (g.W.Write.contents l.output) l.lines.text.items

abbrev pub decreases-messages : goal.decreases-messages
decreases-messages g l = 2 ^ 48 - l.reader.count
