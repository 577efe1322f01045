use Rattle.std.proofs.Common.{drop}
use Rattle.flow_report.proofs.Joining.{IsTelling}
use Rattle.flow_report.proofs.Holding.{records_text}
use Rattle.flow_report.proofs.output.HeldText.put_records.Given as goal

abbrev pub invariant-loop-record : goal.invariant-loop-record
invariant-loop-record g l =
    IsTelling (g.W.Write.contents l.initial.output) l.initial.self.text.items
    (g.W.Write.contents l.output) l.self.text.items (records_text l.records l.octets)
    (records_text (drop l.record-index l.records) l.rest)
