use Rattle.std.proofs.Common.{◌≡◌, drop}
use Rattle.flow_report.proofs.Joining.{IsTelling}
use Rattle.flow_records.proofs.Choosing.{held_text}
use Rattle.flow_records.proofs.message.tell_chosen.Given as goal

-- the lines of the records so far came
abbrev pub invariant-loop-record : goal.invariant-loop-record
invariant-loop-record g l = record {
  format : l.lines.line ≡ l.fn.lines.line;
  telling : IsTelling (g.W.Write.contents l.fn.output) l.fn.lines.held (g.W.Write.contents l.output) l.lines.held
      (held_text l.fn.lines.line l.records l.octets)
      (held_text l.fn.lines.line (drop l.record-index l.records) l.rest);
}
