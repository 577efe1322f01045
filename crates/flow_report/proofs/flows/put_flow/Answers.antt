use Rattle.std.proofs.Common.{append_assoc}
use Rattle.flow_report.specs.ArchiveLines.{flow_line}
use Rattle.flow_report.proofs.flows.put_flow.Goals as goal

pub returns-clause-text : goal.returns-clause-text
unfolding flow_line
returns-clause-text c =
    rw (
      c.put_last.ensures.text,
      c.put_value-2.ensures.text,
      c.put_protocol.ensures.text,
      c.put_value.ensures.text,
      c.put_time.ensures.text,
      c.put_opening.ensures.text,
    ) (simp append_assoc)
