use Rattle.std.proofs.Common.{drop}
use Rattle.flow_report.proofs.Joining.{IsTelling}
use Rattle.flow_report.proofs.Recording.{json_fields}
use Rattle.flow_report.proofs.output.HeldText.put_json_fields.Given as goal

abbrev pub invariant-loop-id : goal.invariant-loop-id
invariant-loop-id g l =
    IsTelling (g.W.Write.contents l.initial.output) l.initial.self.text.items
    (g.W.Write.contents l.output) l.self.text.items (json_fields l.specifiers l.octets)
    (json_fields (drop l.id-index l.specifiers) l.rest)
