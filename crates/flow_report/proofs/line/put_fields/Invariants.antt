use Rattle.std.proofs.Common.{◌+◌, ◌*◌, ◌≤◌, length}
use Rattle.flow_report.proofs.Putting.{IsPutting}
use Rattle.flow_report.proofs.line.put_fields.Given as goal

abbrev pub invariant-fields : goal.invariant-fields
invariant-fields l = IsPutting l.initial.line l.at l.line l.start l.specifiers l.left l.octets l.rest
    × l.at + 128 * length l.left + 2 * length l.rest ≤ l.start + 128 * length l.specifiers + 2 * length l.octets

abbrev pub decreases-fields : goal.decreases-fields
decreases-fields l = length l.left
