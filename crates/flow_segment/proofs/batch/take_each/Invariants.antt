use Rattle.std.proofs.Common.{◌≡◌, take}
use Rattle.flow_gate.specs.Steps.{slices}
use Rattle.flow_segment.specs.Batch.{restored, AreTakenNoting}
use Rattle.flow_segment.proofs.batch.take_each.Given as goal

abbrev pub invariant-loop-message : goal.invariant-loop-message
invariant-loop-message l = record {
  taken : AreTakenNoting (slices (take l.message-index l.messages)) l.fn.carry l.carry l.fn.span l.span;
  kept : restored l.carry.templates l.undo ≡ l.fn.carry;
}
