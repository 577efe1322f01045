use Rattle.std.proofs.Common.{take}
use Rattle.flow_segment.specs.Batch.{AreTaken}
use Rattle.flow_export.proofs.passing.take_all.Given as goal

-- the messages so far were taken in
abbrev pub invariant-loop-message : goal.invariant-loop-message
invariant-loop-message l = record { found : AreTaken (take l.message-index l.messages) l.fn.carry l.carry }
