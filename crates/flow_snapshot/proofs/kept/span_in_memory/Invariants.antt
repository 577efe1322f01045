use Rattle.std.proofs.Common.{take, Some}
use Rattle.flow_segment.specs.Spans.{AreNotedSoFar}
use Rattle.flow_snapshot.proofs.kept.span_in_memory.Given as goal

-- the starts of the messages so far were noted
abbrev pub invariant-loop-message : goal.invariant-loop-message
invariant-loop-message l = AreNotedSoFar l.prefix (take l.message-index l.messages) l.templates (Some l.span)
