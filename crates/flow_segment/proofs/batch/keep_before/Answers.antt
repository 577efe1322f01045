use Rattle.std.proofs.Common.{inl, inr}
use Rattle.flow_segment.proofs.Batches.{some_of}
use Rattle.flow_segment.proofs.batch.keep_before.Goals as goal
use Rattle.flow_segment.proofs.batch.keep_before.Goals.{else-is_none-via-then-is_none+else-may_define}
use Rattle.flow_segment.proofs.batch.keep_before.Goals.{else-is_none-via-else-is_none}

pub returns-else-is_none-clause-ready : goal.returns-else-is_none-clause-ready
returns-else-is_none-clause-ready c = elim c.else-is_none.branch [
  | else-is_none-via-then-is_none+else-may_define w ↦ inr (w.may_define.ensures w.if-may_define.false)
  | else-is_none-via-else-is_none w ↦ inl
      (some_of c.args.undo.now.templates c.is_none.result c.is_none.ensures w.if-is_none.false)
]
