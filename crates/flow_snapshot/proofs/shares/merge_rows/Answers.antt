use Rattle.flow_snapshot.proofs.Joining.{merged_none}
use Rattle.flow_snapshot.proofs.shares.merge_rows.Goals as goal

pub returns-then-is_empty-clause-given : goal.returns-then-is_empty-clause-given
returns-then-is_empty-clause-given c = λ wide.
    merged_none c.args.rows.now c.args.other wide (c.is_empty.ensures c.if-is_empty.true)
