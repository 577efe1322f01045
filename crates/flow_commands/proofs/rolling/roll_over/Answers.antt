use Rattle.std.proofs.Common.{inl}
use Rattle.flow_commands.specs.Asking.{Writes, WritesOrNot}
use Rattle.flow_commands.specs.Rolling.{IsJobLine}
use Rattle.flow_commands.proofs.Endings.{if_refused, on_ended}
use Rattle.flow_commands.proofs.rolling.roll_over.Goals as goal

pub returns-clause-written : goal.returns-clause-written
returns-clause-written g c =
    let old = g.W.Write.contents c.args.output.now in
    let new = g.W.Write.contents c.roll_on.new.output in
    on_ended c.roll_on.result c.left.result (Writes (IsJobLine c.args.kind) old new) c.left.ensures
    c.roll_on.ensures.written

pub returns-clause-kept : goal.returns-clause-kept
returns-clause-kept g c =
    let old = g.W.Write.contents c.args.output.now in
    let new = g.W.Write.contents c.roll_on.new.output in
    if_refused c.roll_on.result c.left.result (λ e. WritesOrNot (IsJobLine c.args.kind) e old new) c.left.ensures
    c.roll_on.ensures.kept

pub returns-clause-told : goal.returns-clause-told
returns-clause-told g c = inl (c.new-disk.result, c.roll_on.result, c.roll_on.ensures.told, c.left.ensures)
