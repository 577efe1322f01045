use Rattle.std.proofs.Common.{◌≡◌, true, false, arith}
use Rattle.flow_report.proofs.Fields.{put_tail}
use Rattle.flow_report.proofs.line.put_kind.Goals as goal

pub returns-then-options : goal.returns-then-options
returns-then-options c =
    let put = put_tail _ _ _ _ 25 _ c.put_whole.ensures.put c.put_whole.ensures.room (omega arith) in
    let chosen : c.args.options ≡ true = c.if-options.true in
    rw chosen put

pub returns-else-options : goal.returns-else-options
returns-else-options c =
    let put = put_tail _ _ _ _ 26 _ c.put_whole-else-options.ensures.put c.put_whole-else-options.ensures.room (omega arith) in
    let chosen : c.args.options ≡ false = c.if-options.false in
    rw chosen put
