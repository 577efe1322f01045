use Rattle.std.proofs.Common.{add-one, drop-cons}
use Rattle.flow_program.proofs.Checked.{one_octet}
use Rattle.flow_program.proofs.checks.numbered_lines.Goals as goal

pub loop-octet-preserved : goal.loop-octet-preserved
loop-octet-preserved c =
    let at = c.loop-octet in
    one_octet c.args.number at.begins c.args.text.now at.octet-index _ at.lines.items c.push_octet.new.text.items _
    (rw add-one (drop-cons c.args.text.now at.octet-index _ c.loop-octet-test.true)) c.in_ok-push_octet.ensures
    at.invariant
