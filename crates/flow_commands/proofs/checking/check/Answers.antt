use Rattle.flow_disk.proofs.Results.{passed_on}
use Rattle.flow_commands.specs.Archives.{of_opening}
use Rattle.flow_commands.specs.Opened.{KeepsFiles}
use Rattle.flow_commands.proofs.Unchanged.{opening_keeps}
use Rattle.flow_commands.proofs.checking.check.Goals as goal

pub returns-in_err-standing-clause-unchanged : goal.returns-in_err-standing-clause-unchanged
returns-in_err-standing-clause-unchanged g c =
    let D = g.D.Disk in
    let old = c.args.disk.now in
    let new = c.find_standing.new.disk in
    let e = (c.in_err-standing.field-0).0 in
    passed_on c.from_residual.result (of_opening e) (λ r. KeepsFiles D old new r) c.from_residual.ensures.1
    (opening_keeps D old new e c.in_err-standing.ensures.unchanged)
