use Rattle.std.proofs.Common.{None, Some}
use Rattle.std.proofs.lemmas.Result.{IfErr-weaker, on_ok_weaker}
use Rattle.flow_program.proofs.OneByOne.{kept_as, nothing_known, written_as}
use Rattle.flow_program.proofs.inspecting.inspect_opened.Goals as goal

pub returns-in-Ok-clause-lines : goal.returns-in-Ok-clause-lines
returns-in-Ok-clause-lines g c =
    let had = g.H.File.Read.remaining c.in-Ok.file in
    let known = g.W.Write.contents in
    on_ok_weaker c.inspect_file.result (written_as c.args.format (Some c.args.number) had None (known c.args.output.now)
    (known c.inspect_file.new.output) (nothing_known had)) c.inspect_file.ensures.lines

pub returns-in-Ok-clause-kept : goal.returns-in-Ok-clause-kept
returns-in-Ok-clause-kept g c =
    let had = g.H.File.Read.remaining c.in-Ok.file in
    let known = g.W.Write.contents in
    IfErr-weaker c.inspect_file.result _ _ (λ e. kept_as c.args.format (Some c.args.number) had None
    (known c.args.output.now) (known c.inspect_file.new.output) e (nothing_known had)) c.inspect_file.ensures.kept
