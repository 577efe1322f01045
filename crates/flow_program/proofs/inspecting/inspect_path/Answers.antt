use Rattle.std.proofs.Common.{◌∙◌, None, Some, sym}
use Rattle.std.proofs.lemmas.Result.{IfErr-weaker, on_ok_weaker}
use Rattle.flow_program.specs.Inspecting.{known_at}
use Rattle.flow_program.proofs.OneByOne.{kept_as, known_here, known_nowhere, written_as}
use Rattle.flow_program.proofs.inspecting.inspect_path.Goals as goal

pub returns-then-is_input-clause-kept : goal.returns-then-is_input-clause-kept
returns-then-is_input-clause-kept g c =
    let input = g.R.Read.remaining c.args.input.now in
    let path = c.args.path.now in
    let known = g.W.Write.contents in
    IfErr-weaker c.inspect_file.result _ _ (λ e. kept_as c.args.format (Some c.args.number) input (known_at input path)
    (known c.args.output.now) (known c.inspect_file.new.output) e
    (known_here input path (sym c.is_input.ensures ∙ c.if-is_input.true))) c.inspect_file.ensures.kept

pub returns-else-is_input-clause-lines : goal.returns-else-is_input-clause-lines
returns-else-is_input-clause-lines g c =
    let input = g.R.Read.remaining c.args.input.now in
    let path = c.args.path.now in
    let known = g.W.Write.contents in
    on_ok_weaker c.inspect_opened.result (written_as c.args.format (Some c.args.number) None (known_at input path)
    (known c.args.output.now) (known c.inspect_opened.new.output)
    (known_nowhere input path (sym c.is_input.ensures ∙ c.if-is_input.false))) c.inspect_opened.ensures.lines

pub returns-else-is_input-clause-kept : goal.returns-else-is_input-clause-kept
returns-else-is_input-clause-kept g c =
    let input = g.R.Read.remaining c.args.input.now in
    let path = c.args.path.now in
    let known = g.W.Write.contents in
    IfErr-weaker c.inspect_opened.result _ _ (λ e. kept_as c.args.format (Some c.args.number) None (known_at input path)
    (known c.args.output.now) (known c.inspect_opened.new.output) e
    (known_nowhere input path (sym c.is_input.ensures ∙ c.if-is_input.false))) c.inspect_opened.ensures.kept
