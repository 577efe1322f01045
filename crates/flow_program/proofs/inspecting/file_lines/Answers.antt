use Rattle.std.proofs.Common.{◌∙◌, ap, append_assoc, codes, sym}
use Rattle.std.specs.Fmt.{decimal}
use Rattle.std.proofs.lemmas.Result.{IfOk-weaker}
use Rattle.flow_report.specs.Printed.{printed}
use Rattle.flow_program.specs.Printed.{told_lines}
use Rattle.flow_program.proofs.inspecting.file_lines.Goals as goal

pub returns : goal.returns
returns c =
    let refused = c.args.refused.now in
    IfOk-weaker c.told_lines.result _ _ (λ lines e. e ∙ ap told_lines (c.as_str.ensures.value ∙ c.in_ok-text.ensures.ok
    ∙ sym (append_assoc (printed refused.refusal) (codes " file ") (decimal refused.number)))) c.told_lines.ensures
