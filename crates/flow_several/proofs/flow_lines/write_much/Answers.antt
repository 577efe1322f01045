use Rattle.std.proofs.Common.{[]}
use Rattle.flow_disk.proofs.Results.{passed_on}
use Rattle.flow_report.specs.declared.text_error.TextError.TheVariants as text
use Rattle.flow_report.specs.Telling.{TellsFront}
use Rattle.flow_report.proofs.Joining.{front_told}
use Rattle.flow_several.proofs.flow_lines.write_much.Goals as goal

pub returns-in_err-write_patiently-clause-cut : goal.returns-in_err-write_patiently-clause-cut
returns-in_err-write_patiently-clause-cut g c =
    let old = g.W.Write.contents c.args.output.now in
    let new = g.W.Write.contents c.write_patiently.new.output in
    let held = c.args.text.now.items in
    passed_on c.from_residual.result (text.Write (c.in_err-write_patiently.field-0).0) (λ _. TellsFront old held new [])
    c.from_residual.ensures.1
    (front_told old new held (rw c.as_slice.ensures.value at c.in_err-write_patiently.ensures.front))
