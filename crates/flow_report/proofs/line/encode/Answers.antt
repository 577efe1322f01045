use Rattle.std.proofs.Common.{◌∙◌, arith}
use Rattle.flow_report.proofs.Putting.{encoded}
use Rattle.flow_report.proofs.line.encode.Goals as goal

pub returns : goal.returns
returns c =
    let written = rw c.unwrap.ensures at c.encode_to_slice.ensures.written in
    written ∙ encoded c.args.octets.now (λ i. omega (arith, c.type_inv.octets i))
