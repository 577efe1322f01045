use Rattle.std.proofs.Common.{length, refl, arith, List, ℕ, IfSome, subst}
use Rattle.flow_report.specs.Lines.{field_text}
use Rattle.flow_report.specs.Telling.{IsPut}
use Rattle.flow_report.proofs.Putting.{put_last_of, one_field}
use Rattle.flow_report.proofs.line.end_by_field.Goals as goal

pub returns : goal.returns
returns c =
    let end = length c.args.line.now in
    let put = subst (λ (t : List ℕ). IfSome c.put_fields.result (λ start. IsPut c.args.line.now end c.put_fields.new.line
    start t)) (one_field c.args.id c.args.octets.now (omega arith)) c.put_fields.ensures.put in
    put_last_of c.args.line.now c.put_fields.new.line end c.put_fields.result
    (field_text (record { id = c.args.id; octets = c.args.octets.now })) put refl (omega arith)
