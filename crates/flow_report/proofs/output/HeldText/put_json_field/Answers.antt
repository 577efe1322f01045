use Rattle.std.proofs.lemmas.Result.{err_from_is_err_and}
use Rattle.flow_report.specs.Records.{json_field}
use Rattle.flow_report.proofs.Joining.{none_told, stops_after}
use Rattle.flow_report.proofs.output.HeldText.put_json_field.Goals as goal

pub returns-in_err-push_json_field-clause-front : goal.returns-in_err-push_json_field-clause-front
returns-in_err-push_json_field-clause-front g c =
    let p = err_from_is_err_and c.from_residual.result c.from_residual.ensures.1 in
    rw (p.1, p.2) (
      tt,
      none_told _ c.args.self.now.text.items
          (json_field (record { id = c.args.id; octets = c.args.octets.now })),
    )

pub returns-in_err-flush-clause-front : goal.returns-in_err-flush-clause-front
returns-in_err-flush-clause-front g c =
    let p = err_from_is_err_and c.from_residual-in_err-flush.result c.from_residual-in_err-flush.ensures.1 in
    rw (p.1, p.2) (
      tt,
      stops_after _ _ c.args.self.now.text.items
          (json_field (record { id = c.args.id; octets = c.args.octets.now })) _ c.in_ok-push_json_field.ensures
          c.in_err-flush.ensures.front,
    )
