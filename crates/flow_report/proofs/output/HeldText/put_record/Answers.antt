use Rattle.std.proofs.Common.{◌≡◌, ◌++◌, arith}
use Rattle.std.proofs.lemmas.Result.{err_from_is_err_and}
use Rattle.std.proofs.lemmas.Grind.{common_steps}
use Rattle.flow_codec.specs.Raw.{raw}
use Rattle.flow_report.specs.Lines.{record_line}
use Rattle.flow_report.proofs.Joining.{none_told, stops_after}
use Rattle.flow_report.proofs.output.HeldText.put_record.Goals as goal

pub returns-in_err-push_line-clause-front : goal.returns-in_err-push_line-clause-front
returns-in_err-push_line-clause-front g c =
    let p = err_from_is_err_and c.from_residual.result c.from_residual.ensures.1 in
    rw (p.1, p.2) (
      tt,
      none_told _ c.args.self.now.text.items (record_line (raw c.args.id c.args.definition.now c.args.octets.now)),
    )

pub returns-in_err-flush-clause-front : goal.returns-in_err-flush-clause-front
returns-in_err-flush-clause-front g c =
    let p = err_from_is_err_and c.from_residual-in_err-flush.result c.from_residual-in_err-flush.ensures.1 in
    let more : c.push_line.new.self.text.items
    ≡ c.args.self.now.text.items ++ record_line (raw c.args.id c.args.definition.now c.args.octets.now) =
    grind (arith, common_steps) in
    rw (p.1, p.2) (
      tt,
      stops_after _ _ c.args.self.now.text.items
          (record_line (raw c.args.id c.args.definition.now c.args.octets.now)) _ more c.in_err-flush.ensures.front,
    )
