use Rattle.std.proofs.Common.{None}
use Rattle.std.proofs.lemmas.Result.{err_from_is_err_and}
use Rattle.flow_report.proofs.Joining.{goes_on, is_told, is_cut}
use Rattle.flow_report.proofs.Recording.{json_fields, next_json, no_json}
use Rattle.flow_report.proofs.output.HeldText.put_json_fields.Goals as goal

pub returns-in_err-put_json_field-clause-front : goal.returns-in_err-put_json_field-clause-front
returns-in_err-put_json_field-clause-front g c =
    let p = err_from_is_err_and c.from_residual.result c.from_residual.ensures.1 in
    let cut = rw c.split_field.ensures.value at c.in_err-put_json_field.ensures.front in
    let next = next_json c.args.specifiers.now c.loop-id.id-index (
      record { enterprise = None; number = 0 },
      0,
    ) c.loop-id.rest.now c.loop-id-test.true in
    rw (p.1, p.2) (
      cut.0,
      is_cut _ _ _ c.args.self.now.text.items _
          (json_fields c.args.specifiers.now c.args.octets.now) _ _ _ c.loop-id.invariant next cut.1,
    )

pub loop-id-preserved : goal.loop-id-preserved
loop-id-preserved g c =
    let told = rw c.split_field.ensures.value at c.in_ok-put_json_field.ensures.told in
    let next = next_json c.args.specifiers.now c.loop-id.id-index (
      record { enterprise = None; number = 0 },
      0,
    ) c.loop-id.rest.now c.loop-id-test.true in
    rw c.split_field.ensures.rest
    (goes_on _ _ _ c.args.self.now.text.items _ _
    (json_fields c.args.specifiers.now c.args.octets.now) _ _ _ c.loop-id.invariant next told)

pub returns-clause-told : goal.returns-clause-told
returns-clause-told g c =
    is_told _ _ c.args.self.now.text.items _
    (json_fields c.args.specifiers.now c.args.octets.now) _ c.loop-id.invariant
    (no_json c.args.specifiers.now c.loop-id.id-index c.loop-id.rest.now c.loop-id-test.false)
