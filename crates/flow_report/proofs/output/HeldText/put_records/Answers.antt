use Rattle.std.proofs.lemmas.Result.{err_from_is_err_and}
use Rattle.flow_report.proofs.Joining.{begins, goes_on, is_cut}
use Rattle.flow_report.proofs.Holding.{records_text, next_record}
use Rattle.flow_report.proofs.output.HeldText.put_records.Goals as goal

pub loop-record-init : goal.loop-record-init
loop-record-init g c = begins _ c.args.self.now.text.items _

pub returns-in_err-put_record-clause-front : goal.returns-in_err-put_record-clause-front
returns-in_err-put_record-clause-front g c =
    let p = err_from_is_err_and c.from_residual.result c.from_residual.ensures.1 in
    let cut = c.in_err-put_record.ensures.front in
    let next = next_record c.args.records.now c.loop-record.record-index c.record-item.result
    c.loop-record.rest.now c.split_at.result.0.now c.split_at.result.1.now c.loop-record-test.true c.record-item.is
    (rw c.min.ensures at c.split_at.ensures.front) (rw c.min.ensures at c.split_at.ensures.back) in
    rw (p.1, p.2) (
      cut.0,
      is_cut _ _ _ c.args.self.now.text.items _
          (records_text c.args.records.now c.args.octets.now) _ _ _ c.loop-record.invariant next
          cut.1,
    )

pub loop-record-preserved : goal.loop-record-preserved
loop-record-preserved g c =
    let next = next_record c.args.records.now c.loop-record.record-index c.record-item.result
    c.loop-record.rest.now c.split_at.result.0.now c.split_at.result.1.now c.loop-record-test.true c.record-item.is
    (rw c.min.ensures at c.split_at.ensures.front) (rw c.min.ensures at c.split_at.ensures.back) in
    goes_on _ _ _ c.args.self.now.text.items _ _
    (records_text c.args.records.now c.args.octets.now) _ _ _ c.loop-record.invariant next
    c.in_ok-put_record.ensures.told
