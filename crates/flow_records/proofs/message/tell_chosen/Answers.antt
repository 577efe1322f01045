use Rattle.std.proofs.Common.{refl, subst, ◌∙◌}
use Rattle.flow_codec.specs.Raw.{raw}
use Rattle.flow_columns.specs.Lines.{line_text, Line}
use Rattle.flow_report.specs.Telling.{Tells, TellsFront}
use Rattle.flow_report.proofs.Joining.{begins, goes_on, is_cut, is_told}
use Rattle.flow_records.proofs.Choosing.{held_text, next_record, no_record}
use Rattle.flow_records.proofs.Telling.{on_err}
use Rattle.flow_records.proofs.message.tell_chosen.Goals as goal

pub loop-record-init : goal.loop-record-init
loop-record-init g c = record {
  format = refl;
  telling = begins (g.W.Write.contents c.args.output.now) c.args.lines.now.held
      (held_text c.args.lines.now.line c.args.records.now c.args.octets.now);
}

pub returns-in_err-put-clause-front : goal.returns-in_err-put-clause-front
returns-in_err-put-clause-front g c =
    let format = c.args.lines.now.line in
    let next = next_record format c.args.records.now c.loop-record.record-index c.record-item.result
    c.loop-record.rest.now c.split_at.result.0.now c.split_at.result.1.now c.loop-record-test.true c.record-item.is
    (rw c.min.ensures at c.split_at.ensures.front) (rw c.min.ensures at c.split_at.ensures.back) in
    let r = c.record-item.result in
    let front = subst (λ (f : Line). TellsFront (g.W.Write.contents c.loop-record.output) c.loop-record.lines.held
    (g.W.Write.contents c.put.new.output)
    (line_text f (r.start, (r.header, raw r.id r.definition c.split_at.result.0.now))))
    c.loop-record.invariant.format c.in_err-put.ensures.front in
    on_err c.from_residual.result _ _ c.from_residual.ensures.1
    (is_cut _ _ _ c.args.lines.now.held _ (held_text format c.args.records.now c.args.octets.now) _ _ _
    c.loop-record.invariant.telling next front)

pub loop-record-preserved : goal.loop-record-preserved
loop-record-preserved g c =
    let format = c.args.lines.now.line in
    let next = next_record format c.args.records.now c.loop-record.record-index c.record-item.result
    c.loop-record.rest.now c.split_at.result.0.now c.split_at.result.1.now c.loop-record-test.true c.record-item.is
    (rw c.min.ensures at c.split_at.ensures.front) (rw c.min.ensures at c.split_at.ensures.back) in
    let r = c.record-item.result in
    let told = subst (λ (f : Line). Tells (g.W.Write.contents c.loop-record.output) c.loop-record.lines.held
    (g.W.Write.contents c.put.new.output) c.put.new.self.held
    (line_text f (r.start, (r.header, raw r.id r.definition c.split_at.result.0.now))))
    c.loop-record.invariant.format c.in_ok-put.ensures.told in
    record {
      format = c.put.ensures.line ∙ c.loop-record.invariant.format;
      telling = goes_on _ _ _ c.args.lines.now.held _ _ (held_text format c.args.records.now c.args.octets.now) _ _ _
          c.loop-record.invariant.telling next told;
    }

pub returns-clause-told : goal.returns-clause-told
returns-clause-told g c =
    is_told _ _ c.args.lines.now.held _
    (held_text c.args.lines.now.line c.args.records.now c.args.octets.now) _ c.loop-record.invariant.telling
    (no_record c.args.lines.now.line c.args.records.now c.loop-record.record-index c.loop-record.rest.now
    c.loop-record-test.false)
