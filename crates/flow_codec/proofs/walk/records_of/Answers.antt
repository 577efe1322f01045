use Rattle.std.proofs.Common.{◌≤◌, length, ap, refl, sym, ◌∙◌, arith}
use Rattle.std.proofs.lemmas.Result.{err_from_is_err_and}
use Rattle.flow_codec.specs.declared.plan.Plan.{Plan}
use Rattle.flow_codec.specs.Layout.{smallest}
use Rattle.flow_codec.proofs.RecordLoop.{none, starts, goes_on, ends, is_refused, is_done}
use Rattle.flow_codec.proofs.walk.records_of.Goals as goal

pub returns-then-smallest-eq0-clause-exact : goal.returns-then-smallest-eq0-clause-exact
returns-then-smallest-eq0-clause-exact g c =
    let same = ap (λ (p : Plan). p.smallest) c.plan.ensures in
    none g.S.RecordSink.holds g.S.RecordSink.refuses c.args.header.now c.args.sink.now c.args.end c.args.id
    c.args.definition.now c.args.octets.now (sym same ∙ c.if-smallest-eq0.true)

pub loop-rest-init : goal.loop-rest-init
loop-rest-init g c =
    let same = ap (λ (p : Plan). p.smallest) c.plan.ensures in (
      starts g.S.RecordSink.holds g.S.RecordSink.refuses c.args.header.now c.args.sink.now c.args.end c.args.id
          c.args.definition.now c.args.octets.now (omega (arith, same)) c.requires,
      refl,
    )

pub returns-in_err-whole-clause-exact : goal.returns-in_err-whole-clause-exact
returns-in_err-whole-clause-exact g c =
    let same = ap (λ (p : Plan). p.smallest) c.plan.ensures in
    let p = err_from_is_err_and c.from_residual.result c.from_residual.ensures.1 in
    let le : smallest c.args.definition.now ≤ length c.loop-rest.rest.now = omega (arith, same) in
    rw (p.1, p.2) (ends g.S.RecordSink.holds g.S.RecordSink.refuses c.args.header.now c.args.sink.now c.args.end
    c.args.id c.args.definition.now c.args.octets.now c.loop-rest.sink c.loop-rest.rest.now c.loop-rest.invariant.0
    le c.in_err-whole.field-0.0 c.in_err-whole.ensures.exact)

pub returns-in-Err-clause-exact : goal.returns-in-Err-clause-exact
returns-in-Err-clause-exact g c =
    let same = ap (λ (p : Plan). p.smallest) c.plan.ensures in
    let le : smallest c.args.definition.now ≤ length c.loop-rest.rest.now = omega (arith, same) in
    is_refused g.S.RecordSink.holds g.S.RecordSink.refuses c.args.header.now c.args.sink.now c.args.end c.args.id
    c.args.definition.now c.args.octets.now c.loop-rest.sink c.loop-rest.rest.now c.loop-rest.invariant.0 le
    c.in_ok-whole.whole.now c.in-Err.e c.in-Err.ensures.refused

pub loop-rest-preserved : goal.loop-rest-preserved
loop-rest-preserved g c =
    let same = ap (λ (p : Plan). p.smallest) c.plan.ensures in
    let le : smallest c.args.definition.now ≤ length c.loop-rest.rest.now = omega (arith, same) in
    let whole = c.in_ok-whole.ensures.whole in (
      goes_on g.S.RecordSink.holds g.S.RecordSink.refuses c.args.header.now c.args.sink.now c.args.end c.args.id
          c.args.definition.now c.args.octets.now c.loop-rest.sink c.loop-rest.rest.now c.loop-rest.invariant.0
          c.record.new.self le c.in_ok-whole.whole.now c.in_ok-whole.after.now c.in_ok-whole.ensures.exact whole.1
          whole.2 c.in_default.ensures.taken,
      c.record.ensures.kept ∙ c.loop-rest.invariant.1,
    )

pub returns-clause-exact : goal.returns-clause-exact
returns-clause-exact g c =
    let same = ap (λ (p : Plan). p.smallest) c.plan.ensures in
    is_done g.S.RecordSink.holds g.S.RecordSink.refuses c.args.header.now c.args.sink.now c.args.end c.args.id
    c.args.definition.now c.args.octets.now c.loop-rest.sink c.loop-rest.rest.now c.loop-rest.invariant.0
    (omega (arith, same))
