use Rattle.std.proofs.Common.{◌≡◌, ◌+◌, refl, sym, ◌∙◌, length, arith}
use Rattle.std.proofs.lemmas.Result.{err_from_is_err_and}
use Rattle.flow_codec.specs.Working.{current}
use Rattle.flow_codec.specs.Reading.{templates_at}
use Rattle.flow_codec.specs.Replaced.{one_if, replaces, replacing_at}
use Rattle.flow_codec.proofs.TemplateLoop.{goes_on, ends, is_done}
use Rattle.flow_codec.proofs.ReplacedLoop.{meets, is_total}
use Rattle.flow_codec.proofs.working.templates_of.Goals as goal
use Rattle.flow_codec.proofs.working.templates_of.Goals.{then-replaces, else-replaces}

pub returns-in_err-change-clause-exact : goal.returns-in_err-change-clause-exact
returns-in_err-change-clause-exact c =
    let p = err_from_is_err_and c.from_residual.result c.from_residual.ensures.1 in
    rw (p.1, p.2) (ends c.args.end c.args.domain c.args.kind
    (current c.args.domain c.args.before.now c.records.changed) c.records.rest.now
    (templates_at (length c.args.octets.now) c.args.end c.args.domain c.args.kind
    (current c.args.domain c.args.before.now c.args.changed.now) c.args.octets.now) c.records.invariant.1
    (sym c.is_ended.ensures ∙ c.records-test.true) c.in_err-change.field-0.0 c.in_err-change.ensures.exact)

pub records-preserved : goal.records-preserved
records-preserved c =
    let one_more : c.if-replaces.replaced ≡ c.records.replaced + one_if
    (replaces c.args.domain (current c.args.domain c.args.before.now c.records.changed) c.in_ok-change.change) =
    elim c.if-replaces.branch [
      | then-replaces w ↦ rw (w.replaced-is, ← c.replaces.ensures, w.if-replaces.true) refl
      | else-replaces w ↦ rw (w.replaced-is, ← c.replaces.ensures, w.if-replaces.false) (omega arith)
    ] in (
      c.in_ok-apply_in.ensures.changes,
      rw c.in_ok-apply_in.ensures.applied
          (goes_on c.args.end c.args.domain c.args.kind
          (current c.args.domain c.args.before.now c.records.changed) c.records.rest.now
          (templates_at (length c.args.octets.now) c.args.end c.args.domain c.args.kind
          (current c.args.domain c.args.before.now c.args.changed.now) c.args.octets.now) c.records.invariant.1
          (sym c.is_ended.ensures
          ∙ c.records-test.true) c.in_ok-change.change c.in_ok-change.after.now c.in_ok-change.ensures.exact
          c.in_ok-change.ensures.len),
      rw (c.in_ok-apply_in.ensures.applied, one_more)
          (meets c.args.end c.args.domain c.args.kind (length c.args.octets.now)
          (replacing_at (length c.args.octets.now) c.args.end c.args.domain c.args.kind
          (current c.args.domain c.args.before.now c.args.changed.now) c.args.octets.now) c.records.replaced
          (current c.args.domain c.args.before.now c.records.changed) c.records.rest.now c.records.invariant.2
          (sym c.is_ended.ensures
          ∙ c.records-test.true) c.in_ok-change.change c.in_ok-change.after.now c.in_ok-change.ensures.exact
          c.in_ok-change.ensures.len),
    )

pub returns-clause-replaced : goal.returns-clause-replaced
returns-clause-replaced c =
    is_total c.args.end c.args.domain c.args.kind (length c.args.octets.now)
    (replacing_at (length c.args.octets.now) c.args.end c.args.domain c.args.kind
    (current c.args.domain c.args.before.now c.args.changed.now) c.args.octets.now) c.records.replaced
    (current c.args.domain c.args.before.now c.records.changed) c.records.rest.now c.records.invariant.2
    (sym c.is_ended.ensures ∙ c.records-test.false)

pub returns-clause-exact : goal.returns-clause-exact
returns-clause-exact c =
    is_done c.args.end c.args.domain c.args.kind
    (current c.args.domain c.args.before.now c.records.changed) c.records.rest.now
    (templates_at (length c.args.octets.now) c.args.end c.args.domain c.args.kind
    (current c.args.domain c.args.before.now c.args.changed.now) c.args.octets.now) c.records.invariant.1
    (sym c.is_ended.ensures ∙ c.records-test.false)
