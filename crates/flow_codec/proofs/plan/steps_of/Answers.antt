use Rattle.std.proofs.Common.{sym, ◌∙◌, arith, None}
use Rattle.flow_codec.specs.Plan.{steps_of}
use Rattle.flow_codec.proofs.PlanLoop.{skips, goes_on, is_done, is_other}
use Rattle.flow_codec.proofs.plan.steps_of.Goals.{in-Skip, in_default+in_ok-push_skip-in_default+in_ok-push-in_default}
use Rattle.flow_codec.proofs.plan.steps_of.Goals as goal

pub loop-id-preserved : goal.loop-id-preserved
loop-id-preserved c =
    elim c.match-step_of.branch [
      | in-Skip w ↦
          let h = skips c.args.fields.now c.loop-id.id-index _ c.loop-id.steps c.loop-id.skipped
          (steps_of c.args.fields.now) c.loop-id.invariant.0 c.loop-id-test.true w.in-Skip.count
          (sym c.step_of.ensures ∙ w.in-Skip.is) in (
            rw (w.steps-is, w.skipped-is, w.unwrap_or.ensures) h.0,
            rw (w.skipped-is, w.unwrap_or.ensures) (omega (arith, h.1, c.loop-id.invariant.1)),
          )
      | in_default+in_ok-push_skip-in_default+in_ok-push-in_default w ↦
          let h = goes_on c.args.fields.now c.loop-id.id-index _ c.loop-id.steps c.loop-id.skipped
          (steps_of c.args.fields.now) c.loop-id.invariant.0 c.loop-id-test.true c.step_of.result
          (sym c.step_of.ensures) (is_other c.step_of.result w.in_default.not-Skip) in (
            rw (
              w.steps-is,
              w.skipped-is,
              w.take.ensures.after,
              w.in_ok-push-in_default.ensures,
              w.in_ok-push_skip-in_default.ensures,
              w.take.ensures.value,
            ) h,
            rw (w.skipped-is, w.take.ensures.after) (omega arith),
          )
    ]

pub returns : goal.returns
returns c = c.in_ok-push_skip.ensures
    ∙ is_done c.args.fields.now c.loop-id.id-index (
      record { enterprise = None; number = 0 },
      0,
    ) c.loop-id.steps c.loop-id.skipped (steps_of c.args.fields.now) c.loop-id.invariant.0 c.loop-id-test.false
