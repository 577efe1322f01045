use Rattle.std.proofs.Common.{subst}
use Rattle.std.specs.Prelude.{IfOk}
use Rattle.flow_disk.specs.Disk.{AllImages}
use Rattle.flow_model.specs.State.{State}
use Rattle.flow_model.specs.Standing.{StandsFor}
use Rattle.flow_commands.proofs.FirstState.{by_choice, without_wide}
use Rattle.flow_commands.proofs.creating.create.Goals as goal

pub returns-in-None-clause-stands : goal.returns-in-None-clause-stands
returns-in-None-clause-stands g c = λ honest.
    subst (λ (s : State). IfOk c.create.result (λ a. AllImages (g.D.Disk.held a.disk) (λ image. StandsFor image s)))
    (without_wide c.args.plan.now c.width.result c.limit.result c.width.ensures.value c.limit.ensures.value
    c.in-None.ensures.value) (c.create.ensures.stands honest)

pub returns-in-Some-clause-stands : goal.returns-in-Some-clause-stands
returns-in-Some-clause-stands g c = λ honest.
    subst (λ (s : State). IfOk c.create_wide.result
    (λ a. AllImages (g.D.Disk.held a.disk) (λ image. StandsFor image s)))
    (by_choice c.args.plan.now c.width-in-Some.result c.in-Some.wide c.limit-in-Some.result
    c.width-in-Some.ensures.value c.limit-in-Some.ensures.value c.in-Some.ensures.value)
    (c.create_wide.ensures.stands honest)
