use Rattle.std.proofs.Common.{ℕ, IfOk, subst}
use Rattle.flow_disk.specs.Disk.{AllImages}
use Rattle.flow_model.specs.State.{empty_state}
use Rattle.flow_model.specs.Standing.{StandsFor}
use Rattle.flow_archive.proofs.archive.Archive.create.Goals as goal

pub returns-clause-stands : goal.returns-clause-stands
returns-clause-stands g c h =
    let D = g.D.Disk in
    subst (λ (wide : ℕ). IfOk c.create_wide.result
    (λ a. AllImages (D.held a.disk) (λ image. StandsFor image (empty_state c.args.width wide c.args.limit))))
    c.widest.ensures.is (c.create_wide.ensures.stands h)
