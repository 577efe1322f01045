use Rattle.std.proofs.Common.{◌∙◌, ap, subst, sym}
use Rattle.flow_manifest.specs.Slots.{reads_of}
use Rattle.flow_several.specs.Several.{IsNotSummedAlone, KeepsArchive}
use Rattle.flow_several.proofs.Faults.{asked_alone}
use Rattle.flow_several.proofs.summing.open_and_sum.Goals as goal

pub returns-in-Ok-clause-summed : goal.returns-in-Ok-clause-summed
returns-in-Ok-clause-summed g c = λ honest.
    c.sum_archive-summed.ensures.summed (c.in-Ok.ensures.honest ∙ honest) (reads_of (g.D.Disk.held c.args.disk))
    (c.in-Ok.ensures.read honest)

pub returns-in-Ok-clause-any_moment : goal.returns-in-Ok-clause-any_moment
returns-in-Ok-clause-any_moment g c =
    subst (λ d. KeepsArchive g.D.Disk c.args.disk d)
    (sym (c.into_disk.ensures ∙ c.sum_archive-summed.ensures.disk)) c.in-Ok.ensures.any_moment

pub returns-in-Err-clause-summed : goal.returns-in-Err-clause-summed
returns-in-Err-clause-summed g c = λ honest.
    subst (IsNotSummedAlone (reads_of (g.D.Disk.held c.args.disk))) (sym c.from.ensures) (c.in-Err.ensures.told honest)

pub returns-in-Ok-clause-opening : goal.returns-in-Ok-clause-opening
returns-in-Ok-clause-opening g c =
    asked_alone (g.D.Disk.faults c.args.disk) (g.D.Disk.faults c.in-Ok.archive.disk) (g.D.Disk.faults c.into_disk.result)
    c.sum_archive-summed.result c.in-Ok.ensures.cause.done
    (ap g.D.Disk.faults (c.into_disk.ensures ∙ c.sum_archive-summed.ensures.disk)) c.sum_archive-summed.ensures.opened
