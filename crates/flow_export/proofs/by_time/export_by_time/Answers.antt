use Rattle.std.proofs.Common.{◌∙◌, ap, subst, sym}
use Rattle.flow_manifest.specs.Slots.{reads_of}
use Rattle.flow_export.specs.Asked.{KeepsArchive}
use Rattle.flow_export.specs.ByTime.{IsUnexportedByTime}
use Rattle.flow_export.proofs.AskedFor.{asked_alone}
use Rattle.flow_export.proofs.ByTime.{unopened_by_time}
use Rattle.flow_export.proofs.by_time.export_by_time.Goals as goal

pub returns-in-Ok-clause-exact : goal.returns-in-Ok-clause-exact
returns-in-Ok-clause-exact g c = λ honest.
    c.ask_by_time-asked.ensures.exact (c.in-Ok.ensures.honest ∙ honest) (reads_of (g.D.Disk.held c.args.disk))
    (c.in-Ok.ensures.read honest)

pub returns-in-Ok-clause-refused : goal.returns-in-Ok-clause-refused
returns-in-Ok-clause-refused g c = λ honest.
    c.ask_by_time-asked.ensures.refused (c.in-Ok.ensures.honest ∙ honest) (reads_of (g.D.Disk.held c.args.disk))
    (c.in-Ok.ensures.read honest)

pub returns-in-Ok-clause-any_moment : goal.returns-in-Ok-clause-any_moment
returns-in-Ok-clause-any_moment g c =
    subst (λ d. KeepsArchive g.D.Disk c.args.disk d)
    (sym (c.into_disk.ensures ∙ c.ask_by_time-asked.ensures.disk)) c.in-Ok.ensures.any_moment

pub returns-in-Ok-clause-opening : goal.returns-in-Ok-clause-opening
returns-in-Ok-clause-opening g c =
    asked_alone (g.D.Disk.faults c.args.disk) (g.D.Disk.faults c.in-Ok.archive.disk)
    (g.D.Disk.faults c.into_disk.result) c.ask_by_time-asked.result c.in-Ok.ensures.cause.done
    (ap g.D.Disk.faults (c.into_disk.ensures ∙ c.ask_by_time-asked.ensures.disk)) c.ask_by_time-asked.ensures.asking

pub returns-in-Err-clause-refused : goal.returns-in-Err-clause-refused
returns-in-Err-clause-refused g c = λ honest.
    let output = g.W.Write.contents c.args.output.now in
    let reads = reads_of (g.D.Disk.held c.args.disk) in
    subst (λ e. IsUnexportedByTime reads c.args.span output output e) (sym c.from.ensures)
    (unopened_by_time reads output c.in-Err.refused.error (c.in-Err.ensures.told honest) c.args.span)
