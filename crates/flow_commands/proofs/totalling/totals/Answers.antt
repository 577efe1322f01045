use Rattle.std.proofs.Common.{◌∙◌, subst, sym}
use Rattle.flow_commands.proofs.HandedOn.{handed_on, keeps}
use Rattle.std.specs.Prelude.{IsTrue}
use Rattle.flow_manifest.specs.Slots.{reads_of}
use Rattle.flow_snapshot.specs.Totals.{SumsFit}
use Rattle.flow_commands.specs.Asking.{TellsNoLines, totals_lines}
use Rattle.flow_commands.specs.declared.archive_refusal.ArchiveRefusal.{ArchiveRefusal}
use Rattle.flow_commands.specs.Opened.{KeepsFiles}
use Rattle.flow_commands.proofs.Unchanged.{asked_keeps, opening_keeps}
use Rattle.flow_commands.proofs.totalling.totals.Goals as goal

pub returns-in-Ok-total-clause-any_moment : goal.returns-in-Ok-total-clause-any_moment
returns-in-Ok-total-clause-any_moment g c =
    keeps g.D.Disk c.args.disk c.in-Ok.archive.disk c.total.new.archive.disk c.total.ensures.asked.disk
    c.in-Ok.ensures.any_moment

pub returns-in-Err-total-clause-any_moment : goal.returns-in-Err-total-clause-any_moment
returns-in-Err-total-clause-any_moment g c =
    keeps g.D.Disk c.args.disk c.in-Ok.archive.disk c.into_disk.result
    (c.into_disk.ensures ∙ c.total.ensures.asked.disk) c.in-Ok.ensures.any_moment

pub returns-in-Ok-total-clause-handed : goal.returns-in-Ok-total-clause-handed
returns-in-Ok-total-clause-handed g c =
    handed_on g.D.Disk c.args.disk c.in-Ok.archive c.total.new.archive c.in-Ok.ensures.opened.0
    c.in-Ok.ensures.opened.1 c.in-Ok.ensures.read c.in-Ok.ensures.stands c.total.ensures.asked

pub returns-in-Err-total-clause-unchanged : goal.returns-in-Err-total-clause-unchanged
returns-in-Err-total-clause-unchanged g c =
    let D = g.D.Disk in
    let reads = reads_of (D.held c.args.disk) in
    let old = g.W.Write.contents c.args.output.now in
    let new = g.W.Write.contents c.total.new.output in
    asked_keeps D c.args.disk c.into_disk.result c.in-Ok.archive.state
    (TellsNoLines (totals_lines c.args.format c.args.span.now) SumsFit reads old new) (λ e told. told.0)
    c.in-Ok.ensures.read c.in-Err-total.error
    (λ honest. c.in-Err-total.ensures.refused (subst IsTrue (sym c.in-Ok.ensures.honest) honest) reads
    (c.in-Ok.ensures.read honest))

pub returns-in-Err-clause-unchanged : goal.returns-in-Err-clause-unchanged
returns-in-Err-clause-unchanged g c =
    let D = g.D.Disk in
    subst (λ (e : ArchiveRefusal). KeepsFiles D c.args.disk c.in-Err.refused.disk e) (sym c.from.ensures)
    (opening_keeps D c.args.disk c.in-Err.refused.disk c.in-Err.refused.error c.in-Err.ensures.unchanged)
