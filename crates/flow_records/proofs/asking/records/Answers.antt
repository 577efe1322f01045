use Rattle.std.proofs.Common.{◌∙◌, subst, sym}
use Rattle.flow_manifest.specs.Slots.{reads_of}
use Rattle.flow_commands.specs.declared.archive_refusal.ArchiveRefusal.{ArchiveRefusal}
use Rattle.flow_commands.specs.Asking.{Always, TellsUpTo}
use Rattle.flow_records.specs.Listing.{records_lines}
use Rattle.flow_commands.proofs.HandedOn.{handed_on, keeps}
use Rattle.flow_records.proofs.Lines.{none_up_to, unopened_up_to}
use Rattle.std.specs.Prelude.{IsTrue}
use Rattle.flow_commands.specs.Opened.{KeepsFiles}
use Rattle.flow_commands.proofs.Unchanged.{asked_keeps, opening_keeps}
use Rattle.flow_records.proofs.asking.records.Goals as goal

pub returns-in-Ok-list-clause-any_moment : goal.returns-in-Ok-list-clause-any_moment
returns-in-Ok-list-clause-any_moment g c =
    keeps g.D.Disk c.args.disk c.in-Ok.archive.disk c.list.new.archive.disk c.list.ensures.asked.disk
    c.in-Ok.ensures.any_moment

pub returns-in-Err-list-clause-any_moment : goal.returns-in-Err-list-clause-any_moment
returns-in-Err-list-clause-any_moment g c =
    keeps g.D.Disk c.args.disk c.in-Ok.archive.disk c.into_disk.result
    (c.into_disk.ensures ∙ c.list.ensures.asked.disk) c.in-Ok.ensures.any_moment

pub returns-in-Ok-list-clause-handed : goal.returns-in-Ok-list-clause-handed
returns-in-Ok-list-clause-handed g c =
    handed_on g.D.Disk c.args.disk c.in-Ok.archive c.list.new.archive c.in-Ok.ensures.opened.0
    c.in-Ok.ensures.opened.1 c.in-Ok.ensures.read c.in-Ok.ensures.stands c.list.ensures.asked

pub returns-in-Err-clause-refused : goal.returns-in-Err-clause-refused
returns-in-Err-clause-refused g c = λ honest.
    let output = g.W.Write.contents c.args.output.now in
    let reads = reads_of (g.D.Disk.held c.args.disk) in
    subst (λ (e : ArchiveRefusal).
    TellsUpTo (records_lines c.args.format.now c.args.span.now.from c.args.span.now.to) Always reads output output e)
    (sym c.from.ensures) (unopened_up_to c.args.format.now c.args.span.now reads output c.in-Err.refused.error
    (c.in-Err.ensures.told honest))

pub returns-in-Err-clause-kept : goal.returns-in-Err-clause-kept
returns-in-Err-clause-kept g c =
    none_up_to c.args.format.now c.args.span.now (g.W.Write.contents c.args.output.now) c.from.result

pub returns-in-Err-list-clause-unchanged : goal.returns-in-Err-list-clause-unchanged
returns-in-Err-list-clause-unchanged g c =
    let D = g.D.Disk in
    let reads = reads_of (D.held c.args.disk) in
    let old = g.W.Write.contents c.args.output.now in
    let new = g.W.Write.contents c.list.new.output in
    asked_keeps D c.args.disk c.into_disk.result c.in-Ok.archive.state
    (TellsUpTo (records_lines c.args.format.now c.args.span.now.from c.args.span.now.to) Always reads old new)
    (λ e told. told.0) c.in-Ok.ensures.read c.in-Err-list.error
    (λ honest. c.in-Err-list.ensures.refused (subst IsTrue (sym c.in-Ok.ensures.honest) honest) reads
    (c.in-Ok.ensures.read honest))

pub returns-in-Err-clause-unchanged : goal.returns-in-Err-clause-unchanged
returns-in-Err-clause-unchanged g c =
    let D = g.D.Disk in
    subst (λ (e : ArchiveRefusal). KeepsFiles D c.args.disk c.in-Err.refused.disk e) (sym c.from.ensures)
    (opening_keeps D c.args.disk c.in-Err.refused.disk c.in-Err.refused.error c.in-Err.ensures.unchanged)
