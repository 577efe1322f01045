use Rattle.std.proofs.Common.{inl, inr, refl, subst}
use Rattle.std.proofs.KnownBytes.{Keeps-refl}
use Rattle.std.specs.Prelude.{length, IfErr}
use Rattle.flow_disk.proofs.Results.{passed_on}
use Rattle.flow_folder.specs.declared.system.FolderError.TheVariants as folder
use Rattle.flow_manifest.specs.Slots.{reads_of}
use Rattle.flow_commands.specs.declared.archive_refusal.ArchiveRefusal.TheVariants as refusal
use Rattle.flow_commands.specs.Asking.{IsUnopened}
use Rattle.flow_commands.specs.Feeding.{IsNotFed, KeepsOrFeeds}
use Rattle.flow_commands.proofs.Lines.{folder_kept, opening_kept, opening_not_fed, passed_err, result_err, result_not_fed}
use Rattle.flow_commands.proofs.Lines.{result_ok}
use Rattle.flow_commands.proofs.feeding.feed_on.Goals as goal

pub returns-in-Ok-clause-written : goal.returns-in-Ok-clause-written
returns-in-Ok-clause-written g c =
    result_ok (length c.args.paths.now) (g.W.Write.contents c.args.output.now)
    (g.W.Write.contents c.feed_files.new.output) c.feed_files.result c.feed_files.ensures.fed

pub returns-in-Ok-clause-kept : goal.returns-in-Ok-clause-kept
returns-in-Ok-clause-kept g c =
    result_err (length c.args.paths.now) (g.W.Write.contents c.args.output.now)
    (g.W.Write.contents c.feed_files.new.output) c.feed_files.result c.feed_files.ensures.fed

pub returns-in-Err-clause-kept : goal.returns-in-Err-clause-kept
returns-in-Err-clause-kept g c =
    rw c.from.ensures
    (opening_kept (length c.args.paths.now) (g.W.Write.contents c.args.output.now) c.in-Err.refused.error)

pub returns-in-Ok-clause-refused : goal.returns-in-Ok-clause-refused
returns-in-Ok-clause-refused g c h =
    let D = g.D.Disk in
    result_not_fed (length c.args.paths.now) (g.W.Write.contents c.args.output.now)
    (g.W.Write.contents c.feed_files.new.output) (reads_of (D.held c.args.disk)) c.feed_files.result
    c.feed_files.ensures.fed

pub returns-in-Err-clause-refused : goal.returns-in-Err-clause-refused
returns-in-Err-clause-refused g c h =
    let D = g.D.Disk in
    rw c.from.ensures
    (opening_not_fed (reads_of (D.held c.args.disk)) c.in-Err.refused.error
    (subst (λ r. IfErr r (λ x. IsUnopened (reads_of (D.held c.args.disk)) x.error)) c.in-Err.is (c.open.ensures.told h)))

pub returns-in_err-feds-clause-kept : goal.returns-in_err-feds-clause-kept
returns-in_err-feds-clause-kept g c =
    let output = g.W.Write.contents c.args.output.now in
    passed_on c.from_residual.result refusal.OutOfMemory
    (λ e. KeepsOrFeeds (length c.args.paths.now) e output output) c.from_residual.ensures.1
    (folder_kept (length c.args.paths.now) output folder.OutOfMemory)

pub returns-in_err-feds-clause-refused : goal.returns-in_err-feds-clause-refused
returns-in_err-feds-clause-refused g c h =
    passed_on c.from_residual.result refusal.OutOfMemory (λ e. IsNotFed (reads_of (g.D.Disk.held c.args.disk)) e)
    c.from_residual.ensures.1 tt

pub returns-in-Ok-clause-asked : goal.returns-in-Ok-clause-asked
returns-in-Ok-clause-asked g c = elim c.feed_files.ensures.asked [
  | inl fed ↦ inl (c.in-Ok.archive.state, c.in-Ok.ensures.read, fed)
  | inr unstarted ↦ inr unstarted
]

pub returns-in-Err-clause-asked : goal.returns-in-Err-clause-asked
returns-in-Err-clause-asked g c = inr (refl, Keeps-refl (g.W.Write.contents c.args.output.now))

pub returns-in_err-feds-clause-asked : goal.returns-in_err-feds-clause-asked
returns-in_err-feds-clause-asked g c =
    inr (
      passed_err c.from_residual.result refusal.OutOfMemory c.from_residual.ensures.1,
      Keeps-refl (g.W.Write.contents c.args.output.now),
    )
