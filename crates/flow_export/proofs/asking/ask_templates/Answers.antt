use Rattle.std.proofs.Common.{◌∙◌, ap}
use Rattle.std.proofs.KnownBytes.{Keeps-refl}
use Rattle.flow_disk.proofs.Results.{passed_on}
use Rattle.flow_refusals.specs.declared.read_refusal.ReadRefusal.TheVariants as query
use Rattle.flow_snapshot.specs.ShelfSeen.{ShelfSeen}
use Rattle.flow_export.specs.Export.{AreTemplates, AreTemplatesAfter}
use Rattle.flow_export.specs.declared.archive_refusal.ArchiveExportRefusal.TheVariants as refusal
use Rattle.flow_export.specs.Asked.{of_export, AreTemplatesOf, AreUnwritten, IsOfAsking, WritesOrNot}
use Rattle.flow_export.proofs.AskedFor.{asked_for, honest_here, kept_or_written, passes_on, unwritten}
use Rattle.flow_export.proofs.AskedFor.{viewed_here, written_as}
use Rattle.flow_export.proofs.asking.ask_templates.Goals as goal

pub returns-in_err-directory-clause-refused : goal.returns-in_err-directory-clause-refused
returns-in_err-directory-clause-refused g c = λ honest reads stands.
    let output = g.W.Write.contents c.args.output.now in
    passed_on c.from_residual.result (refusal.Query query.OutOfMemory) (AreUnwritten reads output output)
    c.from_residual.ensures.1 (tt, tt, Keeps-refl output)

pub returns-in_err-directory-clause-some : goal.returns-in_err-directory-clause-some
returns-in_err-directory-clause-some g c =
    let output = g.W.Write.contents c.args.output.now in
    passed_on c.from_residual.result (refusal.Query query.OutOfMemory) (WritesOrNot AreTemplates output output)
    c.from_residual.ensures.1 (Keeps-refl output)

pub returns-in_err-write_templates-clause-refused : goal.returns-in_err-write_templates-clause-refused
returns-in_err-write_templates-clause-refused g c = λ honest reads stands.
    let old = g.W.Write.contents c.args.output.now in
    let new = g.W.Write.contents c.write_templates.new.output in
    let s = c.args.archive.now.state in
    let sight = c.into_snapshot-snapshot.result in
    let d = c.in_ok-directory.directory in
    let is = c.into_snapshot-snapshot.ensures in
    let shown = c.in_ok-directory.ensures.shown honest in
    let here = honest_here sight d is s shown in
    let seen = c.one_view_of_a_state.ensures.there s stands.files.chained in
    let e = (c.in_err-write_templates.field-0).0 in
    passed_on c.from_residual-in_err-write_templates.result (of_export e) (AreUnwritten reads old new)
    c.from_residual-in_err-write_templates.ensures.1
    (unwritten reads s stands sight.shelf
    (ap (λ (d : ShelfSeen). d.shelf.prefix) is ∙ c.in_ok-directory.ensures.active.prefix)
    (ap (λ (d : ShelfSeen). d.shelf.active) is ∙ c.in_ok-directory.ensures.active.active) old new e
    (c.in_err-write_templates.ensures.blameless here seen.0 (viewed_here sight d is s shown seen.0 seen.1))
    (c.in_err-write_templates.ensures.cut here))

pub returns-in_err-write_templates-clause-some : goal.returns-in_err-write_templates-clause-some
returns-in_err-write_templates-clause-some g c =
    let old = g.W.Write.contents c.args.output.now in
    let new = g.W.Write.contents c.write_templates.new.output in
    let e = (c.in_err-write_templates.field-0).0 in
    passed_on c.from_residual-in_err-write_templates.result (of_export e) (WritesOrNot AreTemplates old new)
    c.from_residual-in_err-write_templates.ensures.1
    (kept_or_written AreTemplates old new e c.in_err-write_templates.ensures.some)

pub returns-in_err-write_templates-clause-asking : goal.returns-in_err-write_templates-clause-asking
returns-in_err-write_templates-clause-asking g c =
    let e = (c.in_err-write_templates.field-0).0 in
    passed_on c.from_residual-in_err-write_templates.result (of_export e) IsOfAsking
    c.from_residual-in_err-write_templates.ensures.1 (asked_for e)

pub returns-clause-exact : goal.returns-clause-exact
returns-clause-exact g c = λ honest reads stands.
    let old = g.W.Write.contents c.args.output.now in
    let new = g.W.Write.contents c.write_templates.new.output in
    let s = c.args.archive.now.state in
    let sight = c.into_snapshot-snapshot.result in
    let d = c.in_ok-directory.directory in
    let is = c.into_snapshot-snapshot.ensures in
    let here = honest_here sight d is s (c.in_ok-directory.ensures.shown honest) in
    written_as (AreTemplatesAfter sight.shelf) (AreTemplatesOf reads) old new
    (passes_on reads s stands sight.shelf
    (ap (λ (d : ShelfSeen). d.shelf.prefix) is ∙ c.in_ok-directory.ensures.active.prefix)
    (ap (λ (d : ShelfSeen). d.shelf.active) is ∙ c.in_ok-directory.ensures.active.active))
    (c.in_ok-write_templates.ensures.exact here)
