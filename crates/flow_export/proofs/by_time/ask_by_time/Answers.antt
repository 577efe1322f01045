use Rattle.std.proofs.Common.{inl}
use Rattle.std.proofs.KnownBytes.{Keeps-refl}
use Rattle.flow_disk.proofs.Results.{passed_on}
use Rattle.flow_refusals.specs.declared.read_refusal.ReadRefusal.TheVariants as query
use Rattle.flow_model.specs.Shelved.{shelf_of}
use Rattle.flow_export.specs.declared.archive_refusal.ArchiveExportRefusal.TheVariants as refusal
use Rattle.flow_export.specs.ByTime.{IsUnexportedByTime, WritesByTime}
use Rattle.flow_export.proofs.AskedFor.{honest_here, viewed_here}
use Rattle.flow_export.proofs.ByTime.{all_by_time, none_by_time}
use Rattle.flow_export.proofs.by_time.ask_by_time.Goals as goal

pub returns-in_err-directory-clause-refused : goal.returns-in_err-directory-clause-refused
returns-in_err-directory-clause-refused g c = λ honest reads stands.
    let output = g.W.Write.contents c.args.output.now in
    let seen = c.one_view_of_a_state.ensures.there c.args.archive.now.state stands.files.chained in
    passed_on c.from_residual.result (refusal.Query query.OutOfMemory)
    (IsUnexportedByTime reads c.args.span output output) c.from_residual.ensures.1
    (c.args.archive.now.state, seen.0, stands, seen.1, inl (Keeps-refl output))

pub returns-in_err-directory-clause-some : goal.returns-in_err-directory-clause-some
returns-in_err-directory-clause-some g c =
    let output = g.W.Write.contents c.args.output.now in
    passed_on c.from_residual.result (refusal.Query query.OutOfMemory) (WritesByTime c.args.span output output)
    c.from_residual.ensures.1 (inl (Keeps-refl output))

pub returns-clause-exact : goal.returns-clause-exact
returns-clause-exact g c = λ honest reads stands.
    let s = c.args.archive.now.state in
    let span = c.args.span in
    let sight = c.into_snapshot-snapshot.result in
    let d = c.in_ok-directory.directory in
    let is = c.into_snapshot-snapshot.ensures in
    let shown = c.in_ok-directory.ensures.shown honest in
    let seen = c.one_view_of_a_state.ensures.there s stands.files.chained in
    all_by_time reads s stands seen.0 seen.1 span
    (λ text own. c.exported_spans.ensures.file (shelf_of s) seen.0 span.from span.to text seen.1 own)
    (c.exported_spans.ensures.flows span.from span.to seen.0) sight d is shown (g.W.Write.contents c.args.output.now)
    (g.W.Write.contents c.write_by_time.new.output) c.write_by_time.result
    (c.write_by_time.ensures.exact (honest_here sight d is s shown) seen.0
    (viewed_here sight d is s shown seen.0 seen.1))

pub returns-clause-refused : goal.returns-clause-refused
returns-clause-refused g c = λ honest reads stands.
    let s = c.args.archive.now.state in
    let span = c.args.span in
    let sight = c.into_snapshot-snapshot.result in
    let d = c.in_ok-directory.directory in
    let is = c.into_snapshot-snapshot.ensures in
    let shown = c.in_ok-directory.ensures.shown honest in
    let seen = c.one_view_of_a_state.ensures.there s stands.files.chained in
    none_by_time reads s stands seen.0 seen.1 span
    (λ text own. c.exported_spans.ensures.file (shelf_of s) seen.0 span.from span.to text seen.1 own)
    (c.exported_spans.ensures.flows span.from span.to seen.0) sight d is shown (g.W.Write.contents c.args.output.now)
    (g.W.Write.contents c.write_by_time.new.output) c.write_by_time.result
    (c.write_by_time.ensures.refused (honest_here sight d is s shown) seen.0
    (viewed_here sight d is s shown seen.0 seen.1))
