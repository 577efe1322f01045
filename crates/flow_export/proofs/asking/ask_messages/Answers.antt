use Rattle.std.proofs.Common.{inl}
use Rattle.std.proofs.KnownBytes.{Keeps-refl}
use Rattle.flow_disk.proofs.Results.{passed_on}
use Rattle.flow_refusals.specs.declared.read_refusal.ReadRefusal.TheVariants as query
use Rattle.flow_export.specs.declared.archive_refusal.ArchiveExportRefusal.TheVariants as refusal
use Rattle.flow_export.specs.Asked.{AreUnexported, WritesUpTo}
use Rattle.flow_export.proofs.AskedFor.{all_exported, all_unexported, counted_here, ended_here, honest_here}
use Rattle.flow_export.proofs.AskedFor.{viewed_here}
use Rattle.flow_export.proofs.asking.ask_messages.Goals as goal

pub returns-in_err-directory-clause-refused : goal.returns-in_err-directory-clause-refused
returns-in_err-directory-clause-refused g c = λ honest reads stands.
    let output = g.W.Write.contents c.args.output.now in
    passed_on c.from_residual.result (refusal.Query query.OutOfMemory) (AreUnexported reads c.args.span.now output output)
    c.from_residual.ensures.1 (tt, tt, tt, inl (Keeps-refl output))

pub returns-in_err-directory-clause-some : goal.returns-in_err-directory-clause-some
returns-in_err-directory-clause-some g c =
    let output = g.W.Write.contents c.args.output.now in
    passed_on c.from_residual.result (refusal.Query query.OutOfMemory) (WritesUpTo _ c.args.span.now output output)
    c.from_residual.ensures.1 (inl (Keeps-refl output))

pub returns-clause-exact : goal.returns-clause-exact
returns-clause-exact g c = λ honest reads stands.
    let s = c.args.archive.now.state in
    let sight = c.into_snapshot-snapshot.result in
    let d = c.in_ok-directory.directory in
    let is = c.into_snapshot-snapshot.ensures in
    let shown = c.in_ok-directory.ensures.shown honest in
    let seen = c.one_view_of_a_state.ensures.there s stands.files.chained in
    all_exported sight d is s shown reads stands seen.0 seen.1 c.args.span.now (g.W.Write.contents c.args.output.now)
    (g.W.Write.contents c.write_span.new.output) c.write_span.result
    (c.write_span.ensures.exact (honest_here sight d is s shown))

pub returns-clause-refused : goal.returns-clause-refused
returns-clause-refused g c = λ honest reads stands.
    let s = c.args.archive.now.state in
    let sight = c.into_snapshot-snapshot.result in
    let d = c.in_ok-directory.directory in
    let is = c.into_snapshot-snapshot.ensures in
    let shown = c.in_ok-directory.ensures.shown honest in
    let here = honest_here sight d is s shown in
    let seen = c.one_view_of_a_state.ensures.there s stands.files.chained in
    all_unexported sight d is s shown reads stands seen.0 seen.1 c.args.span.now (g.W.Write.contents c.args.output.now)
    (g.W.Write.contents c.write_span.new.output) c.write_span.result c.write_span.ensures.asking
    (c.write_span.ensures.blameless here seen.0 (viewed_here sight d is s shown seen.0 seen.1))
    c.write_span.ensures.rolled (c.write_span.ensures.cut here)

pub returns-clause-written : goal.returns-clause-written
returns-clause-written g c =
    counted_here c.into_snapshot-snapshot.result c.in_ok-directory.directory c.into_snapshot-snapshot.ensures
    c.args.archive.now.state c.in_ok-directory.ensures.every c.args.span.now (g.W.Write.contents c.args.output.now)
    (g.W.Write.contents c.write_span.new.output) c.write_span.result c.write_span.ensures.written

pub returns-clause-some : goal.returns-clause-some
returns-clause-some g c =
    ended_here c.into_snapshot-snapshot.result c.in_ok-directory.directory c.into_snapshot-snapshot.ensures
    c.args.archive.now.state c.in_ok-directory.ensures.every c.args.span.now (g.W.Write.contents c.args.output.now)
    (g.W.Write.contents c.write_span.new.output) c.write_span.result c.write_span.ensures.some
