use Rattle.std.proofs.Common.{◌∙◌, inl, sym}
use Rattle.std.proofs.KnownBytes.{Keeps-refl}
use Rattle.flow_disk.proofs.Results.{passed_on}
use Rattle.flow_export.specs.declared.archive_refusal.ArchiveExportRefusal.TheVariants as refusal
use Rattle.flow_export.specs.Asked.{of_export, IsOfAsking}
use Rattle.flow_export.specs.ByTime.{IsTimeRefusal, WritesByTime}
use Rattle.flow_export.proofs.AskedFor.{asked_for}
use Rattle.flow_export.proofs.ByTime.{ended_by_time, stopped_before, time_refused, time_written}
use Rattle.flow_export.proofs.by_time.write_by_time.Goals as goal

pub returns-in_err-meets_sums-clause-refused : goal.returns-in_err-meets_sums-clause-refused
returns-in_err-meets_sums-clause-refused g c = λ honest v is.
    let output = g.W.Write.contents c.args.output.now in
    let e = (c.in_err-meets_sums.field-0).0 in
    passed_on c.from_residual.result (refusal.Query e)
    (IsTimeRefusal c.args.snapshot.now.shelf v c.args.span output output) c.from_residual.ensures.1
    (stopped_before _ _ _ output e (c.in_err-meets_sums.ensures.given honest v is))

pub returns-in_err-meets_sums-clause-some : goal.returns-in_err-meets_sums-clause-some
returns-in_err-meets_sums-clause-some g c =
    let output = g.W.Write.contents c.args.output.now in
    passed_on c.from_residual.result (refusal.Query (c.in_err-meets_sums.field-0).0)
    (WritesByTime c.args.span output output) c.from_residual.ensures.1 (inl (Keeps-refl output))

pub returns-then-branch-clause-refused : goal.returns-then-branch-clause-refused
returns-then-branch-clause-refused g c = λ honest v is. (
  sym (c.in_ok-meets_sums.ensures.given honest v is) ∙ c.if-branch.true,
  c.cut.ensures,
  Keeps-refl (g.W.Write.contents c.args.output.now),
)

pub returns-clause-exact : goal.returns-clause-exact
returns-clause-exact g c = λ honest v is.
    time_written c.args.snapshot.now.shelf v c.args.span
    (sym (c.in_ok-meets_sums.ensures.given honest v is) ∙ c.if-branch.false) (g.W.Write.contents c.args.output.now)
    (g.W.Write.contents c.write_span.new.output) (c.in_ok-write_span.ensures.exact honest v is)

pub returns-in_err-write_span-clause-refused : goal.returns-in_err-write_span-clause-refused
returns-in_err-write_span-clause-refused g c = λ honest v is.
    let s = c.args.snapshot.now.shelf in
    let old = g.W.Write.contents c.args.output.now in
    let new = g.W.Write.contents c.write_span.new.output in
    let e = (c.in_err-write_span.field-0).0 in
    passed_on c.from_residual-in_err-write_span.result (of_export e) (IsTimeRefusal s v c.args.span old new)
    c.from_residual-in_err-write_span.ensures.1
    (time_refused s v c.args.span (sym (c.in_ok-meets_sums.ensures.given honest v is) ∙ c.if-branch.false) old new e
    (c.in_err-write_span.ensures.blameless honest v is) (c.in_err-write_span.ensures.cut honest v is))

pub returns-in_err-write_span-clause-some : goal.returns-in_err-write_span-clause-some
returns-in_err-write_span-clause-some g c =
    let old = g.W.Write.contents c.args.output.now in
    let new = g.W.Write.contents c.write_span.new.output in
    let e = (c.in_err-write_span.field-0).0 in
    passed_on c.from_residual-in_err-write_span.result (of_export e) (WritesByTime c.args.span old new)
    c.from_residual-in_err-write_span.ensures.1 (ended_by_time c.args.span old new e c.in_err-write_span.ensures.some)

pub returns-in_err-write_span-clause-asking : goal.returns-in_err-write_span-clause-asking
returns-in_err-write_span-clause-asking g c =
    let e = (c.in_err-write_span.field-0).0 in
    passed_on c.from_residual-in_err-write_span.result (of_export e) IsOfAsking
    c.from_residual-in_err-write_span.ensures.1 (asked_for e)
