use Rattle.std.proofs.Common.{◌≢◌, inl}
use Rattle.std.proofs.KnownBytes.{Keeps-refl}
use Rattle.flow_disk.proofs.Results.{on_ok_by, passed_on}
use Rattle.flow_refusals.specs.declared.read_refusal.ReadRefusal.TheVariants as query
use Rattle.flow_export.specs.declared.refusal.ExportRefusal.TheVariants as refusal
use Rattle.flow_export.specs.Export.{IsBlameless, Writes, WritesUpTo}
use Rattle.flow_export.specs.Span.{IsSomeSpanExport, IsSpanExportOf}
use Rattle.flow_export.proofs.SpanWritten.{part_exported, restated_part, some_exported, span_cut, span_part, span_written}
use Rattle.flow_export.proofs.Written.{quiet_cause, some_of}
use Rattle.flow_export.proofs.selecting.write_found.Goals as goal

pub returns-in_err-carry-clause-some : goal.returns-in_err-carry-clause-some
returns-in_err-carry-clause-some g c =
    let output = g.W.Write.contents c.args.output.now in
    passed_on c.from_residual.result (refusal.Query (c.in_err-carry.field-0).0)
    (WritesUpTo (IsSomeSpanExport c.args.span.from c.args.span.to) output output)
    c.from_residual.ensures.1 (inl (Keeps-refl output))

pub returns-in_err-carry-clause-cut : goal.returns-in_err-carry-clause-cut
returns-in_err-carry-clause-cut g c = λ honest v view is.
    let output = g.W.Write.contents c.args.output.now in
    passed_on c.from_residual.result (refusal.Query (c.in_err-carry.field-0).0)
    (WritesUpTo (IsSpanExportOf c.args.snapshot.now.shelf v c.args.span.from c.args.span.to) output output)
    c.from_residual.ensures.1 (inl (Keeps-refl output))

pub returns-in_err-carry-clause-blameless : goal.returns-in_err-carry-clause-blameless
returns-in_err-carry-clause-blameless g c = λ honest v view.
    passed_on c.from_residual.result (refusal.Query (c.in_err-carry.field-0).0) IsBlameless c.from_residual.ensures.1
    (c.in_err-carry.ensures.given honest v view)

pub returns-in_err-write_restated-clause-some : goal.returns-in_err-write_restated-clause-some
returns-in_err-write_restated-clause-some g c =
    let old = g.W.Write.contents c.args.output.now in
    let new = g.W.Write.contents c.write_restated.new.output in
    let e = (c.in_err-write_restated.field-0).0 in
    let span = c.args.span in
    passed_on c.from_residual-in_err-write_restated.result e (WritesUpTo (IsSomeSpanExport span.from span.to) old new)
    c.from_residual-in_err-write_restated.ensures.1
    (restated_part span.from span.to c.in_ok-carry.carry old new c.write_restated.ensures.carry e
    c.in_err-write_restated.ensures.some)

pub returns-in_err-write_restated-clause-cut : goal.returns-in_err-write_restated-clause-cut
returns-in_err-write_restated-clause-cut g c = λ honest v view is.
    let s = c.args.snapshot.now.shelf in
    let span = c.args.span in
    let old = g.W.Write.contents c.args.output.now in
    let new = g.W.Write.contents c.write_restated.new.output in
    let e = (c.in_err-write_restated.field-0).0 in
    passed_on c.from_residual-in_err-write_restated.result e
    (WritesUpTo (IsSpanExportOf s v span.from span.to) old new) c.from_residual-in_err-write_restated.ensures.1
    (span_cut s v span.from span.to c.args.found is c.in_ok-carry.carry (c.in_ok-carry.ensures.found honest) old new e
    c.in_err-write_restated.ensures.some)

pub returns-in_err-write_restated-clause-blameless : goal.returns-in_err-write_restated-clause-blameless
returns-in_err-write_restated-clause-blameless g c = λ honest v view.
    passed_on c.from_residual-in_err-write_restated.result (c.in_err-write_restated.field-0).0 IsBlameless
    c.from_residual-in_err-write_restated.ensures.1 c.in_err-write_restated.ensures.blameless

pub returns-in_err-write_restated-clause-cause : goal.returns-in_err-write_restated-clause-cause
returns-in_err-write_restated-clause-cause g c =
    let r = c.from_residual-in_err-write_restated.result in
    quiet_cause (refusal.Query query.Fault) c.args.faults.now c.carry_before.new.faults r c.in_ok-carry.ensures.cause.done
    (passed_on r (c.in_err-write_restated.field-0).0 (λ e. e ≢ refusal.Query query.Fault)
    c.from_residual-in_err-write_restated.ensures.1 c.in_err-write_restated.ensures.quiet)

pub returns-clause-written : goal.returns-clause-written
returns-clause-written g c =
    let old = g.W.Write.contents c.args.output.now in
    let mid = g.W.Write.contents c.write_restated.new.output in
    let new = g.W.Write.contents c.write_asked.new.output in
    let span = c.args.span in
    on_ok_by c.write_asked.result _ (Writes (IsSomeSpanExport span.from span.to) old new)
    (some_exported span.from span.to c.in_ok-carry.carry old mid new c.in_ok-write_restated.ensures.all
    c.write_restated.ensures.carry) c.write_asked.ensures.whole

pub returns-clause-some : goal.returns-clause-some
returns-clause-some g c =
    let old = g.W.Write.contents c.args.output.now in
    let mid = g.W.Write.contents c.write_restated.new.output in
    let new = g.W.Write.contents c.write_asked.new.output in
    let span = c.args.span in
    some_of c.write_asked.result _ (WritesUpTo (IsSomeSpanExport span.from span.to) old new)
    (part_exported span.from span.to c.in_ok-carry.carry old mid new c.in_ok-write_restated.ensures.all
    c.write_restated.ensures.carry) c.write_asked.ensures.part

pub returns-clause-exact : goal.returns-clause-exact
returns-clause-exact g c = λ honest v view is.
    let s = c.args.snapshot.now.shelf in
    let span = c.args.span in
    let old = g.W.Write.contents c.args.output.now in
    let mid = g.W.Write.contents c.write_restated.new.output in
    let new = g.W.Write.contents c.write_asked.new.output in
    on_ok_by c.write_asked.result _ (Writes (IsSpanExportOf s v span.from span.to) old new)
    (span_written s v span.from span.to c.args.found is c.in_ok-carry.carry (c.in_ok-carry.ensures.found honest) old mid
    new c.in_ok-write_restated.ensures.all) (c.write_asked.ensures.all honest v view)

pub returns-clause-cut : goal.returns-clause-cut
returns-clause-cut g c = λ honest v view is.
    let s = c.args.snapshot.now.shelf in
    let span = c.args.span in
    let old = g.W.Write.contents c.args.output.now in
    let mid = g.W.Write.contents c.write_restated.new.output in
    let new = g.W.Write.contents c.write_asked.new.output in
    some_of c.write_asked.result _ (WritesUpTo (IsSpanExportOf s v span.from span.to) old new)
    (span_part s v span.from span.to c.args.found is c.in_ok-carry.carry (c.in_ok-carry.ensures.found honest) old mid new
    c.in_ok-write_restated.ensures.all) (c.write_asked.ensures.some honest v view)
