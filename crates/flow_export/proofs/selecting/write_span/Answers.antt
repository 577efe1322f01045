use Rattle.std.proofs.Common.{inl, subst}
use Rattle.std.proofs.KnownBytes.{Keeps-refl}
use Rattle.flow_disk.proofs.Results.{if_err_by, on_ok_by, passed_on}
use Rattle.flow_export.specs.declared.refusal.ExportRefusal.TheVariants as refusal
use Rattle.flow_export.specs.Export.{AreTemplates, AreTemplatesAfter, IsBlameless, Writes, WritesOrNot, WritesUpTo}
use Rattle.flow_export.specs.Span.{IsFound, IsSomeSpanExport, IsSpanExportOf}
use Rattle.flow_export.proofs.SpanWritten.{none_cut, none_exported, templates_exported, templates_part}
use Rattle.flow_export.proofs.selecting.write_span.Goals as goal

pub returns-in_err-found-clause-some : goal.returns-in_err-found-clause-some
returns-in_err-found-clause-some g c =
    let output = g.W.Write.contents c.args.output.now in
    passed_on c.from_residual.result (refusal.Query (c.in_err-found.field-0).0)
    (WritesUpTo (IsSomeSpanExport c.args.span.from c.args.span.to) output output)
    c.from_residual.ensures.1 (inl (Keeps-refl output))

pub returns-in_err-found-clause-cut : goal.returns-in_err-found-clause-cut
returns-in_err-found-clause-cut g c = λ honest v view.
    let output = g.W.Write.contents c.args.output.now in
    passed_on c.from_residual.result (refusal.Query (c.in_err-found.field-0).0)
    (WritesUpTo (IsSpanExportOf c.args.snapshot.now.shelf v c.args.span.from c.args.span.to) output output)
    c.from_residual.ensures.1 (inl (Keeps-refl output))

pub returns-in_err-found-clause-blameless : goal.returns-in_err-found-clause-blameless
returns-in_err-found-clause-blameless g c = λ honest v view.
    passed_on c.from_residual.result (refusal.Query (c.in_err-found.field-0).0) IsBlameless c.from_residual.ensures.1
    (c.in_err-found.ensures.given honest v view)

pub returns-in-Some-clause-exact : goal.returns-in-Some-clause-exact
returns-in-Some-clause-exact g c = λ honest v view.
    let span = c.args.span in
    c.write_found.ensures.exact honest v view
    (subst (IsFound span.from span.to v.kept) c.in-Some.is (c.in_ok-found.ensures.given honest v view))

pub returns-in-Some-clause-cut : goal.returns-in-Some-clause-cut
returns-in-Some-clause-cut g c = λ honest v view.
    let span = c.args.span in
    c.write_found.ensures.cut honest v view
    (subst (IsFound span.from span.to v.kept) c.in-Some.is (c.in_ok-found.ensures.given honest v view))

pub returns-in-None-clause-written : goal.returns-in-None-clause-written
returns-in-None-clause-written g c =
    let old = g.W.Write.contents c.args.output.now in
    let new = g.W.Write.contents c.write_templates.new.output in
    let span = c.args.span in
    on_ok_by c.write_templates.result (Writes AreTemplates old new) (Writes (IsSomeSpanExport span.from span.to) old new)
    (templates_exported span.from span.to old new) c.write_templates.ensures.written

pub returns-in-None-clause-some : goal.returns-in-None-clause-some
returns-in-None-clause-some g c =
    let old = g.W.Write.contents c.args.output.now in
    let new = g.W.Write.contents c.write_templates.new.output in
    let span = c.args.span in
    if_err_by c.write_templates.result (WritesOrNot AreTemplates old new)
    (WritesUpTo (IsSomeSpanExport span.from span.to) old new) (templates_part span.from span.to old new)
    c.write_templates.ensures.some

pub returns-in-None-clause-exact : goal.returns-in-None-clause-exact
returns-in-None-clause-exact g c = λ honest v view.
    let s = c.args.snapshot.now.shelf in
    let span = c.args.span in
    let old = g.W.Write.contents c.args.output.now in
    let new = g.W.Write.contents c.write_templates.new.output in
    let none = subst (IsFound span.from span.to v.kept) c.in-None.is (c.in_ok-found.ensures.given honest v view) in
    on_ok_by c.write_templates.result (Writes (AreTemplatesAfter s) old new)
    (Writes (IsSpanExportOf s v span.from span.to) old new) (none_exported s v view span.from span.to none old new)
    (c.write_templates.ensures.exact honest)

pub returns-in-None-clause-cut : goal.returns-in-None-clause-cut
returns-in-None-clause-cut g c = λ honest v view.
    let s = c.args.snapshot.now.shelf in
    let span = c.args.span in
    let old = g.W.Write.contents c.args.output.now in
    let new = g.W.Write.contents c.write_templates.new.output in
    let none = subst (IsFound span.from span.to v.kept) c.in-None.is (c.in_ok-found.ensures.given honest v view) in
    if_err_by c.write_templates.result (WritesOrNot (AreTemplatesAfter s) old new)
    (WritesUpTo (IsSpanExportOf s v span.from span.to) old new) (none_cut s v view span.from span.to none old new)
    (c.write_templates.ensures.cut honest)
