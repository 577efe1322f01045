use Rattle.std.proofs.Common.{◌∙◌, ◌-◌, length, sym}
use Rattle.std.proofs.KnownBytes.{Keeps-refl}
use Rattle.flow_disk.proofs.Results.{passed_on}
use Rattle.flow_export.specs.Export.{asked_count, IsExport, IsExportOf}
use Rattle.flow_model.specs.Shelf.{kept_of}
use Rattle.flow_export.specs.Asked.{cut_in, last_in, of_export, IsCountedExport, IsCutIn, IsNoFault}
use Rattle.flow_export.specs.Asked.{IsOfAsking, IsSpanExport, WritesUpTo}
use Rattle.flow_export.proofs.AskedFor.{asked_for, ended, no_cut, no_damage, span_counted, span_exported}
use Rattle.flow_export.proofs.AskedFor.{written_as}
use Rattle.flow_export.proofs.asking.write_span.Goals as goal

pub returns-in-None-clause-cut : goal.returns-in-None-clause-cut
returns-in-None-clause-cut g c = λ honest.
    (sym c.last_before.ensures.value ∙ c.in-None.is, Keeps-refl (g.W.Write.contents c.args.output.now))

pub returns-in-None-clause-some : goal.returns-in-None-clause-some
returns-in-None-clause-some g c =
    (sym c.last_before.ensures.value ∙ c.in-None.is, Keeps-refl (g.W.Write.contents c.args.output.now))

pub returns-in_ok-write_messages-in-Some-clause-exact : goal.returns-in_ok-write_messages-in-Some-clause-exact
returns-in_ok-write_messages-in-Some-clause-exact g c = λ honest.
    let s = c.args.snapshot.now.shelf in
    let cut = c.cut-cut.result in
    let before = c.in-Some.before in
    let most = c.saturating_sub-most.result in
    written_as (IsExportOf s (before - cut) most) (IsSpanExport s c.args.span.now) (g.W.Write.contents c.args.output.now)
    (g.W.Write.contents c.write_messages.new.output)
    (λ text own. span_exported s c.args.span.now cut before most text c.cut-cut.ensures
    (sym c.last_before.ensures.value ∙ c.in-Some.is) c.saturating_sub-most.ensures own)
    (c.in_ok-write_messages-in-Some.ensures.exact honest)

pub returns-in_err-write_messages-in-Some-clause-cut : goal.returns-in_err-write_messages-in-Some-clause-cut
returns-in_err-write_messages-in-Some-clause-cut g c = λ honest.
    let s = c.args.snapshot.now.shelf in
    let cut = c.cut-cut.result in
    let before = c.in-Some.before in
    let most = c.saturating_sub-most.result in
    let old = g.W.Write.contents c.args.output.now in
    let new = g.W.Write.contents c.write_messages.new.output in
    let e = (c.in_err-write_messages-in-Some.field-0).0 in
    passed_on c.from_residual.result (of_export e) (WritesUpTo (IsSpanExport s c.args.span.now) c.args.span.now old new)
    c.from_residual.ensures.1
    (ended (IsExportOf s (before - cut) most) (IsSpanExport s c.args.span.now) c.args.span.now old new e
    (λ text own. span_exported s c.args.span.now cut before most text c.cut-cut.ensures
    (sym c.last_before.ensures.value ∙ c.in-Some.is) c.saturating_sub-most.ensures own)
    (c.in_err-write_messages-in-Some.ensures.cut honest))

pub returns-in_ok-write_messages-in-Some-clause-written : goal.returns-in_ok-write_messages-in-Some-clause-written
returns-in_ok-write_messages-in-Some-clause-written g c =
    let s = c.args.snapshot.now.shelf in
    let cut = c.cut-cut.result in
    let before = c.in-Some.before in
    let most = c.saturating_sub-most.result in
    written_as (IsExport (asked_count (before - cut) most (length (kept_of s))))
    (IsCountedExport (cut_in s) (last_in s) c.args.span.now) (g.W.Write.contents c.args.output.now)
    (g.W.Write.contents c.write_messages.new.output)
    (λ text own. span_counted s c.args.span.now cut before most text c.cut-cut.ensures c.in-Some.ensures.least
    (sym c.last_before.ensures.value ∙ c.in-Some.is) c.saturating_sub-most.ensures own)
    c.in_ok-write_messages-in-Some.ensures.written

pub returns-in_err-write_messages-in-Some-clause-some : goal.returns-in_err-write_messages-in-Some-clause-some
returns-in_err-write_messages-in-Some-clause-some g c =
    let s = c.args.snapshot.now.shelf in
    let cut = c.cut-cut.result in
    let before = c.in-Some.before in
    let most = c.saturating_sub-most.result in
    let old = g.W.Write.contents c.args.output.now in
    let new = g.W.Write.contents c.write_messages.new.output in
    let e = (c.in_err-write_messages-in-Some.field-0).0 in
    let counted = IsCountedExport (cut_in s) (last_in s) c.args.span.now in
    passed_on c.from_residual.result (of_export e) (WritesUpTo counted c.args.span.now old new) c.from_residual.ensures.1
    (ended (IsExport (asked_count (before - cut) most (length (kept_of s)))) counted c.args.span.now old new e
    (λ text own. span_counted s c.args.span.now cut before most text c.cut-cut.ensures c.in-Some.ensures.least
    (sym c.last_before.ensures.value ∙ c.in-Some.is) c.saturating_sub-most.ensures own)
    c.in_err-write_messages-in-Some.ensures.some)

pub returns-in_err-write_messages-in-Some-clause-rolled : goal.returns-in_err-write_messages-in-Some-clause-rolled
returns-in_err-write_messages-in-Some-clause-rolled g c =
    let e = (c.in_err-write_messages-in-Some.field-0).0 in
    passed_on c.from_residual.result (of_export e) (IsCutIn c.args.snapshot.now.shelf) c.from_residual.ensures.1
    (no_cut c.args.snapshot.now.shelf e)

pub returns-in_err-write_messages-in-Some-clause-blameless : goal.returns-in_err-write_messages-in-Some-clause-blameless
returns-in_err-write_messages-in-Some-clause-blameless g c = λ honest v is.
    let e = (c.in_err-write_messages-in-Some.field-0).0 in
    passed_on c.from_residual.result (of_export e) IsNoFault c.from_residual.ensures.1
    (no_damage e (c.in_err-write_messages-in-Some.ensures.blameless honest v is))

pub returns-in_err-write_messages-in-Some-clause-asking : goal.returns-in_err-write_messages-in-Some-clause-asking
returns-in_err-write_messages-in-Some-clause-asking g c =
    let e = (c.in_err-write_messages-in-Some.field-0).0 in
    passed_on c.from_residual.result (of_export e) IsOfAsking c.from_residual.ensures.1 (asked_for e)
