use Rattle.std.proofs.Common.{◌≢◌, refl}
use Rattle.flow_archive.proofs.SourceSums.{passed_on as fault_passed_on}
use Rattle.flow_disk.proofs.Results.{passed_on}
use Rattle.flow_manifest.specs.declared.error.OpenError.TheVariants as opening
use Rattle.flow_refusals.specs.declared.read_refusal.ReadRefusal.TheVariants as query
use Rattle.flow_snapshot.specs.Totals.{SumsFit}
use Rattle.flow_report.specs.ArchiveLines.{rows_text}
use Rattle.flow_commands.specs.declared.archive_refusal.ArchiveRefusal.TheVariants as refusal
use Rattle.flow_commands.specs.Archives.{of_text}
use Rattle.flow_commands.specs.Asking.{AreRowsIn, TellsNoLines, WritesOrNot, totals_lines}
use Rattle.flow_commands.proofs.OpenedAnswers.{cut_told, cut_written, none_told, none_written}
use Rattle.flow_commands.proofs.Causes.{other_than, text_is_no_opening, text_is_no_query}
use Rattle.flow_commands.proofs.totalling.total.Goals as goal

pub returns-in_err-found-clause-refused : goal.returns-in_err-found-clause-refused
returns-in_err-found-clause-refused g c h reads stands =
    let output = g.W.Write.contents c.args.output.now in
    passed_on c.from_residual.result (c.in_err-found.field-0).0
    (λ e. TellsNoLines (totals_lines c.args.format c.args.span.now) SumsFit reads output output e) c.from_residual.ensures.1
    (none_told (totals_lines c.args.format c.args.span.now) SumsFit reads output (c.in_err-found.field-0).0
    (c.in_err-found.ensures.refused h reads stands))

pub returns-in_err-found-clause-kept : goal.returns-in_err-found-clause-kept
returns-in_err-found-clause-kept g c =
    let output = g.W.Write.contents c.args.output.now in
    passed_on c.from_residual.result (c.in_err-found.field-0).0 (λ e. WritesOrNot (AreRowsIn c.args.format c.args.span.now) e output output)
    c.from_residual.ensures.1
    (none_written (AreRowsIn c.args.format c.args.span.now) output (c.in_err-found.field-0).0 c.in_err-found.ensures.unwritten)

pub returns-in_err-found-clause-opened : goal.returns-in_err-found-clause-opened
returns-in_err-found-clause-opened g c =
    passed_on c.from_residual.result (c.in_err-found.field-0).0 (λ e. e ≢ refusal.Opening opening.Fault)
    c.from_residual.ensures.1 c.in_err-found.ensures.opened

pub returns-in_err-found-clause-cause : goal.returns-in_err-found-clause-cause
returns-in_err-found-clause-cause g c =
    let e = (c.in_err-found.field-0).0 in
    fault_passed_on (refusal.Query query.Fault) (refusal.Query query.Fault) e e _ _ _ c.from_residual.result
    c.in_err-found.ensures.cause refl c.from_residual.ensures.1 (λ is. is) (λ is. is)

pub returns-in_err-write_rows-clause-refused : goal.returns-in_err-write_rows-clause-refused
returns-in_err-write_rows-clause-refused g c h reads stands =
    let found = c.in_ok-found.found in
    passed_on c.from_residual-in_err-write_rows.result (of_text (c.in_err-write_rows.field-0).0)
    (λ e. TellsNoLines (totals_lines c.args.format c.args.span.now) SumsFit reads (g.W.Write.contents c.args.output.now)
    (g.W.Write.contents c.write_rows.new.output) e) c.from_residual-in_err-write_rows.ensures.1
    (cut_told (totals_lines c.args.format c.args.span.now) SumsFit reads _ _
    (rows_text c.args.format found.width found.rows.items)
    (c.in_ok-found.ensures.lines h reads stands c.args.format) (c.in_err-write_rows.field-0).0
    (rw c.as_slice.ensures.value at c.in_err-write_rows.ensures.cut))

pub returns-in_err-write_rows-clause-kept : goal.returns-in_err-write_rows-clause-kept
returns-in_err-write_rows-clause-kept g c =
    let found = c.in_ok-found.found in
    passed_on c.from_residual-in_err-write_rows.result (of_text (c.in_err-write_rows.field-0).0)
    (λ e. WritesOrNot (AreRowsIn c.args.format c.args.span.now) e (g.W.Write.contents c.args.output.now)
    (g.W.Write.contents c.write_rows.new.output))
    c.from_residual-in_err-write_rows.ensures.1
    (cut_written (AreRowsIn c.args.format c.args.span.now) _ _ (rows_text c.args.format found.width found.rows.items)
    (found.width, found.rows.items, c.in_ok-found.ensures.within, refl)
    (c.in_err-write_rows.field-0).0 (rw c.as_slice.ensures.value at c.in_err-write_rows.ensures.cut))

pub returns-in_err-write_rows-clause-opened : goal.returns-in_err-write_rows-clause-opened
returns-in_err-write_rows-clause-opened g c =
    passed_on c.from_residual-in_err-write_rows.result (of_text (c.in_err-write_rows.field-0).0)
    (λ e. e ≢ refusal.Opening opening.Fault) c.from_residual-in_err-write_rows.ensures.1
    (text_is_no_opening (c.in_err-write_rows.field-0).0)

pub returns-in_err-write_rows-clause-cause : goal.returns-in_err-write_rows-clause-cause
returns-in_err-write_rows-clause-cause g c =
    let e = (c.in_err-write_rows.field-0).0 in
    other_than (refusal.Query query.Fault) (of_text e) _ _ c.from_residual-in_err-write_rows.result
    c.from_residual-in_err-write_rows.ensures.1 (text_is_no_query e) c.in_ok-found.ensures.cause.done

pub returns-clause-told : goal.returns-clause-told
returns-clause-told g c h reads stands =
    let found = c.in_ok-found.found in (
      rows_text c.args.format found.width found.rows.items,
      c.in_ok-found.ensures.lines h reads stands c.args.format,
      rw c.as_slice.ensures.value at c.in_ok-write_rows.ensures.all,
    )

pub returns-clause-written : goal.returns-clause-written
returns-clause-written g c =
    let found = c.in_ok-found.found in (
      rows_text c.args.format found.width found.rows.items,
      (found.width, found.rows.items, c.in_ok-found.ensures.within, refl),
      rw c.as_slice.ensures.value at c.in_ok-write_rows.ensures.all,
    )
