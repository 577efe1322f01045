use Rattle.std.proofs.Common.{[], ◌∙◌, refl, ap, arith, length, List, ℕ, ◌++◌}
use Rattle.std.specs.List.{flat_map}
use Rattle.std.proofs.lemmas.List.{append-nil}
use Rattle.std.proofs.lemmas.Result.{err_from_is_err_and}
use Rattle.flow_report.specs.ArchiveLines.{row_line, row_names, rows_text}
use Rattle.flow_report.specs.Formats.{heading}
use Rattle.flow_report.proofs.Joining.{goes_on, is_cut, is_told, all_written, front_written, begins_after}
use Rattle.flow_report.proofs.Joining.{tells_then, stops_then}
use Rattle.flow_report.proofs.Listed.{next_line, no_line}
use Rattle.flow_report.proofs.rows.tell_rows.Goals as goal

pub loop-row-init : goal.loop-row-init
loop-row-init g c =
    let held = c.put_rows_heading.ensures.text
    ∙ ap (λ (t : List ℕ). t ++ heading c.args.format.layout row_names) c.requires.none in (
      begins_after _ c.put_rows_heading.new.line.items _ _
          (flat_map (row_line c.args.format c.args.usual) c.args.rows.now) held refl,
      omega (arith, c.put_rows_heading.ensures.len, ap length c.requires.none),
      omega (arith, c.requires.room, c.put_rows_heading.ensures.room),
    )

pub loop-row-preserved : goal.loop-row-preserved
loop-row-preserved g c =
    let next = next_line (row_line c.args.format c.args.usual) c.args.rows.now c.loop-row.row-index _
    c.loop-row-test.true in (
      goes_on _ _ _ [] _ _ (rows_text c.args.format c.args.usual c.args.rows.now) _ _ _
          c.loop-row.invariant.0 next c.in_ok-put_row.ensures.told,
      c.in_ok-put_row.ensures.few,
      c.in_ok-put_row.ensures.room,
    )

pub returns-in_err-put_row-clause-front : goal.returns-in_err-put_row-clause-front
returns-in_err-put_row-clause-front g c =
    let p = err_from_is_err_and c.from_residual.result c.from_residual.ensures.1 in
    let next = next_line (row_line c.args.format c.args.usual) c.args.rows.now c.loop-row.row-index _
    c.loop-row-test.true in
    let cut = is_cut _ _ _ [] _ (rows_text c.args.format c.args.usual c.args.rows.now) _ _ _
    c.loop-row.invariant.0 next c.in_err-put_row.ensures.front in
    rw p.1 (front_written _ _ (rows_text c.args.format c.args.usual c.args.rows.now) cut)

pub returns-in_err-flush-clause-front : goal.returns-in_err-flush-clause-front
returns-in_err-flush-clause-front g c =
    let p = err_from_is_err_and c.from_residual-in_err-flush.result c.from_residual-in_err-flush.ensures.1 in
    let all = is_told _ _ [] _ (rows_text c.args.format c.args.usual c.args.rows.now) _
    c.loop-row.invariant.0
    (no_line (row_line c.args.format c.args.usual) c.args.rows.now c.loop-row.row-index c.loop-row-test.false) in
    let cut = stops_then _ _ _ [] _ (rows_text c.args.format c.args.usual c.args.rows.now) [] all
    c.in_err-flush.ensures.front in
    rw p.1 (front_written _ _ (rows_text c.args.format c.args.usual c.args.rows.now)
    (rw (append-nil (rows_text c.args.format c.args.usual c.args.rows.now)) at cut))

pub returns-clause-all : goal.returns-clause-all
returns-clause-all g c =
    let all = is_told _ _ [] _ (rows_text c.args.format c.args.usual c.args.rows.now) _
    c.loop-row.invariant.0
    (no_line (row_line c.args.format c.args.usual) c.args.rows.now c.loop-row.row-index c.loop-row-test.false) in
    let told = tells_then _ _ _ [] _ _ (rows_text c.args.format c.args.usual c.args.rows.now) [] all
    c.in_ok-flush.ensures.told in
    all_written _ _ _ (rows_text c.args.format c.args.usual c.args.rows.now)
    (rw (append-nil (rows_text c.args.format c.args.usual c.args.rows.now)) at told) c.in_ok-flush.ensures.none
