use Rattle.std.proofs.Common.{[], ap, sym, arith, ◌∙◌, ℕ, List, ◌++◌, length, map}
use Rattle.std.specs.List.{flat_map}
use Rattle.std.specs.FinMap.{entries}
use Rattle.std.proofs.lemmas.List.{append-nil}
use Rattle.std.proofs.lemmas.Result.{err_from_is_err_and}
use Rattle.flow_measure.specs.declared.rows.Key.{Key}
use Rattle.flow_measure.specs.declared.rows.Sums.{Sums}
use Rattle.flow_measure.specs.Sums.{table_row}
use Rattle.flow_report.specs.declared.format.Format.{Format}
use Rattle.flow_report.specs.ArchiveLines.{row_line, row_names}
use Rattle.flow_report.specs.Formats.{heading}
use Rattle.flow_report.specs.Measure.{lines_of}
use Rattle.flow_report.proofs.Joining.{goes_on, is_cut, is_told, all_written, front_written, tells_then, stops_then}
use Rattle.flow_report.proofs.Joining.{begins_after}
use Rattle.flow_report.proofs.measuring.write_totals.Goals as goal

-- the lines of sums over intervals of this width
abbrev lines_from : Format → ℕ → List (Key × Sums) → List ℕ
lines_from format width sums = flat_map (row_line format width) (map (table_row width) sums)

pub rows-init : goal.rows-init
rows-init g c =
    let held = c.put_rows_heading.ensures.text
    ∙ ap (λ (t : List ℕ). t ++ heading c.args.format.layout row_names) c.requires.none in
    let walk = ap (lines_from c.args.format c.width-width.result) c.walk-walk.ensures
    ∙ ap (λ (w : ℕ). lines_from c.args.format w (entries c.args.rows.now.sums)) c.width-width.ensures.width in (
      begins_after _ c.put_rows_heading.new.line.items _ (lines_of c.args.format c.args.rows.now)
          (lines_from c.args.format c.width-width.result c.walk-walk.result) held
          (sym (ap (λ (l : List ℕ). heading c.args.format.layout row_names ++ l) walk)),
      omega (arith, c.put_rows_heading.ensures.len, ap length c.requires.none),
      omega (arith, c.requires.room, c.put_rows_heading.ensures.room),
    )

pub rows-preserved : goal.rows-preserved
rows-preserved g c =
    let next = ap (lines_from c.args.format c.width-width.result) c.in-Some.ensures in (
      goes_on _ _ _ [] _ _ (lines_of c.args.format c.args.rows.now) _ _ _ c.rows.invariant.0 next
          c.in_ok-put_row.ensures.told,
      c.in_ok-put_row.ensures.few,
      c.in_ok-put_row.ensures.room,
    )

pub returns-in_err-put_row-clause-front : goal.returns-in_err-put_row-clause-front
returns-in_err-put_row-clause-front g c =
    let p = err_from_is_err_and c.from_residual.result c.from_residual.ensures.1 in
    let next = ap (lines_from c.args.format c.width-width.result) c.in-Some.ensures in
    let cut = is_cut _ _ _ [] _ (lines_of c.args.format c.args.rows.now) _ _ _ c.rows.invariant.0 next
    c.in_err-put_row.ensures.front in
    rw p.1 (front_written _ _ (lines_of c.args.format c.args.rows.now) cut)

pub returns-in_err-flush-clause-front : goal.returns-in_err-flush-clause-front
returns-in_err-flush-clause-front g c =
    let p = err_from_is_err_and c.from_residual-in_err-flush.result c.from_residual-in_err-flush.ensures.1 in
    let all = is_told _ _ [] _ (lines_of c.args.format c.args.rows.now) _ c.rows.invariant.0
    (ap (lines_from c.args.format c.width-width.result) (c.in_default.ensures).0) in
    let cut = stops_then _ _ _ [] _ (lines_of c.args.format c.args.rows.now) [] all
    c.in_err-flush.ensures.front in
    rw p.1 (front_written _ _ (lines_of c.args.format c.args.rows.now)
    (rw (append-nil (lines_of c.args.format c.args.rows.now)) at cut))

pub returns-clause-all : goal.returns-clause-all
returns-clause-all g c =
    let all = is_told _ _ [] _ (lines_of c.args.format c.args.rows.now) _ c.rows.invariant.0
    (ap (lines_from c.args.format c.width-width.result) (c.in_default.ensures).0) in
    let told = tells_then _ _ _ [] _ _ (lines_of c.args.format c.args.rows.now) [] all
    c.in_ok-flush.ensures.told in
    all_written _ _ _ (lines_of c.args.format c.args.rows.now)
    (rw (append-nil (lines_of c.args.format c.args.rows.now)) at told) c.in_ok-flush.ensures.none
