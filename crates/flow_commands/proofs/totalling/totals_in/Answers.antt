use Rattle.std.proofs.Common.{[], refl}
use Rattle.std.specs.Prelude.{IfErr}
use Rattle.flow_disk.proofs.Results.{if_err_by, on_ok_by}
use Rattle.flow_report.specs.ArchiveLines.{rows_text}
use Rattle.flow_commands.specs.Asking.{AreRows, AreRowsIn, Writes, WritesOrNot}
use Rattle.flow_commands.proofs.OpenedAnswers.{away_kept}
use Rattle.flow_commands.proofs.Spans.{no_rows_in, not_weaker, rows_weaker, writes_weaker}
use Rattle.flow_commands.proofs.totalling.totals_in.Goals as goal

pub returns-clause-written : goal.returns-clause-written
returns-clause-written g c =
    let old = g.W.Write.contents c.args.output.now in
    let new = g.W.Write.contents c.write_sums.new.output in
    let within = AreRowsIn c.args.format c.args.span.now in
    on_ok_by c.write_sums.result (Writes within old new) (Writes (AreRows c.args.format) old new)
    (writes_weaker within (AreRows c.args.format) (rows_weaker c.args.format c.args.span.now) old new)
    c.write_sums.ensures.within

pub returns-clause-kept : goal.returns-clause-kept
returns-clause-kept g c =
    let old = g.W.Write.contents c.args.output.now in
    let new = g.W.Write.contents c.write_sums.new.output in
    let within = AreRowsIn c.args.format c.args.span.now in
    if_err_by c.write_sums.result (λ e. WritesOrNot within e old new) (λ e. WritesOrNot (AreRows c.args.format) e old new)
    (not_weaker within (AreRows c.args.format) (rows_weaker c.args.format c.args.span.now) old new)
    c.write_sums.ensures.kept_within

pub returns-in_err-view-clause-kept_within : goal.returns-in_err-view-clause-kept_within
returns-in_err-view-clause-kept_within g c =
    let output = g.W.Write.contents c.args.output.now in
    let within = AreRowsIn c.args.format c.args.span.now in
    let kept : IfErr c.from_residual.result (λ e. WritesOrNot within e output output) =
    away_kept c.from_residual.result within output (rows_text c.args.format 0 [])
    (0, [], no_rows_in c.args.span.now, refl) in
    kept

pub returns-in_err-view-clause-kept : goal.returns-in_err-view-clause-kept
returns-in_err-view-clause-kept g c =
    let output = g.W.Write.contents c.args.output.now in
    let kept : IfErr c.from_residual.result (λ e. WritesOrNot (AreRows c.args.format) e output output) =
    away_kept c.from_residual.result (AreRows c.args.format) output (rows_text c.args.format 0 []) (0, [], refl) in
    kept
