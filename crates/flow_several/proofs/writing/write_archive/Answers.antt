use Rattle.std.proofs.Common.{subst, sym}
use Rattle.flow_several.specs.Together.{rows_of_sums, width_of_sums, OneTableFits}
use Rattle.flow_several.specs.Each.{archive_lines, IsLineRefusal}
use Rattle.flow_several.proofs.EachLines.{rows_refused}
use Rattle.flow_several.proofs.writing.write_archive.Goals as goal

pub returns-in-Err-clause-refused : goal.returns-in-Err-clause-refused
returns-in-Err-clause-refused g c =
    let known = g.W.Write.contents c.args.output.now in
    let sums = c.args.one.sums in
    let lines = archive_lines c.args.format c.args.number (width_of_sums sums) (rows_of_sums c.args.from c.args.to sums) in
    subst (λ e. IsLineRefusal c.args.number (OneTableFits sums) lines known known e) (sym c.refused_rows.ensures)
    (rows_refused c.args.number (OneTableFits sums) lines known c.in-Err.error c.in-Err.ensures.made)
