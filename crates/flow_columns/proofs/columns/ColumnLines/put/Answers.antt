use Rattle.std.proofs.Common.{sym, subst}
use Rattle.flow_codec.specs.Raw.{raw}
use Rattle.flow_report.specs.Records.{Started}
use Rattle.flow_report.specs.Telling.{TellsFront}
use Rattle.flow_report.proofs.Joining.{none_told}
use Rattle.flow_columns.specs.Lines.{cells_line}
use Rattle.flow_columns.proofs.Making.{all_before, cut_before, on_err}
use Rattle.flow_columns.proofs.columns.ColumnLines.put.Goals as goal
use Rattle.flow_columns.proofs.columns.ColumnLines.put.Goals.{then-len-ge-MOST_HELD+in_ok-flush, else-len-ge-MOST_HELD}

pub returns-in_err-flush-clause-front : goal.returns-in_err-flush-clause-front
returns-in_err-flush-clause-front g c =
    on_err c.from_residual.result _ _ c.from_residual.ensures.1
    (cut_before _ _ c.args.self.now.text.items _ c.in_err-flush.ensures.front)

pub returns-in_err-push_line-clause-front : goal.returns-in_err-push_line-clause-front
returns-in_err-push_line-clause-front g c =
    let contents = g.W.Write.contents in
    let old = contents c.args.output.now in
    let held = c.args.self.now.text.items in
    let s : Started = (c.args.start, (c.args.header.now, raw c.args.id c.args.definition.now c.args.octets.now)) in
    let line = cells_line c.args.self.now.times c.args.self.now.columns.items s in
    on_err c.from_residual-in_err-push_line.result _ _ c.from_residual-in_err-push_line.ensures.1
    (elim c.if-len-ge-MOST_HELD.branch [
      | then-len-ge-MOST_HELD+in_ok-flush w ↦ subst (λ o. TellsFront old held (contents o) line) (sym w.output-is)
          (all_before old (contents w.flush.new.output) held line w.in_ok-flush.ensures.all)
      | else-len-ge-MOST_HELD w ↦ subst (λ o. TellsFront old held (contents o) line) (sym w.output-is)
          (none_told old held line)
    ])
