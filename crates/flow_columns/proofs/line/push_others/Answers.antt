use Rattle.std.proofs.Common.{◌∙◌, ◌++◌, List, ℕ, ap, append-nil, sym}
use Rattle.flow_codec.specs.Raw.{raw}
use Rattle.flow_report.specs.Records.{Started}
use Rattle.flow_report.proofs.Listed.{next_line, no_line}
use Rattle.flow_columns.specs.Lines.{after_comma}
use Rattle.flow_columns.proofs.Making.{cell_more}
use Rattle.flow_columns.proofs.line.push_others.Goals as goal

pub loop-column-preserved : goal.loop-column-preserved
loop-column-preserved c =
    let s : Started = (c.args.start, (c.args.header.now, raw c.args.id c.args.definition.now c.args.octets.now)) in
    let next = next_line (after_comma c.args.times s) c.args.columns.now c.loop-column.column-index _
    c.loop-column-test.true in
    cell_more c.loop-column.text.items c.push.new.self.items c.push_cell.new.text.items _ _ _ c.in_ok-push.ensures.items
    c.in_ok-push_cell.ensures (ap (λ (t : List ℕ). c.loop-column.text.items ++ t) (sym next) ∙ c.loop-column.invariant)

pub returns : goal.returns
returns c =
    let s : Started = (c.args.start, (c.args.header.now, raw c.args.id c.args.definition.now c.args.octets.now)) in
    let text = c.loop-column.text.items in
    sym (append-nil text)
    ∙ ap (λ (t : List ℕ). text ++ t)
    (sym (no_line (after_comma c.args.times s) c.args.columns.now c.loop-column.column-index c.loop-column-test.false))
    ∙ c.loop-column.invariant
