use Rattle.std.proofs.Common.{◌∙◌, ◌++◌, List, ℕ, Option, ap, append_assoc, sym}
use Rattle.std.specs.Prelude.{map}
use Rattle.std.specs.List.{flat_map, join_with_byte}
use Rattle.std.proofs.lemmas.Result.{on_ok_weaker}
use Rattle.flow_codec.specs.Raw.{raw}
use Rattle.flow_report.specs.Records.{Started}
use Rattle.flow_columns.specs.declared.column.Column.{Column}
use Rattle.flow_columns.specs.Lines.{after_comma, cell_or_none}
use Rattle.flow_columns.proofs.Making.{cells_joined}
use Rattle.flow_columns.proofs.line.push_cells.Goals as goal

pub returns : goal.returns
returns c =
    let s : Started = (c.args.start, (c.args.header.now, raw c.args.id c.args.definition.now c.args.octets.now)) in
    let old = c.args.text.now.items in
    let first = c.in-Some.first.now in
    let others = c.in-Some.others.now in
    on_ok_weaker c.push_others.result
    (λ e. e ∙ ap (λ (t : List ℕ). t ++ flat_map (after_comma c.args.times s) others) c.in_ok-push_cell.ensures
    ∙ append_assoc old (cell_or_none c.args.times s first) (flat_map (after_comma c.args.times s) others)
    ∙ ap (λ (t : List ℕ). old ++ t) (sym (cells_joined c.args.times s first others))
    ∙ ap (λ (l : List (Option Column)). old ++ join_with_byte 44 (map (cell_or_none c.args.times s) l))
    (sym c.in-Some.ensures.cases.0)) c.push_others.ensures
