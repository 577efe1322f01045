use Rattle.std.proofs.Common.{rules, arith, ◌≡◌, ◌∙◌, ◌++◌, ◌∷◌, [], ap, length}
use Rattle.std.specs.Prelude.{map, vec_len}
use Rattle.std.specs.List.{join_with_byte}
use Rattle.flow_codec.specs.Raw.{raw}
use Rattle.flow_report.specs.Records.{Started}
use Rattle.flow_columns.specs.Lines.{cell_or_none, cells_line}
use Rattle.flow_columns.proofs.Making.{empty_line, whole_line}
use Rattle.flow_columns.proofs.line.push_line.Goals as goal
use Rattle.flow_columns.proofs.line.push_line.Goals.{then-len-before+in_ok-extend_from_slice, else-len-before}

pub returns : goal.returns
unfolding cells_line
returns c =
    let s : Started = (c.args.start, (c.args.header.now, raw c.args.id c.args.definition.now c.args.octets.now)) in
    let old = c.args.text.now.items in
    let mid = c.push_cells.new.text.items in
    let cells = join_with_byte 44 (map (cell_or_none c.args.times s) c.args.columns.now) in
    let before : vec_len c.args.text.now ≡ length old = search rules in
    let now : vec_len c.push_cells.new.text ≡ length mid = search rules in
    elim c.if-len-before.branch [
      | then-len-before+in_ok-extend_from_slice w ↦
          empty_line old cells mid w.extend_from_slice.new.self.items c.push.new.self.items c.in_ok-push_cells.ensures
          (omega (arith, w.if-len-before.true, c.len.ensures, c.len-before.ensures, before, now))
          w.in_ok-extend_from_slice.ensures.items
          (c.in_ok-push.ensures.items ∙ ap (λ v. v.items ++ 10 ∷ []) w.text-is)
      | else-len-before w ↦
          whole_line old cells mid c.push.new.self.items c.in_ok-push_cells.ensures
          (λ same. w.if-len-before.false (omega (arith, same, c.len.ensures, c.len-before.ensures, before, now)))
          (c.in_ok-push.ensures.items ∙ ap (λ v. v.items ++ 10 ∷ []) w.text-is)
    ]
