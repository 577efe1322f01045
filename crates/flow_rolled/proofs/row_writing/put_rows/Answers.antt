use Rattle.std.proofs.Common.{◌<◌, ◌⊎◌, inl, inr, sym, ◌∙◌, subst}
use Rattle.flow_rolled.specs.Rows.{most, further}
use Rattle.flow_rolled.proofs.WrittenRows.{row_put, last_put, fewer_left}
use Rattle.flow_rolled.proofs.row_writing.put_rows.Goals as goal
use Rattle.flow_rolled.proofs.row_writing.put_rows.Goals.{then-left-gt-MOST, else-left-gt-MOST+then-left-gt-MOST-2}

pub loop-left-smaller : goal.loop-left-smaller
loop-left-smaller c =
    let s = c.loop-left.left in
    let some : (most < s.octets) ⊎ (most < s.packets) =
    elim c.if-left-gt-MOST.branch [
      | then-left-gt-MOST w ↦
          inl w.if-left-gt-MOST.true
      | else-left-gt-MOST+then-left-gt-MOST-2 w ↦ inr w.if-left-gt-MOST-2.true
    ] in
    subst (λ t. further t < further s) (sym c.left_of-left.ensures) (fewer_left s some)

pub loop-left-preserved : goal.loop-left-preserved
loop-left-preserved c =
    let s = c.loop-left.left in
    let some : (most < s.octets) ⊎ (most < s.packets) =
    elim c.if-left-gt-MOST.branch [
      | then-left-gt-MOST w ↦
          inl w.if-left-gt-MOST.true
      | else-left-gt-MOST+then-left-gt-MOST-2 w ↦ inr w.if-left-gt-MOST-2.true
    ] in
    row_put c.args.key s c.left_of-left.result c.loop-left.rows.items _ c.row_of.result some c.in_ok-push.ensures.items
    c.row_of.ensures c.left_of-left.ensures ∙ c.loop-left.invariant

pub returns : goal.returns
returns c = last_put c.args.key c.loop-left.left c.loop-left.rows.items _ c.row_of-2.result c.if-left-gt-MOST.false
    c.if-left-gt-MOST-2.false c.in_ok-push-2.ensures.items c.row_of-2.ensures ∙ c.loop-left.invariant
