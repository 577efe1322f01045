use Rattle.std.proofs.Common.{◌≡◌, ◌++◌, drop, ap, ◌∙◌, arith}
use Rattle.std.specs.Ordering.{is_le}
use Rattle.std.proofs.lemmas.List.{drop_all}
use Rattle.flow_measure.specs.Query.{interleaved}
use Rattle.flow_snapshot.proofs.BothRows.{all_behind, first_at, no_left, no_right, second_at}
use Rattle.flow_several.proofs.interleaving.interleaved.Goals.{then-rows-test+else-other-others, else-rows-test}
use Rattle.flow_several.proofs.interleaving.interleaved.Goals as goal

pub rows-preserved-then-is_le : goal.rows-preserved-then-is_le
rows-preserved-then-is_le c = record {
  left = omega (arith, c.rows-test.true);
  right = c.rows.invariant.right;
  rest = λ steps enough. first_at c.rows.all.items c.args.rows.now c.args.others.now
      (interleaved steps c.args.rows.now c.args.others.now) c.push.new.self.items c.rows.row c.rows.other
      c.rows-test.true c.if-other-others.true c.is_le.result (c.is_le.ensures ∙ ap is_le c.cmp.ensures)
      (c.rows.invariant.rest steps enough) c.if-is_le.true
      c.in_ok-push.ensures.items;
}

pub rows-preserved : goal.rows-preserved
rows-preserved c = record {
  left = c.rows.invariant.left;
  right = omega (arith, c.if-other-others.true);
  rest = λ steps enough. second_at c.rows.all.items c.args.rows.now c.args.others.now
      (interleaved steps c.args.rows.now c.args.others.now) c.push-else-is_le.new.self.items c.rows.row c.rows.other
      c.rows-test.true c.if-other-others.true c.is_le.result (c.is_le.ensures ∙ ap is_le c.cmp.ensures)
      (c.rows.invariant.rest steps enough) c.if-is_le.false
      c.in_ok-push-2.ensures.items;
}

pub returns : goal.returns
returns c = λ steps enough.
    let i = c.rows.row in
    let j = c.rows.other in
    let rows = c.args.rows.now in
    let others = c.args.others.now in
    let target = interleaved steps rows others in
    let rest = c.rows.invariant.rest steps enough in
    let whole : (c.rows.all.items ++ drop i rows) ++ drop j others ≡ target = elim c.rows-test.branch [
      | then-rows-test+else-other-others w ↦
          no_right c.rows.all.items (drop i rows) (drop j others) target (drop_all j others w.if-other-others.false)
          rest
      | else-rows-test w ↦
          no_left c.rows.all.items (drop i rows) (drop j others) target (drop_all i rows w.rows-test.false) rest
    ] in
    c.in_ok-extend_from_slice-2.ensures.items
    ∙ ap (λ xs. c.extend_from_slice.new.self.items ++ xs) (all_behind j others)
    ∙ ap (λ xs. xs ++ drop j others) (c.in_ok-extend_from_slice.ensures.items
    ∙ ap (λ xs. c.rows.all.items ++ xs) (all_behind i rows))
    ∙ whole
