use Rattle.std.proofs.Common.{◌≢◌, ◌∙◌, sym}
use Rattle.flow_snapshot.proofs.BothRows.{two_tables}
use Rattle.flow_snapshot.proofs.interleaving.rows_within.Goals as goal

pub returns-then-width-clause-made : goal.returns-then-width-clause-made
returns-then-width-clause-made c =
    let made = rw (
      c.as_slice.ensures.value,
      c.as_slice-then-width.ensures.value,
      c.in_ok-rows.ensures,
      c.in_ok-others.ensures,
    ) at c.in_ok-interleaved.ensures in
    let differ : c.args.narrow.now.width ≢ c.args.wide.now.width = λ same. c.if-width.true
    (c.width.ensures.width ∙ same ∙ sym c.width-2.ensures.width) in
    two_tables c.args.from c.args.to c.args.narrow.now c.args.wide.now c.in_ok-interleaved.field-0.items differ made
