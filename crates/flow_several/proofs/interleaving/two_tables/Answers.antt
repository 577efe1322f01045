use Rattle.flow_snapshot.proofs.BothRows.{two_tables}
use Rattle.flow_several.proofs.interleaving.two_tables.Goals as goal

pub returns : goal.returns
returns c =
    let made = rw (
      c.as_slice.ensures.value,
      c.as_slice-2.ensures.value,
      c.in_ok-rows.ensures,
      c.in_ok-others.ensures,
    ) at c.in_ok-interleaved.ensures in
    two_tables c.args.from c.args.to c.args.narrow.now c.args.wide.now c.in_ok-interleaved.field-0.items c.requires made
