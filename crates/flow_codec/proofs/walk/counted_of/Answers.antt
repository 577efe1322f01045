use Rattle.flow_codec.proofs.Extents.{counted_long}
use Rattle.flow_codec.proofs.WholeRecords.{first_and_rest}
use Rattle.flow_codec.proofs.walk.counted_of.Goals as goal

pub returns : goal.returns
returns c =
    rw (counted_long c.args.at c.args.octets.now _ _ c.in_ok-len.len c.in_ok-len.field-0-1.now
    (first_and_rest c.args.octets.now c.in-len1-up.len_at_least) c.if-first-lt255.false c.in_ok-len.ensures.exact)
    c.octets_at-2.ensures
