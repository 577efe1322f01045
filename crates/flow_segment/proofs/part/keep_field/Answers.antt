use Rattle.std.proofs.Common.{arith, take, drop}
use Rattle.flow_codec.proofs.NumberLaws.{IsBytes-drop, IsBytes-take, wide16}
use Rattle.flow_segment.proofs.part.keep_field.Goals as goal

pub returns : goal.returns
returns c =
    let xs = c.args.octets.now in
    wide16.below (take 2 (drop 2 xs))
    (IsBytes-take 2 (drop 2 xs) (IsBytes-drop 2 xs (λ i. omega (arith, c.type_inv.octets i))))
