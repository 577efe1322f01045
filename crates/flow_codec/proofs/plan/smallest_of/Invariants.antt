use Rattle.std.proofs.Common.{◌≡◌, ◌≤◌, ◌*◌, take}
use Rattle.std.specs.Prelude.{sum_by}
use Rattle.flow_codec.specs.Layout.{least_length}
use Rattle.flow_codec.proofs.plan.smallest_of.Given as goal

abbrev pub invariant-loop-len : goal.invariant-loop-len
invariant-loop-len l = (l.octets ≡ sum_by (λ f. least_length f.1) (take l.len-index l.fields))
    × (l.octets ≤ 65535 * l.len-index)
