use Rattle.std.proofs.Common.{◌≡◌, ◌+◌, ◌*◌, ◌≤◌, take}
use Rattle.std.specs.Prelude.{sum_by, if◌then◌else◌}
use Rattle.flow_codec.specs.Layout.{specifier_size}
use Rattle.flow_codec.proofs.templates.size_of.Given as goal

abbrev pub invariant-loop-id : goal.invariant-loop-id
invariant-loop-id l = (l.size ≡ (if l.options then 6 else 4) + sum_by specifier_size (take l.id-index l.fields))
    × (l.size ≤ 6 + 8 * l.id-index)
