use Rattle.std.proofs.Common.{◌≡◌, ℕ, ◌<◌, get_or}
use Rattle.flow_pending.specs.declared.ranges.Range.{Range}
use Rattle.flow_pending.specs.Written.{IsWithin}
use Rattle.flow_pending.proofs.ranges.hull.Given as goal

abbrev pub invariant-others : goal.invariant-others
invariant-others l =
    ((k : ℕ) (other : Range) (place : ℕ) → k < l.other-index → get_or l.ranges k other ≡ other → IsWithin other place
    → IsWithin l.hull place)
    × ((place : ℕ) → IsWithin l.fn.range place → IsWithin l.hull place)
