use Rattle.std.proofs.Common.{ap, ◌∙◌}
use Rattle.std.specs.FinMap.{entries}
use Rattle.flow_measure.specs.Entries.{map_of}
use Rattle.flow_measure.proofs.Places.{in_order, placed}
use Rattle.flow_measure.proofs.entries.Entries.walk.Goals as goal

pub invariant_of-result : goal.invariant_of-result
invariant_of-result c =
    rw (c.iter.ensures.rest, c.as_slice.ensures.value)
    (placed c.self.inside.places.entries c.self.inside.items.items c.self.invariant c.iter.ensures.found)

pub returns : goal.returns
returns c =
    let all = in_order c.self.inside.places.entries c.self.inside.items.items c.iter.ensures.ordered c.self.invariant in
    let same = ap (λ es. entries (map_of es)) c.self.view_is in
    rw (c.iter.ensures.rest, c.as_slice.ensures.value) (all ∙ same)
