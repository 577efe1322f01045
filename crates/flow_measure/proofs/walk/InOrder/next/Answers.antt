use Rattle.std.proofs.Common.{◌<◌, length, sym, ap, ◌∙◌, arith, map}
use Rattle.std.specs.Map.Iter.{deref_pair}
use Rattle.std.proofs.lemmas.Map.Iter.{rest_more}
use Rattle.flow_measure.specs.Entries.{resolved}
use Rattle.flow_measure.proofs.Places.{found, within}
use Rattle.flow_measure.proofs.walk.InOrder.next.Goals as goal

pub offset_bounds-self-inside-place : goal.offset_bounds-self-inside-place
offset_bounds-self-inside-place c =
    let more = rest_more deref_pair _ _ _ _ c.in-Some.is c.next.ensures.steps in
    let places = rw more at c.self.invariant in
    let at = found c.in-Some.key.now c.self.inside.items.now c.in-Some.place.now places.0 in
    let less : c.in-Some.place.now < length c.self.inside.items.now =
    within c.self.inside.items.now c.in-Some.place.now (c.in-Some.key.now, at.0) at.1 in
    omega (arith, less, c.self.told)

pub bounds-self-inside-place : goal.bounds-self-inside-place
bounds-self-inside-place c =
    let more = rest_more deref_pair _ _ _ _ c.in-Some.is c.next.ensures.steps in
    let places = rw more at c.self.invariant in
    let at = found c.in-Some.key.now c.self.inside.items.now c.in-Some.place.now places.0 in
    omega (arith, within c.self.inside.items.now c.in-Some.place.now (c.in-Some.key.now, at.0) at.1)

pub returns : goal.returns
unfolding resolved
returns c =
    let more = rest_more deref_pair _ _ _ _ c.in-Some.is c.next.ensures.steps in
    sym c.self.view_is ∙ ap (map (resolved c.self.inside.items.now)) more
