use Rattle.std.proofs.Common.{◌≡◌, Some, map, sym, subst, ◌∙◌, arith, slice_index_or}
use Rattle.std.specs.FinMap.{entries}
use Rattle.std.specs.List.{AllByRecursion}
use Rattle.std.specs.Map.Iter.{deref_pair}
use Rattle.std.proofs.lemmas.Map.Iter.{rest_more}
use Rattle.flow_measure.specs.Entries.{place_of, map_of}
use Rattle.flow_measure.proofs.Places.{found, within, placed, in_order, one_more}
use Rattle.flow_measure.specs.Entries.{resolved}
use Rattle.flow_measure.proofs.entries.Entries.in_order.Goals as goal

pub loop-key-init : goal.loop-key-init
loop-key-init c =
    let places = c.self.inside.places.entries in
    let whole = c.into_iter-key-iterator.ensures.into_iter_gives ∙ c.iter-key-items.ensures.rest in
    let stand = subst (λ es. AllByRecursion (λ p. place_of p.0 es ≡ Some p.1) places) c.self.view_is
    (placed places c.self.inside.items.items c.self.invariant c.iter-key-items.ensures.found) in
    let all = subst (λ es. map (resolved es) places ≡ entries (map_of es)) c.self.view_is
    (in_order places c.self.inside.items.items c.iter-key-items.ensures.ordered c.self.invariant) in
    record { can = tt; finite = tt; places = rw whole stand; same = rw (c.in_ok-list.ensures.items, whole) all }

pub index-requires : goal.index-requires
index-requires c =
    let more = rest_more deref_pair _ _ _ _ c.in-Some.is c.next.ensures.steps in
    let places = rw more at c.loop-key.invariant.places in
    let at = found c.in-Some.key.now c.self.inside.items.items c.in-Some.place.now
    (subst (λ es. place_of c.in-Some.key.now es ≡ Some c.in-Some.place.now) (sym c.self.view_is) places.0) in
    omega (
      arith,
      within c.self.inside.items.items c.in-Some.place.now (c.in-Some.key.now, at.0) at.1,
      c.self.inside.items.ok.0,
    )

pub loop-key-preserved : goal.loop-key-preserved
loop-key-preserved c =
    let more = rest_more deref_pair _ _ _ _ c.in-Some.is c.next.ensures.steps in
    let places = rw more at c.loop-key.invariant.places in
    let same = rw more at c.loop-key.invariant.same in
    let is = subst (λ es. c.index.result.now ≡ slice_index_or es c.in-Some.place.now c.index.result.now) c.self.view_is
    c.index.ensures in
    record {
      can = tt;
      finite = tt;
      places = places.1;
      same = one_more c.args.self.now c.loop-key.list.items c.push.new.self.items
          (map (resolved c.args.self.now) c.next.new.self) (entries (map_of c.args.self.now)) c.in-Some.key.now
          c.in-Some.place.now c.index.result.now places.0 is c.in_ok-push.ensures.items same;
    }
