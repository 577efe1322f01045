use Rattle.std.proofs.Common.{◌≡◌, Some, sym, ap, subst, ◌∙◌, slice_get, slice_set}
use Rattle.std.specs.FinMap.{get, insert}
use Rattle.flow_measure.specs.declared.rows.Key.{Key}
use Rattle.flow_measure.specs.declared.rows.Sums.{Sums}
use Rattle.flow_measure.specs.Sums.{Fits, counted, plus}
use Rattle.flow_measure.specs.Entries.{map_of, added_to}
use Rattle.flow_measure.proofs.Places.{ArePlaces, read, replaced, increased}
use Rattle.flow_measure.proofs.entries.Entries.count.Goals as goal

pub invariant_of-self : goal.invariant_of-self
invariant_of-self c =
    let items = c.self.inside.items.items in
    let at = subst (λ es. slice_get es c.args.place ≡ Some (c.args.key.now, c.requires.0)) (sym c.self.view_is)
    c.requires.1 in
    let here = c.index_mut.ensures.value
    ∙ read items c.args.place c.index_mut.result.now (c.args.key.now, c.requires.0) at in
    subst (λ (e : Key × Sums). ArePlaces c.self.inside.places.entries
    (slice_set items c.args.place (e.0, c.count.new.self)))
    (sym here)
    (replaced c.self.inside.places.entries items c.args.place c.args.key.now c.requires.0 c.count.new.self at
    c.self.invariant)

pub returns-clause-fits : goal.returns-clause-fits
returns-clause-fits c =
    let items = c.self.inside.items.items in
    let flow = counted c.args.flow.now in
    let at = subst (λ es. slice_get es c.args.place ≡ Some (c.args.key.now, c.requires.0)) (sym c.self.view_is)
    c.requires.1 in
    let here = c.index_mut.ensures.value
    ∙ read items c.args.place c.index_mut.result.now (c.args.key.now, c.requires.0) at in
    let sum : c.count.new.self ≡ plus c.requires.0 flow =
    c.count.ensures.sum ∙ ap (λ (e : Key × Sums). plus e.1 flow) here in
    let more = increased items c.args.place c.args.key.now c.requires.0 flow c.count.new.self c.self.invariant.0 at
    (subst Fits sum c.count.ensures.fit) sum in
    subst (λ es. Fits (added_to (get (map_of es) c.args.key.now) flow)) c.self.view_is more.0

pub returns-clause-adds : goal.returns-clause-adds
returns-clause-adds c =
    let items = c.self.inside.items.items in
    let flow = counted c.args.flow.now in
    let at = subst (λ es. slice_get es c.args.place ≡ Some (c.args.key.now, c.requires.0)) (sym c.self.view_is)
    c.requires.1 in
    let here = c.index_mut.ensures.value
    ∙ read items c.args.place c.index_mut.result.now (c.args.key.now, c.requires.0) at in
    let sum : c.count.new.self ≡ plus c.requires.0 flow =
    c.count.ensures.sum ∙ ap (λ (e : Key × Sums). plus e.1 flow) here in
    let more = increased items c.args.place c.args.key.now c.requires.0 flow c.count.new.self c.self.invariant.0 at
    (subst Fits sum c.count.ensures.fit) sum in
    ap (λ (e : Key × Sums). map_of (slice_set items c.args.place (e.0, c.count.new.self))) here ∙ more.1
    ∙ ap (λ es. insert (map_of es) c.args.key.now (added_to (get (map_of es) c.args.key.now) flow)) c.self.view_is
