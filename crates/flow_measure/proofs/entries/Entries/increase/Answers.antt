use Rattle.std.proofs.Common.{◌≡◌, Some, refl, sym, ap, subst, ◌∙◌, slice_get, slice_set, arith}
use Rattle.std.specs.Prelude.{Ok}
use Rattle.std.specs.FinMap.{get}
use Rattle.flow_measure.specs.declared.rows.Key.{Key}
use Rattle.flow_measure.specs.declared.rows.Sums.{Sums}
use Rattle.flow_measure.specs.Sums.{Fits, plus}
use Rattle.flow_measure.specs.Entries.{place_of, map_of, added_to, with_sums_at, Adds}
use Rattle.flow_measure.proofs.Places.{ArePlaces, found, within, read, replaced, increased, refused}
use Rattle.flow_measure.proofs.Undoing.{set_back}
use Rattle.flow_measure.proofs.entries.Entries.increase.Goals as goal

pub index-requires : goal.index-requires
index-requires c =
    let at = found c.args.key c.self.inside.items.items c.args.place
    (subst (λ es. place_of c.args.key es ≡ Some c.args.place) (sym c.self.view_is) c.requires) in
    omega (arith, within c.self.inside.items.items c.args.place (c.args.key, at.0) at.1, c.self.inside.items.ok.0)

pub index_mut-requires : goal.index_mut-requires
index_mut-requires c =
    let at = found c.args.key c.self.inside.items.items c.args.place
    (subst (λ es. place_of c.args.key es ≡ Some c.args.place) (sym c.self.view_is) c.requires) in
    omega (arith, within c.self.inside.items.items c.args.place (c.args.key, at.0) at.1, c.self.inside.items.ok.0)

pub returns-in_default-clause-adds : goal.returns-in_default-clause-adds
returns-in_default-clause-adds c =
    let items = c.self.inside.items.items in
    let at = found c.args.key items c.args.place
    (subst (λ es. place_of c.args.key es ≡ Some c.args.place) (sym c.self.view_is) c.requires) in
    let total = c.index.ensures ∙ read items c.args.place c.index.result.now (c.args.key, at.0) at.1 in
    subst (λ es. (Fits (added_to (get (map_of es) c.args.key) c.args.sums) → ⊥)
    × (map_of es ≡ map_of es)) c.self.view_is (
      refused items c.args.place c.args.key at.0 c.args.sums c.self.invariant.0 at.1
          (subst (λ (e : Key × Sums). Fits (plus e.1 c.args.sums) → ⊥) total c.in_default.ensures),
      refl,
    )

pub invariant_of-self : goal.invariant_of-self
invariant_of-self c =
    let items = c.self.inside.items.items in
    let at = found c.args.key items c.args.place
    (subst (λ es. place_of c.args.key es ≡ Some c.args.place) (sym c.self.view_is) c.requires) in
    let here = c.index_mut.ensures.value ∙ read items c.args.place c.index_mut.result.now (c.args.key, at.0) at.1 in
    subst (λ (e : Key × Sums). ArePlaces c.self.inside.places.entries
    (slice_set items c.args.place (e.0, c.in-Some.sum)))
    (sym here)
    (replaced c.self.inside.places.entries items c.args.place c.args.key at.0 c.in-Some.sum at.1 c.self.invariant)

pub returns-clause-adds : goal.returns-clause-adds
returns-clause-adds c =
    let items = c.self.inside.items.items in
    let at = found c.args.key items c.args.place
    (subst (λ es. place_of c.args.key es ≡ Some c.args.place) (sym c.self.view_is) c.requires) in
    let total = c.index.ensures ∙ read items c.args.place c.index.result.now (c.args.key, at.0) at.1 in
    let here = c.index_mut.ensures.value ∙ read items c.args.place c.index_mut.result.now (c.args.key, at.0) at.1 in
    let fits : Fits (plus at.0 c.args.sums) =
    subst (λ (e : Key × Sums). Fits (plus e.1 c.args.sums)) total c.in-Some.ensures.0 in
    let sum : c.in-Some.sum ≡ plus at.0 c.args.sums =
    c.in-Some.ensures.1 ∙ ap (λ (e : Key × Sums). plus e.1 c.args.sums) total in
    let added : Adds (Ok c) c.args.key c.args.sums (map_of items)
    (map_of (slice_set items c.args.place (c.args.key, c.in-Some.sum))) =
    increased items c.args.place c.args.key at.0 c.args.sums c.in-Some.sum c.self.invariant.0 at.1 fits sum in
    let set : Adds (Ok c) c.args.key c.args.sums (map_of items)
    (map_of (slice_set items c.args.place (c.index_mut.result.now.0, c.in-Some.sum))) =
    subst (λ (e : Key × Sums). Adds (Ok c) c.args.key c.args.sums (map_of items)
    (map_of (slice_set items c.args.place (e.0, c.in-Some.sum)))) (sym here) added in
    subst (λ es. Adds (Ok c) c.args.key c.args.sums (map_of es)
    (map_of (slice_set items c.args.place (c.index_mut.result.now.0, c.in-Some.sum)))) c.self.view_is set

pub returns-clause-back : goal.returns-clause-back
returns-clause-back c = λ total at.
    let items = c.self.inside.items.items in
    let is = subst (λ es. slice_get es c.args.place ≡ Some (c.args.key, total)) (sym c.self.view_is) at in
    let here = c.index_mut.ensures.value ∙ read items c.args.place c.index_mut.result.now (c.args.key, total) is in
    ap (λ (e : Key × Sums). with_sums_at c.args.place total (slice_set items c.args.place (e.0, c.in-Some.sum))) here
    ∙ set_back items c.args.place c.args.key c.in-Some.sum total is ∙ c.self.view_is
