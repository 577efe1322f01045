use Rattle.std.proofs.Common.{sym, ap, subst, ◌∙◌, slice_set, slice_index_or, arith}
use Rattle.std.proofs.lemmas.List.{set_past}
use Rattle.std.proofs.lemmas.Option.{slice_get-get_or}
use Rattle.flow_measure.specs.declared.rows.Key.{Key}
use Rattle.flow_measure.specs.declared.rows.Sums.{Sums}
use Rattle.flow_measure.specs.Entries.{nothing, with_sums_at}
use Rattle.flow_measure.proofs.Places.{ArePlaces, replaced, read}
use Rattle.flow_measure.proofs.entries.Entries.set.Goals as goal

pub invariant_of-self : goal.invariant_of-self
invariant_of-self c =
    let items = c.self.inside.items.items in
    let place = c.args.place in
    let e = slice_index_or items place nothing in
    let at = slice_get-get_or items place nothing (omega (arith, c.self.inside.items.ok.0)) in
    let here = c.index_mut.ensures.value ∙ read items place c.index_mut.result.now e at in
    subst (λ (x : Key × Sums). ArePlaces c.self.inside.places.entries (slice_set items place (x.0, c.args.sums)))
    (sym here) (replaced c.self.inside.places.entries items place e.0 e.1 c.args.sums at c.self.invariant)

pub returns-then-place-len : goal.returns-then-place-len
unfolding with_sums_at
returns-then-place-len c =
    let items = c.self.inside.items.items in
    let place = c.args.place in
    let e = slice_index_or items place nothing in
    let at = slice_get-get_or items place nothing (omega (arith, c.self.inside.items.ok.0)) in
    let here = c.index_mut.ensures.value ∙ read items place c.index_mut.result.now e at in
    ap (λ (x : Key × Sums). slice_set items place (x.0, c.args.sums)) here
    ∙ ap (with_sums_at place c.args.sums) c.self.view_is

pub returns-else-place-len : goal.returns-else-place-len
unfolding with_sums_at
returns-else-place-len c =
    let items = c.self.inside.items.items in
    let past = set_past items c.args.place ((slice_index_or items c.args.place nothing).0, c.args.sums)
    (omega (arith, c.self.inside.items.ok.0)) in
    sym c.self.view_is ∙ sym past ∙ ap (with_sums_at c.args.place c.args.sums) c.self.view_is
