use Rattle.std.proofs.Common.{◌-◌, ap, subst, take, ◌∙◌}
use Rattle.flow_measure.specs.Entries.{without_last}
use Rattle.flow_measure.proofs.Places.{ArePlaces}
use Rattle.flow_measure.proofs.Undoing.{popped}
use Rattle.flow_measure.proofs.entries.Entries.pop.Goals as goal

pub invariant_of-self : goal.invariant_of-self
invariant_of-self c =
    let places = c.self.inside.places.entries in
    popped places c.remove.new.self.entries c.pop.new.self.items c.in-Some.key c.in-Some.field-0-1
    (subst (ArePlaces places) c.in-Some.ensures.items c.self.invariant) c.remove.ensures.updates.0

pub returns-in-Some : goal.returns-in-Some
unfolding without_last
returns-in-Some c =
    let items = c.self.inside.items.items in
    c.pop.ensures.rest ∙ ap (λ n. take (n - 1) items) c.self.inside.items.ok.0 ∙ ap without_last c.self.view_is

pub returns-in_default : goal.returns-in_default
unfolding without_last
returns-in_default c =
    let items = c.self.inside.items.items in
    c.pop.ensures.rest ∙ ap (λ n. take (n - 1) items) c.self.inside.items.ok.0 ∙ ap without_last c.self.view_is
