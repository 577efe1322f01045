use Rattle.std.proofs.Common.{◌≡◌, None, sym, subst, ◌∙◌}
use Rattle.flow_measure.specs.Entries.{place_of}
use Rattle.flow_measure.proofs.Places.{ArePlaces, pushed}
use Rattle.flow_measure.proofs.entries.Entries.push.Goals as goal

pub invariant_of-self-2 : goal.invariant_of-self-2
invariant_of-self-2 c =
    let none = subst (λ es. place_of c.args.key es ≡ None) (sym c.self.view_is) c.requires in
    let len = c.len.ensures ∙ c.in_ok-reserve.ensures.len ∙ c.self.inside.items.ok.0 in
    let more = rw (c.unwrap.ensures, c.in_ok-reserve.ensures.items) at c.push.ensures.items in
    subst (ArePlaces c.insert.new.self.entries) (sym more)
    (pushed c.self.inside.places.entries c.insert.new.self.entries c.self.inside.items.items c.args.key c.args.sums
    c.len.result len none c.self.invariant c.in_ok-insert.ensures.updates.0)
