use Rattle.std.proofs.Common.{◌∙◌, subst, sym}
use Rattle.flow_several.specs.SideBySide.{Awaits}
use Rattle.flow_several.proofs.Taking.{none_left, taken}
use Rattle.flow_several.proofs.in_turn.InTurn.next.Goals as goal

pub returns-in-None-clause-end : goal.returns-in-None-clause-end
returns-in-None-clause-end g c = λ all waits.
    let now = c.refill.new.self in
    let few = sym now.answers.ok.0 ∙ c.in-None.ensures.cases.0 in
    none_left (g.A.Asking.answers c.args.asking.now) now.answers.items now.left.items few (c.in-Ok.ensures.some few) all
    (c.in-Ok.ensures.answers all waits)

pub returns-in-Some-clause-answer : goal.returns-in-Some-clause-answer
returns-in-Some-clause-answer g c = λ all waits.
    let is = g.A.Asking.answers c.args.asking.now in
    let left = c.refill.new.self.left.items in
    taken is c.in-Some.answer c.pop_front.new.self.items left all
    (subst (λ them. Awaits is them left all) c.in-Some.ensures.items (c.in-Ok.ensures.answers all waits))
