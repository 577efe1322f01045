use Rattle.std.proofs.Common.{ap, arith, length, length-append, subst, sym}
use Rattle.std.specs.List.{All}
use Rattle.flow_several.specs.SideBySide.{Awaits}
use Rattle.flow_several.proofs.Taking.{all_after, refilled, zip_length}
use Rattle.flow_several.proofs.in_turn.InTurn.ask_more.Goals as goal

pub returns-in_err-first-clause-may : goal.returns-in_err-first-clause-may
returns-in_err-first-clause-may g c =
    subst (All (g.A.Asking.may_ask c.args.asking.now)) (sym c.in_err-first.ensures.same) c.requires.may

pub returns-in_err-answers-clause-may : goal.returns-in_err-answers-clause-may
returns-in_err-answers-clause-may g c =
    let may = g.A.Asking.may_ask c.args.asking.now in
    all_after may c.in_ok-first.first.items c.first_of.new.all.items
    (subst (All may) c.in_ok-first.ensures.parts c.requires.may)

pub returns-clause-may : goal.returns-clause-may
returns-clause-may g c =
    let may = g.A.Asking.may_ask c.args.asking.now in
    all_after may c.in_ok-first.first.items c.first_of.new.all.items
    (subst (All may) c.in_ok-first.ensures.parts c.requires.may)

pub returns-clause-answers : goal.returns-clause-answers
returns-clause-answers g c = λ all waits.
    let is = g.A.Asking.answers c.args.asking.now in
    let before = c.args.self.now.answers.items in
    let left = c.first_of.new.all.items in
    subst (λ them. Awaits is them left all) (sym c.from.ensures.0)
    (refilled is before c.requires.none c.in_ok-first.first.items left c.in_ok-answers.answers.items all
    c.in_ok-answers.ensures (subst (λ them. Awaits is before them all) c.in_ok-first.ensures.parts waits))

pub returns-clause-count : goal.returns-clause-count
returns-clause-count g c =
    omega (
      arith,
      ap length c.from.ensures.0,
      zip_length (g.A.Asking.answers c.args.asking.now) c.in_ok-first.first.items c.in_ok-answers.answers.items
          c.in_ok-answers.ensures,
      ap length c.in_ok-first.ensures.parts,
      length-append c.in_ok-first.first.items c.first_of.new.all.items,
    )

pub returns-clause-some : goal.returns-clause-some
returns-clause-some g c =
    omega (
      arith,
      ap length c.from.ensures.0,
      zip_length (g.A.Asking.answers c.args.asking.now) c.in_ok-first.first.items c.in_ok-answers.answers.items
          c.in_ok-answers.ensures,
      c.in_ok-first.ensures.some c.requires.some,
    )
