use Rattle.std.proofs.Common.{◌≡◌, ◌+◌, length, ⊎_elim, refl, arith}
use Rattle.std.proofs.lemmas.Bool.{cases_lt, false≢true}
use Rattle.flow_turns.proofs.Newest.{enough, more, no_more}
use Rattle.flow_turns.proofs.turn.has_more_sealed.Goals as goal

pub returns-in-Sealed : goal.returns-in-Sealed
returns-in-Sealed c =
    let place : c.in-Some.at + (c.args.keep + 2) ≡ length c.args.entries.now =
    omega (arith, c.in-Some.ensures) in
    (λ is. more c.args.entries.now c.args.keep c.in-Some.at c.requires place c.in-Sealed.is, λ lt. refl)

pub returns-in_default : goal.returns-in_default
returns-in_default c =
    let place : c.in-Some.at + (c.args.keep + 2) ≡ length c.args.entries.now =
    omega (arith, c.in-Some.ensures) in (
      λ no. absurd (false≢true no),
      λ lt. absurd (omega (
        arith,
        lt,
        enough c.args.entries.now c.args.keep c.in-Some.at c.requires place c.in_default.not-Sealed,
      )),
    )

pub returns-in-None : goal.returns-in-None
returns-in-None c = (
  λ no. absurd (false≢true no),
  λ lt. absurd (⊎_elim (λ short. omega (arith, lt, no_more c.args.entries.now c.args.keep c.requires short))
      (λ long. c.in-None.ensures long) (cases_lt (length c.args.entries.now) (c.args.keep + 2))),
)
