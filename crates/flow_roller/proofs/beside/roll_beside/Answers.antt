use Rattle.std.proofs.Common.{rules, ◌≡◌, ◌+◌, ◌∙◌, ◌∷◌, List, arith, length}
use Rattle.flow_turns.specs.declared.turn.Turn.TheVariants.{Idle}
use Rattle.flow_roller.specs.Rolling.{IsRound, Round}
use Rattle.flow_roller.proofs.Rounds.{idle, most, stopped}
use Rattle.flow_roller.proofs.beside.roll_beside.Goals as goal

pub loop-preserved : goal.loop-preserved
loop-preserved g c =
    let rounds = c.loop.invariant.rounds.0 in
    let worked = c.in_ok-last.ensures.worked in
    let round : Round = record {
      keep = c.keep-keep.result;
      merge = c.merge-merged.result;
      last = c.in_ok-last.last;
    } in
    let one : IsRound g.D.Disk g.J.Naming.opening g.K.Keeping.asked round = record {
      is_asked = c.keep-keep.ensures;
      is_merge_asked = c.merge-merged.ensures;
      turns = worked.0;
      made = worked.1;
      sixteen = worked.2;
      merged = c.in_ok-last.ensures.merged;
      last_made = c.in_ok-last.ensures.last;
    } in
    let counted : length rounds ≡ c.loop.counter = c.loop.invariant.rounds.2 in
    let one_more : length (round ∷ rounds) ≡ c.loop.counter + 1 = omega (arith, counted) in record {
      faults = c.in_ok-last.ensures.unread.done ∙ c.loop.invariant.faults;
      rounds = (round ∷ rounds, (one, c.loop.invariant.rounds.1), one_more);
    }

pub returns-clause-rounds : goal.returns-clause-rounds
returns-clause-rounds g c =
    let rounds = c.loop.invariant.rounds.0 in
    let all : length rounds ≡ 18446744073709551615 = search rules in
    (rounds, most g.D.Disk g.J.Naming.opening g.K.Keeping.asked rounds tt all c.loop.invariant.rounds.1)

pub returns-in_err-last-clause-rounds : goal.returns-in_err-last-clause-rounds
returns-in_err-last-clause-rounds g c = (
  c.loop.invariant.rounds.0,
  stopped g.D.Disk g.J.Naming.opening g.K.Keeping.asked c.loop.invariant.rounds.0 (c.in_err-last.field-0).0
      c.from_residual.result c.from_residual.ensures.1 c.loop.invariant.rounds.1 (
        c.keep-keep.result,
        c.merge-merged.result,
        c.keep-keep.ensures,
        c.merge-merged.ensures,
        c.in_err-last.ensures.refused,
      ),
)

pub returns-then-is_done-clause-rounds : goal.returns-then-is_done-clause-rounds
returns-then-is_done-clause-rounds g c =
    let rounds = c.loop.invariant.rounds.0 in
    let worked = c.in_ok-last.ensures.worked in
    let round : Round = record {
      keep = c.keep-keep.result;
      merge = c.merge-merged.result;
      last = c.in_ok-last.last;
    } in
    let one : IsRound g.D.Disk g.J.Naming.opening g.K.Keeping.asked round = record {
      is_asked = c.keep-keep.ensures;
      is_merge_asked = c.merge-merged.ensures;
      turns = worked.0;
      made = worked.1;
      sixteen = worked.2;
      merged = c.in_ok-last.ensures.merged;
      last_made = c.in_ok-last.ensures.last;
    } in
    let none : round.last ≡ Idle = search rules in (
      round ∷ rounds,
      idle g.D.Disk g.J.Naming.opening g.K.Keeping.asked round rounds tt none one c.loop.invariant.rounds.1,
    )
