use Rattle.std.proofs.Common.{◌≡◌, ◌+◌, ◌∙◌, ◌∷◌, length, arith}
use Rattle.flow_roller.proofs.rolling.roll_worker.Goals as goal

pub loop-turn-preserved : goal.loop-turn-preserved
loop-turn-preserved g c =
    let all = c.loop-turn.invariant.turns.0 in
    let counted : length all ≡ c.loop-turn.turn = c.loop-turn.invariant.turns.2 in
    let one_more : length (c.in_ok-turn_at.field-0 ∷ all) ≡ c.loop-turn.turn + 1 = omega (arith, counted) in record {
      faults = c.in_ok-turn_at.ensures.unread.done ∙ c.loop-turn.invariant.faults;
      turns = (
        c.in_ok-turn_at.field-0 ∷ all,
        (c.in_ok-turn_at.ensures.rolled, c.loop-turn.invariant.turns.1),
        one_more,
      );
    }
