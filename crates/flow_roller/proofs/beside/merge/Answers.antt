use Rattle.std.proofs.Common.{rules, ◌≡◌, ◌+◌, ◌∙◌, ◌∷◌, List, ap, arith, inl, length}
use Rattle.flow_turns.specs.declared.turn.Turn.{Turn}
use Rattle.flow_turns.specs.declared.turn.Turn.TheVariants.{Idle}
use Rattle.flow_roller.proofs.beside.merge.Goals as goal

pub returns-then-eq-clause-turns : goal.returns-then-eq-clause-turns
returns-then-eq-clause-turns g c =
    let turn : Turn = c.in_ok-merge_turn.field-0 in
    let all : List Turn = c.loop.invariant.turns.0 in
    let idle : turn ≡ Idle = search rules in (
      turn ∷ all,
      record { made = (c.in_ok-merge_turn.ensures.calls, c.loop.invariant.turns.1); refused = tt },
      inl (all, ap (λ (t : Turn). t ∷ all) idle),
    )

pub loop-preserved : goal.loop-preserved
loop-preserved g c =
    let turn : Turn = c.in_ok-merge_turn.field-0 in
    let all : List Turn = c.loop.invariant.turns.0 in
    let counted : length all ≡ c.loop.counter = c.loop.invariant.turns.2 in
    let one_more : length (turn ∷ all) ≡ c.loop.counter + 1 = omega (arith, counted) in record {
      faults = c.in_ok-merge_turn.ensures.unread.done ∙ c.loop.invariant.faults;
      turns = (turn ∷ all, (c.in_ok-merge_turn.ensures.calls, c.loop.invariant.turns.1), one_more);
    }
