use Rattle.std.proofs.Common.{◌≡◌, List, Ok, length}
use Rattle.std.specs.List.{AllByRecursion}
use Rattle.flow_turns.specs.declared.turn.Turn.{Turn}
use Rattle.flow_roller.specs.Rolling.{IsRolled}
use Rattle.flow_roller.proofs.rolling.roll_worker.Given as goal

-- the turns so far were made
abbrev pub invariant-loop-turn : goal.invariant-loop-turn
invariant-loop-turn g l = record {
  faults : l.faults ≡ l.fn.faults;
  turns : (all : List Turn) × AllByRecursion (λ turn. IsRolled g.D.Disk g.J.Naming.opening l.fn.keep (Ok turn)) all
      × (length all ≡ l.turn);
}
