use Rattle.std.proofs.Common.{◌≡◌, List, length}
use Rattle.std.specs.List.{AllByRecursion}
use Rattle.flow_roller.specs.Rolling.{IsRound, Round}
use Rattle.flow_roller.proofs.beside.roll_beside.Given as goal

-- the rounds so far were made, and no read has failed
abbrev pub invariant-loop : goal.invariant-loop
invariant-loop g l = record {
  faults : l.faults ≡ l.fn.faults;
  rounds : (rounds : List Round)
      × AllByRecursion (IsRound g.D.Disk g.J.Naming.opening g.K.Keeping.asked) rounds
      × (length rounds ≡ l.counter);
}
