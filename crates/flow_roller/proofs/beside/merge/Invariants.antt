use Rattle.std.proofs.Common.{◌≡◌, List, Ok, length}
use Rattle.std.specs.List.{AllByRecursion}
use Rattle.flow_turns.specs.declared.turn.Turn.{Turn}
use Rattle.flow_manifest.specs.declared.following.JobKind.TheVariants.{Merge}
use Rattle.flow_roller.specs.Rolling.{IsTurned}
use Rattle.flow_roller.proofs.beside.merge.Given as goal

-- the turns so far were made, and no read has failed
abbrev pub invariant-loop : goal.invariant-loop
invariant-loop g l = record {
  faults : l.faults ≡ l.fn.faults;
  turns : (all : List Turn)
      × AllByRecursion (λ turn. IsTurned g.D.Disk g.J.Naming.opening Merge l.fn.keep (Ok turn)) all
      × (length all ≡ l.counter);
}
