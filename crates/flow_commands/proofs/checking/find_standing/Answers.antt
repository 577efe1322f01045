use Rattle.std.proofs.Common.{rules, subst, sym}
use Rattle.std.specs.Prelude.{IsTrue}
use Rattle.flow_commands.proofs.StandingIs.{stands_as}
use Rattle.flow_commands.proofs.checking.find_standing.Goals as goal

pub returns-clause-stands : goal.returns-clause-stands
returns-clause-stands g c = λ honest.
    let found = c.in_ok-found.ensures.recovered in
    stands_as _ c.in_ok-found.found.slots.current found.parts _ _ _
    (found.read (subst IsTrue (sym c.recover.ensures.honest) honest)) found.counted.total_is (search rules)
