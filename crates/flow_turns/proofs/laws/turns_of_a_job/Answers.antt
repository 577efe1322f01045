use Rattle.flow_turns.proofs.Dues.{due_in_turn}
use Rattle.flow_turns.proofs.TurnLaws.{turns_of_a_job, turns_of_a_roll}
use Rattle.flow_turns.proofs.laws.turns_of_a_job.Goals as goal

pub returns-clause-due : goal.returns-clause-due
returns-clause-due g c = due_in_turn g.D.Disk

pub returns-clause-turns : goal.returns-clause-turns
returns-clause-turns g c = turns_of_a_job g.D.Disk

pub returns-clause-roll : goal.returns-clause-roll
returns-clause-roll g c = turns_of_a_roll g.D.Disk
