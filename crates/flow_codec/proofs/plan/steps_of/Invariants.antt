use Rattle.std.proofs.Common.{◌≡◌, ◌++◌, ◌≤◌, ◌*◌, drop}
use Rattle.std.specs.Prelude.{unwrap_or}
use Rattle.flow_codec.specs.Plan.{steps_of}
use Rattle.flow_codec.proofs.PlanLoop.{skipping}
use Rattle.flow_codec.proofs.plan.steps_of.Given as goal

abbrev pub invariant-loop-id : goal.invariant-loop-id
invariant-loop-id l = (l.steps ++ skipping l.skipped (steps_of (drop l.id-index l.fields)) ≡ steps_of l.fields)
    × (unwrap_or l.skipped 0 ≤ 65535 * l.id-index)
