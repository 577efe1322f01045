use Rattle.std.proofs.Common.{◌≡◌, ◌≤◌, ◌*◌, drop, Some, None}
use Rattle.std.specs.Prelude.{if◌then◌else◌}
use Rattle.flow_codec.specs.Plan.{are_fixed, plan_of}
use Rattle.flow_codec.proofs.PlaceLoop.{plan_from}
use Rattle.flow_codec.proofs.plan.fixed_plan_of.Given as goal

abbrev pub invariant-loop-id : goal.invariant-loop-id
invariant-loop-id l = (plan_from l.places l.at (drop l.id-index l.fields)
    ≡ (if are_fixed l.fields then Some (plan_of l.fields) else None))
    × (l.at ≤ 65535 * l.id-index)
