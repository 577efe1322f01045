use Rattle.flow_codec.proofs.StepLoop.{GoesOn}
use Rattle.flow_codec.proofs.walk.stepped_over.Given as goal

abbrev pub invariant-loop-step : goal.invariant-loop-step
invariant-loop-step l = GoesOn l.at l.steps l.step-index l.rest l.octets
