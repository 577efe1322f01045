use Rattle.std.proofs.Common.{take}
use Rattle.flow_gate.specs.Scan.{texts}
use Rattle.flow_recover.proofs.Accepting.{AreTakenIn}
use Rattle.flow_recover.proofs.segments.take_list.Given as goal

abbrev pub invariant-messages : goal.invariant-messages
invariant-messages l = AreTakenIn (texts (take l.message-index l.messages)) l.initial.carry l.carry
