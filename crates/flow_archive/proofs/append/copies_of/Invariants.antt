use Rattle.std.proofs.Common.{◌≡◌, take}
use Rattle.flow_codec.specs.Message.{joined}
use Rattle.flow_gate.specs.Steps.{slices}
use Rattle.flow_archive.proofs.append.copies_of.Given as goal

abbrev pub invariant-loop-message : goal.invariant-loop-message
invariant-loop-message l = record { done : l.octets.items ≡ joined (slices (take l.message-index l.messages)) }
