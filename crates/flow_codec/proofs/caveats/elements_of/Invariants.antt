use Rattle.std.proofs.Common.{◌≡◌, take}
use Rattle.flow_codec.specs.Caveats.{elements_of}
use Rattle.flow_codec.proofs.caveats.elements_of.Given as goal

abbrev pub invariant-loop-id : goal.invariant-loop-id
invariant-loop-id l = l.found ≡ elements_of (take l.id-index l.fields)
