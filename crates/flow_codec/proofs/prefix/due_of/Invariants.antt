use Rattle.std.proofs.Common.{◌≡◌, drop}
use Rattle.flow_codec.specs.Prefix.{due_in}
use Rattle.flow_codec.proofs.prefix.due_of.Given as goal

abbrev pub invariant-loop-other : goal.invariant-loop-other
invariant-loop-other l = due_in (drop l.other-index l.due) l.domain ≡ due_in l.due l.domain
