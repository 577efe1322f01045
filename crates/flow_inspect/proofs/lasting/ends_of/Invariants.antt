use Rattle.std.proofs.Common.{◌≡◌, drop}
use Rattle.flow_codec.specs.Fields.{fields_in}
use Rattle.flow_inspect.specs.Lasting.{ends_of}
use Rattle.flow_inspect.proofs.EndsLoop.{joined}
use Rattle.flow_inspect.proofs.lasting.ends_of.Given as goal

abbrev pub invariant-loop-id : goal.invariant-loop-id
invariant-loop-id l =
    joined l.ends (ends_of (fields_in (drop l.id-index l.definition.fields) l.rest))
    ≡ ends_of (fields_in l.definition.fields l.octets)
