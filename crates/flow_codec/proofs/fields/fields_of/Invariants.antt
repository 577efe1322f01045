use Rattle.std.proofs.Common.{◌≡◌, ◌++◌, drop}
use Rattle.flow_codec.specs.Fields.{fields_in}
use Rattle.flow_codec.proofs.fields.fields_of.Given as goal

abbrev pub invariant-loop-id : goal.invariant-loop-id
invariant-loop-id l =
    l.fields.items ++ fields_in (drop l.id-index l.specifiers) l.rest ≡ fields_in l.specifiers l.octets
