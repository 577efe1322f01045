use Rattle.std.proofs.Common.{◌≡◌, ◌++◌, drop}
use Rattle.std.specs.List.{AllByRecursion}
use Rattle.flow_codec.specs.Layout.{IsSpecifier, specifiers}
use Rattle.flow_codec.proofs.prefix.put_specifiers.Given as goal

abbrev pub invariant-loop-id : goal.invariant-loop-id
invariant-loop-id l = (l.octets.items ++ specifiers (drop l.id-index l.fields) ≡ l.initial.octets.items ++ specifiers
    l.fields) × AllByRecursion IsSpecifier (drop l.id-index l.fields)
