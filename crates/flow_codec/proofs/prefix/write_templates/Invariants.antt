use Rattle.std.proofs.Common.{◌≡◌, ◌++◌}
use Rattle.std.specs.List.{AllByRecursion}
use Rattle.flow_codec.specs.Templates.{IsDomain}
use Rattle.flow_codec.specs.Prefix.{prefix_octets}
use Rattle.flow_codec.proofs.prefix.write_templates.Given as goal

abbrev pub invariant-loop-domain : goal.invariant-loop-domain
invariant-loop-domain l =
    (l.octets.items ++ prefix_octets l.time l.due l.domain-iterator ≡ prefix_octets l.time l.due l.templates)
    × AllByRecursion IsDomain l.domain-iterator
