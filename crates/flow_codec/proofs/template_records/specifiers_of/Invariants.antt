use Rattle.std.proofs.Common.{◌≡◌, ◌-◌, ◌≤◌, length}
use Rattle.flow_codec.specs.Reading.{specifiers_at}
use Rattle.flow_codec.proofs.Steps.{with_front}
use Rattle.flow_codec.proofs.template_records.specifiers_of.Given as goal

abbrev pub invariant-loop : goal.invariant-loop
invariant-loop l = (with_front l.specifiers
    (specifiers_at l.at (l.count - l.counter) l.rest) ≡ specifiers_at l.at l.count l.octets)
    × (length l.specifiers ≡ l.counter) × (length l.rest ≤ length l.octets)
