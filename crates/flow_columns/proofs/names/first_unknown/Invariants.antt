use Rattle.std.proofs.Common.{◌≡◌, length}
use Rattle.std.specs.Str.{IsUtf8}
use Rattle.flow_columns.specs.Columns.{first_unknown}
use Rattle.flow_columns.proofs.names.first_unknown.Given as goal

-- no name so far is unknown
abbrev pub invariant-names : goal.invariant-names
invariant-names l = record { text : IsUtf8 l.rest; same : first_unknown l.rest ≡ first_unknown l.text }

abbrev pub decreases-names : goal.decreases-names
decreases-names l = length l.rest
