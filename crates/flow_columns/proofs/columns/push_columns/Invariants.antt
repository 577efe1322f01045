use Rattle.std.proofs.Common.{◌≡◌, ◌++◌, length}
use Rattle.std.specs.Str.{IsUtf8}
use Rattle.flow_columns.specs.Columns.{columns_of}
use Rattle.flow_columns.proofs.columns.push_columns.Given as goal

abbrev pub invariant-names : goal.invariant-names
invariant-names l = record {
  text : IsUtf8 l.rest;
  same : l.columns.items ++ columns_of l.rest ≡ l.initial.columns.items ++ columns_of l.text;
}

abbrev pub decreases-names : goal.decreases-names
decreases-names l = length l.rest
