use Rattle.std.proofs.Common.{◌≡◌, ◌≤◌, ◌*◌, take}
use Rattle.std.specs.List.{sum_by}
use Rattle.flow_manifest.specs.Manifest.{wide_messages, rolled_messages}
use Rattle.flow_manifest.proofs.checks.totals_of.Given as goal

abbrev pub invariant-loop-entry : goal.invariant-loop-entry
invariant-loop-entry l = record {
  wide : l.wide ≡ sum_by (λ e. wide_messages e.kind e.messages) (take l.entry-index l.entries);
  rolled : l.rolled ≡ sum_by (λ e. rolled_messages e.kind e.messages) (take l.entry-index l.entries);
  all : l.all ≡ sum_by (λ e. e.messages) (take l.entry-index l.entries);
  wide_below : l.wide ≤ 18446744073709551616 * l.entry-index;
  rolled_below : l.rolled ≤ 18446744073709551616 * l.entry-index;
  all_below : l.all ≤ 18446744073709551616 * l.entry-index;
}
