use Rattle.std.proofs.Common.{◌≡◌, [], length}
use Rattle.std.specs.Prelude.{All}
use Rattle.flow_shared.proofs.shared.readers_of.Given as goal

abbrev pub invariant-loop : goal.invariant-loop
invariant-loop g l = record {
  count : length l.readers.items ≡ l.counter;
  unread : All (λ steps. steps ≡ []) l.readers.items;
}
