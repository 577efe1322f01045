use Rattle.std.proofs.Common.{◌≢◌, ◌<◌, ℕ}
use Rattle.std.specs.Prelude.{Some, slice_get}
use Rattle.flow_shell.specs.declared.board.Place.TheVariants.{Fed}
use Rattle.flow_shell.proofs.board.Places.has_fed.Given as goal

-- no File is fed in the places so far
abbrev pub invariant-loop-place : goal.invariant-loop-place
invariant-loop-place l = (k number : ℕ) → k < l.place-index → slice_get l.self.places k ≢ Some (Fed number)
