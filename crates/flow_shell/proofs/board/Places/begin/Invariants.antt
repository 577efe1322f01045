use Rattle.std.proofs.Common.{◌≡◌, ◌≢◌, ◌<◌, ℕ}
use Rattle.std.specs.Prelude.{Some, slice_get}
use Rattle.flow_shell.specs.declared.board.Place.TheVariants.{Free}
use Rattle.flow_shell.proofs.board.Places.begin.Given as goal

-- none of the places so far is free
abbrev pub invariant-loop-place : goal.invariant-loop-place
invariant-loop-place l = record {
  same : l.place-items ≡ l.fn.self.places;
  none : (k : ℕ) → k < l.place-index → slice_get l.fn.self.places k ≢ Some Free;
}
