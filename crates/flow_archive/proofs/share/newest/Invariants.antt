use Rattle.std.proofs.Common.{◌≡◌, ◌≢◌, ℕ, ◌<◌, get_or}
use Rattle.flow_archive.specs.Frozen.{Frozen}
use Rattle.flow_archive.proofs.share.newest.Given as goal

-- None of the files that were looked at is of this kind, or the newest of them is known.
abbrev pub invariant-loop-place : goal.invariant-loop-place
invariant-loop-place g l = record {
  some : (k : ℕ) → k < l.place → ((x : Frozen) → (get_or l.files k x).entry.kind ≡ l.kind)
      → (l.newest < l.place) × ((x : Frozen) → (get_or l.files l.newest x).entry.kind ≡ l.kind);
  none : (k : ℕ) (x : Frozen) → l.newest < k → k < l.place → (get_or l.files k x).entry.kind ≢ l.kind;
}
