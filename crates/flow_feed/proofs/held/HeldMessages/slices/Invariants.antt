use Rattle.std.proofs.Common.{◌≡◌, ◌++◌, ◌≤◌, length, drop, vec_len}
use Rattle.std.specs.Prelude.{vec_capacity}
use Rattle.flow_gate.specs.Steps.{slices}
use Rattle.flow_feed.specs.Held.{cut_at, AreEnds}
use Rattle.flow_feed.proofs.held.HeldMessages.slices.Given as goal

abbrev pub invariant-loop-end : goal.invariant-loop-end
invariant-loop-end l = record {
  done : slices l.slices.items ++ cut_at l.start l.self-inside.octets.items (drop l.end-index l.self-inside.ends.items)
      ≡ cut_at 0 l.self-inside.octets.items l.self-inside.ends.items;
  left : AreEnds l.start (drop l.end-index l.self-inside.ends.items) (length l.self-inside.octets.items);
  count : vec_len l.slices ≡ l.end-index;
  room : vec_len l.self-inside.ends ≤ vec_capacity l.slices;
}
