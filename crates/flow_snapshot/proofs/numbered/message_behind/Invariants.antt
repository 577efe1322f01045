use Rattle.std.proofs.Common.{◌≡◌, ◌<◌, ℕ, List}
use Rattle.std.specs.Prelude.{IsTrue, slice_get}
use Rattle.flow_segment.specs.Segment.{part_octets, AreMessagesOf}
use Rattle.flow_snapshot.proofs.Places.{IsAhead}
use Rattle.flow_snapshot.proofs.Standing.{ArePassed}
use Rattle.flow_snapshot.proofs.numbered.message_behind.Given as goal

-- the message is one of those that are left
abbrev pub invariant-messages : goal.invariant-messages
invariant-messages g l = let S = g.S.SealedFile in record {
  room : l.window.end ≡ l.part.length;
  faults : l.faults ≡ l.fn.faults;
  found : IsTrue (S.honest l.part.reader)
      → ArePassed (part_octets l.part.prefix l.part.length (S.octets l.part.reader)) (S.octets l.part.reader) l.window
      l.skipped l.left;
  ahead : IsTrue (S.honest l.part.reader) → (list : List (List ℕ))
      → AreMessagesOf (part_octets l.part.prefix l.part.length (S.octets l.part.reader)) l.part.messages list
      → l.skipped < l.part.messages
      → IsAhead (S.octets l.part.reader) l.window (slice_get list l.skipped) l.left;
}

abbrev pub decreases-messages : goal.decreases-messages
decreases-messages g l = l.left
