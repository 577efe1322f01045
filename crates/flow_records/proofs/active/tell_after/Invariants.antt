use Rattle.std.proofs.Common.{◌≡◌, List, drop, take}
use Rattle.flow_measure.specs.History.{Accepted, AreAcceptedFrom}
use Rattle.flow_segment.specs.Carry.{octets_of}
use Rattle.flow_snapshot.proofs.Finding.{AreBehind}
use Rattle.flow_snapshot.proofs.KeptFlows.{Taken}
use Rattle.flow_records.specs.Listing.{StaysSo, TellsSome}
use Rattle.flow_records.proofs.InMemory.{HasLines}
use Rattle.flow_records.proofs.active.tell_after.Given as goal

-- the lines of the messages so far came
abbrev pub invariant-loop-message : goal.invariant-loop-message
invariant-loop-message g l =
    let was = g.W.Write.contents l.fn.output in
    let now = g.W.Write.contents l.output in
    record {
      same : StaysSo l.fn.listing l.listing;
      some : TellsSome l.fn.listing was now l.listing;
      found : AreBehind l.fn.templates (take l.message-index l.messages) l.templates;
      taken : (list : List Accepted) → AreAcceptedFrom l.fn.templates list → octets_of list ≡ l.messages
          → Taken (HasLines l.fn.listing was now l.listing) l.fn.templates list (drop l.message-index l.messages)
          l.templates;
    }
