use Rattle.std.proofs.Common.{◌≡◌, ◌-◌, ◌≤◌}
use Rattle.flow_segment.proofs.Flowing.{PartSoFar}
use Rattle.flow_records.specs.Listing.{StaysSo, TellsSome}
use Rattle.flow_records.proofs.Telling.{HasTold}
use Rattle.flow_records.proofs.part.tell_messages.Given as goal

-- the lines of the messages so far came
abbrev pub invariant-messages : goal.invariant-messages
invariant-messages g l =
    let S = g.S.SealedFile in
    let was = g.W.Write.contents l.initial.output in
    let now = g.W.Write.contents l.output in
    record {
      same : StaysSo l.initial.listing l.listing;
      some : TellsSome l.initial.listing was now l.listing;
      sofar : PartSoFar (HasTold l.initial.listing was now l.listing l.count) (S.honest l.part.reader)
          (S.octets l.part.reader) l.part.prefix l.part.length l.initial.templates l.templates l.window;
      end : l.window.end ≡ l.part.length;
      within : l.window.place ≤ l.window.end;
      faults : l.faults ≡ l.initial.faults;
      few : l.count ≤ l.window.place;
    }

abbrev pub decreases-messages : goal.decreases-messages
decreases-messages g l = l.window.end - l.window.place
