use Rattle.std.proofs.Common.{◌≡◌, take}
use Rattle.std.specs.Prelude.{IsTrue}
use Rattle.flow_snapshot.specs.Found.{kept_by_file}
use Rattle.flow_records.specs.Listing.{StaysSo, TellsOwnOf, TellsSome}
use Rattle.flow_records.proofs.listing.tell_files.Given as goal

-- the lines of the files so far came
abbrev pub invariant-loop-at : goal.invariant-loop-at
invariant-loop-at g l =
    let was = g.W.Write.contents l.fn.output in
    let now = g.W.Write.contents l.output in
    record {
      faults : l.faults ≡ l.fn.faults;
      same : StaysSo l.fn.listing l.listing;
      some : TellsSome l.fn.listing was now l.listing;
      found : IsTrue l.fn.snapshot.honest
          → TellsOwnOf l.fn.listing was now l.listing (take l.at (kept_by_file l.fn.snapshot.shelf));
    }
