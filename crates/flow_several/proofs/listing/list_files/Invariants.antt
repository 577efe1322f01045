use Rattle.std.proofs.Common.{◌≡◌, take}
use Rattle.std.specs.Prelude.{IsTrue}
use Rattle.flow_measure.specs.View.{View}
use Rattle.flow_model.specs.Views.{IsViewOf}
use Rattle.flow_snapshot.specs.Found.{kept_by_file}
use Rattle.flow_several.specs.Flows.{numbered_flow}
use Rattle.flow_several.proofs.Listed.{HasAny, HasListed}
use Rattle.flow_several.proofs.listing.list_files.Given as goal

-- the lines of the files so far are written
abbrev pub invariant-loop-at : goal.invariant-loop-at
invariant-loop-at g l =
    let line = numbered_flow l.fn.listing.format l.fn.listing.number in
    let old = g.W.Write.contents l.fn.output in
    let now = g.W.Write.contents l.output in
    record {
      faults : l.faults ≡ l.fn.faults;
      some : HasAny line l.fn.listing.from l.fn.listing.to old now;
      told : IsTrue l.fn.snapshot.honest → (v : View) → IsViewOf l.fn.snapshot.shelf v
          → HasListed line l.fn.listing.from l.fn.listing.to (take l.at (kept_by_file l.fn.snapshot.shelf)) old now;
    }
