use Rattle.std.proofs.Common.{◌≡◌, take}
use Rattle.std.specs.Prelude.{IsTrue}
use Rattle.flow_measure.specs.View.{View}
use Rattle.flow_model.specs.Views.{IsViewOf}
use Rattle.flow_snapshot.specs.Found.{kept_by_file}
use Rattle.flow_commands.specs.Asking.{HasSome}
use Rattle.flow_commands.proofs.KeptLines.{HasTold}
use Rattle.flow_commands.proofs.listing.tell_kept.Given as goal

-- the lines of the files so far came
abbrev pub invariant-loop-at : goal.invariant-loop-at
invariant-loop-at g l =
    let old = g.W.Write.contents l.fn.output in
    let now = g.W.Write.contents l.output in
    let held = l.fn.lines.held in
    record {
      faults : l.faults ≡ l.fn.faults;
      format : l.lines.format ≡ l.fn.lines.format;
      some : HasSome l.fn.lines.format l.fn.span old held now l.lines.held;
      told : IsTrue l.fn.snapshot.honest → (v : View) → IsViewOf l.fn.snapshot.shelf v
          → HasTold l.fn.lines.format l.fn.span.from l.fn.span.to (take l.at (kept_by_file l.fn.snapshot.shelf)) old
          held now l.lines.held;
    }
