use Rattle.std.proofs.Common.{◌≡◌}
use Rattle.std.specs.Prelude.{IsTrue}
use Rattle.flow_measure.specs.View.{View}
use Rattle.flow_model.specs.Views.{IsViewOf}
use Rattle.flow_export.specs.Span.{IsFound}
use Rattle.flow_export.proofs.ViewFiles.{count_before, list_before}
use Rattle.flow_export.proofs.places.find_span.Given as goal

-- what is found of the files so far
abbrev pub invariant-loop-at : goal.invariant-loop-at
invariant-loop-at g l = record {
  faults : l.faults ≡ l.fn.faults;
  count : l.count ≡ count_before l.fn.snapshot.shelf l.at;
  found : IsTrue l.fn.snapshot.honest → (v : View) → IsViewOf l.fn.snapshot.shelf v
      → IsFound l.fn.span.from l.fn.span.to (list_before l.fn.snapshot.shelf v l.at) l.found;
}
