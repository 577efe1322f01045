use Rattle.std.proofs.Common.{◌≡◌}
use Rattle.std.specs.Prelude.{IsTrue}
use Rattle.flow_measure.specs.View.{View}
use Rattle.flow_model.specs.Views.{IsViewOf}
use Rattle.flow_export.proofs.SumsMet.{NoneMet}
use Rattle.flow_export.proofs.summed.meets_sums.Given as goal

-- the files of sums so far have no row of an interval that meets the span
abbrev pub invariant-loop-worker : goal.invariant-loop-worker
invariant-loop-worker g l = record {
  faults : l.faults ≡ l.fn.faults;
  none : IsTrue l.fn.snapshot.honest → (v : View) (view : IsViewOf l.fn.snapshot.shelf v)
      → NoneMet l.fn.snapshot.shelf v view l.fn.span.from l.fn.span.to l.worker;
}
