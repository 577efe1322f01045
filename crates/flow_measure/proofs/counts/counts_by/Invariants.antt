use Rattle.std.proofs.Common.{◌≡◌, drop}
use Rattle.std.specs.List.{AllByRecursion}
use Rattle.flow_codec.specs.Plan.{values_by}
use Rattle.flow_measure.specs.Counting.{no_counts, counts_with, IsStep}
use Rattle.flow_measure.proofs.counts.counts_by.Given as goal

-- the numbers so far, with those of the steps that are left, are those of all
abbrev pub invariant-loop-step : goal.invariant-loop-step
invariant-loop-step l = record {
  same : counts_with l.counts (values_by (drop l.step-index l.steps) l.rest)
      ≡ counts_with no_counts (values_by l.fn.steps l.fn.octets);
  steps : AllByRecursion IsStep (drop l.step-index l.steps);
}
