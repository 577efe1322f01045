use Rattle.std.proofs.Common.{◌≡◌, drop}
use Rattle.flow_codec.specs.Plan.{values_of}
use Rattle.flow_measure.specs.Counting.{no_counts, counts_with}
use Rattle.flow_measure.proofs.fields.counts_of.Given as goal

-- the numbers so far, with those of the fields that are left, are those of all
abbrev pub invariant-loop-field : goal.invariant-loop-field
invariant-loop-field l =
    counts_with l.counts (values_of (drop l.field-index l.fields)) ≡ counts_with no_counts (values_of l.fn.fields)
