use Rattle.flow_codec.specs.Plan.{values_of}
use Rattle.flow_measure.specs.Counting.{no_counts, counts_with}
use Rattle.flow_measure.proofs.CountLoop.{next_field, last_field}
use Rattle.flow_measure.proofs.fields.counts_of.Goals as goal

pub loop-field-preserved : goal.loop-field-preserved
loop-field-preserved c =
    next_field c.args.fields.now c.loop-field.field-index c.loop-field.counts
    (counts_with no_counts (values_of c.args.fields.now)) c.field-item.result c.loop-field-test.true c.field-item.is
    c.count_field.new.counts c.count_field.ensures c.loop-field.invariant

pub returns : goal.returns
returns c = last_field c.args.fields.now c.loop-field.field-index c.loop-field.counts
    (counts_with no_counts (values_of c.args.fields.now)) c.loop-field-test.false c.loop-field.invariant
