use Rattle.std.proofs.Common.{Some, ap, ◌∙◌}
use Rattle.flow_codec.specs.Plan.{values_of}
use Rattle.flow_measure.specs.Counting.{no_counts, counts_with, flow_by}
use Rattle.flow_measure.proofs.CountLoop.{flow_of_counts}
use Rattle.flow_measure.proofs.fields.flow_of_record.Goals as goal

pub returns : goal.returns
returns c =
    let counts = c.counts_of.ensures ∙ ap (λ fs. counts_with no_counts (values_of fs)) c.as_slice.ensures in
    rw c.if-whole.false (ap Some (c.flow.ensures ∙ ap (flow_by c.args.header.now) counts
    ∙ flow_of_counts c.args.header.now (values_of c.args.whole.now.fields)))
