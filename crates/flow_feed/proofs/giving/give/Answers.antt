use Rattle.std.proofs.Common.{rules, ◌∙◌, ap}
use Rattle.flow_gate.specs.Steps.{slices}
use Rattle.flow_feed.proofs.Batches.{gives_some}
use Rattle.flow_feed.proofs.giving.give.Goals as goal

pub returns-clause-taken : goal.returns-clause-taken
returns-clause-taken g c =
    gives_some g.A.Appender.appends c.args.appender.now c.take_batch.new.appender c.args.messages.now
    (slices c.as_slice.result.now) c.take_batch.result.count c.take_batch.result.stop (search rules)
    (ap slices c.as_slice.ensures.value ∙ c.in_ok-slices.ensures) c.take_batch.ensures.taken
