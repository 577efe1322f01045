use Rattle.std.proofs.Common.{sym, ◌∙◌}
use Rattle.flow_inspect.proofs.Taking.{flow_more, option_more}
use Rattle.flow_inspect.proofs.counting.RecordCountsRecordSink.record.Goals as goal

pub returns-then-options-clause-taken : goal.returns-then-options-clause-taken
returns-then-options-clause-taken c = λ start taken h.
    option_more start taken c.args.header.now c.args._id c.args.definition.now c.args.octets.now c.args.self.now h
    (sym c.options.ensures ∙ c.if-options.true) c.saturating_add-self.result c.saturating_add-self.ensures

pub returns-else-options-clause-taken : goal.returns-else-options-clause-taken
returns-else-options-clause-taken c = λ start taken h.
    flow_more start taken c.args.header.now c.args._id c.args.definition.now c.args.octets.now c.args.self.now h
    (sym c.options.ensures ∙ c.if-options.false) c.saturating_add-self-else-options.result
    c.saturating_add-self-else-options.ensures c.flow_of.result c.flow_of.ensures c.widened-self.result
    c.widened-self.ensures c.with_flow-self.result c.with_flow-self.ensures
    c.risen-self.result c.risen-self-else-options.result c.risen-self-else-options-2.result
    (rw c.has_no_start.ensures at c.risen-self.ensures)
    (rw c.is_uncounted.ensures at c.risen-self-else-options.ensures)
    (rw c.is_sampled.ensures at c.risen-self-else-options-2.ensures)
