use Rattle.std.proofs.Common.{◌++◌, ◌∷◌, [], sym, ap, subst, ◌∙◌, arith}
use Rattle.std.specs.List.{AllByRecursion}
use Rattle.flow_codec.specs.Raw.{raw}
use Rattle.flow_measure.specs.Flows.{flows_of_records, FlowFits}
use Rattle.flow_measure.specs.Sums.{AreSums}
use Rattle.flow_measure.proofs.SinkSteps.{one_more, none_more, takes_one, refuses_one, on_error}
use Rattle.flow_measure.proofs.sinks.TotalsRecordSink.record.Goals as goal

pub returns-in_err-add-clause-refused : goal.returns-in_err-add-clause-refused
returns-in_err-add-clause-refused c =
    on_error c.from_residual.result c.in_err-add.field-0.0 _ c.from_residual.ensures.1 (λ start taken h.
    let record_of = raw c.args._id c.args.definition.now c.args.octets.now in
    let more = one_more taken c.args.header.now c.args._id c.args.definition.now c.args.octets.now
    (sym c.options.ensures ∙ c.if-not-options.true)
    ∙ ap (λ f. flows_of_records taken ++ f ∷ []) (sym c.flow_of.ensures) in
    let fits : FlowFits c.flow_of.result = (omega arith, omega arith) in
    refuses_one start.rows c.args.self.now.rows taken (c.args.header.now, record_of) c.flow_of.result more fits h
    c.in_err-add.field-0.0 c.in_err-add.ensures.becomes.0)

pub returns-in_ok-add-clause-taken : goal.returns-in_ok-add-clause-taken
returns-in_ok-add-clause-taken c = λ start taken h.
    let record_of = raw c.args._id c.args.definition.now c.args.octets.now in
    let more = one_more taken c.args.header.now c.args._id c.args.definition.now c.args.octets.now
    (sym c.options.ensures ∙ c.if-not-options.true)
    ∙ ap (λ f. flows_of_records taken ++ f ∷ []) (sym c.flow_of.ensures) in
    let fits : FlowFits c.flow_of.result = (omega arith, omega arith) in
    takes_one start.rows c.args.self.now.rows taken (c.args.header.now, record_of) c.flow_of.result more fits h
    c.add.new.self c.in_ok-add.ensures.becomes.1 c.in_ok-add.ensures.sums

pub returns-else-not-options-clause-taken : goal.returns-else-not-options-clause-taken
returns-else-not-options-clause-taken c = λ start taken h.
    let none = none_more taken c.args.header.now c.args._id c.args.definition.now c.args.octets.now
    (sym c.options.ensures ∙ c.if-not-options.false) in (
      h.0,
      λ flows sums. subst (λ gs. AreSums c.args.self.now.rows (flows ++ gs)) (sym none) (h.1 flows sums),
      subst (AllByRecursion FlowFits) (sym none) h.2,
    )
