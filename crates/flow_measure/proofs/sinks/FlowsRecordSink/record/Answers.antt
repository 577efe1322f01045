use Rattle.std.proofs.Common.{◌++◌, ◌∷◌, [], sym, ap, ◌∙◌, append_assoc}
use Rattle.flow_measure.specs.Flows.{flows_of_records}
use Rattle.flow_measure.proofs.SinkSteps.{one_more, none_more}
use Rattle.flow_measure.proofs.sinks.FlowsRecordSink.record.Goals as goal

pub returns-in_ok-push-clause-taken : goal.returns-in_ok-push-clause-taken
returns-in_ok-push-clause-taken c = λ start taken h.
    let more = one_more taken c.args.header.now c.args._id c.args.definition.now c.args.octets.now
    (sym c.options.ensures ∙ c.if-not-options.true)
    ∙ ap (λ f. flows_of_records taken ++ f ∷ []) (sym c.flow_of.ensures) in
    c.in_ok-push.ensures.items ∙ ap (λ fs. fs ++ c.flow_of.result ∷ []) h
    ∙ append_assoc start.flows.items (flows_of_records taken) (c.flow_of.result ∷ [])
    ∙ ap (λ fs. start.flows.items ++ fs) (sym more)

pub returns-else-not-options-clause-taken : goal.returns-else-not-options-clause-taken
returns-else-not-options-clause-taken c = λ start taken h.
    let none = none_more taken c.args.header.now c.args._id c.args.definition.now c.args.octets.now
    (sym c.options.ensures ∙ c.if-not-options.false) in
    h ∙ ap (λ fs. start.flows.items ++ fs) (sym none)
