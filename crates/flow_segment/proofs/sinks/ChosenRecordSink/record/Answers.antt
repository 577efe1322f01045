use Rattle.std.proofs.Common.{◌++◌, ◌∷◌, [], sym, ap, ◌∙◌}
use Rattle.flow_codec.specs.Raw.{raw, Placed}
use Rattle.flow_measure.specs.declared.flow.Flow.{Flow}
use Rattle.flow_measure.specs.Flows.{flows_of_records}
use Rattle.flow_measure.proofs.SinkSteps.{one_more, none_more}
use Rattle.flow_segment.specs.PartFlows.{flows_within}
use Rattle.flow_segment.proofs.Taking.{chosen_less, chosen_more}
use Rattle.flow_segment.proofs.sinks.ChosenRecordSink.record.Goals as goal

pub returns-then-options-clause-taken : goal.returns-then-options-clause-taken
returns-then-options-clause-taken c = λ start taken h.
    let none = none_more taken c.args.header.now c.args._id c.args.definition.now c.args.octets.now
    (sym c.options.ensures ∙ c.if-options.true) in
    (h.0, h.1, h.2 ∙ ap (λ fs. start.flows.items ++ flows_within start.from start.to fs) (sym none))

pub returns-in_ok-push-clause-taken : goal.returns-in_ok-push-clause-taken
returns-in_ok-push-clause-taken c = λ start taken h.
    let x : Placed = (c.args.header.now, raw c.args._id c.args.definition.now c.args.octets.now) in
    let f : Flow = c.flow_of-flow.result in
    let more = one_more taken c.args.header.now c.args._id c.args.definition.now c.args.octets.now
    (sym c.options.ensures ∙ c.if-options.false)
    ∙ ap (λ f. flows_of_records taken ++ f ∷ []) (sym c.flow_of-flow.ensures) in (
      h.0,
      h.1,
      chosen_more start.from start.to c.args.self.now.from c.args.self.now.to start.flows.items
          c.args.self.now.flows.items c.push.new.self.items taken x f more h.0 h.1 h.2 (sym c.takes.ensures
          ∙ c.if-takes.true)
          c.in_ok-push.ensures.items,
    )

pub returns-else-takes-clause-taken : goal.returns-else-takes-clause-taken
returns-else-takes-clause-taken c = λ start taken h.
    let x : Placed = (c.args.header.now, raw c.args._id c.args.definition.now c.args.octets.now) in
    let f : Flow = c.flow_of-flow.result in
    let more = one_more taken c.args.header.now c.args._id c.args.definition.now c.args.octets.now
    (sym c.options.ensures ∙ c.if-options.false)
    ∙ ap (λ f. flows_of_records taken ++ f ∷ []) (sym c.flow_of-flow.ensures) in (
      h.0,
      h.1,
      chosen_less start.from start.to c.args.self.now.from c.args.self.now.to start.flows.items
          c.args.self.now.flows.items taken x f more h.0 h.1 h.2 (sym c.takes.ensures ∙ c.if-takes.false),
    )
