use Rattle.std.proofs.Common.{◌++◌, ◌∷◌, [], sym, ap, ◌∙◌, arith}
use Rattle.flow_codec.specs.Raw.{raw, Placed}
use Rattle.flow_measure.specs.Flows.{flows_of_records, FlowFits}
use Rattle.flow_measure.proofs.SinkSteps.{one_more, none_more}
use Rattle.flow_segment.proofs.Taking.{adds, passes, skips, stays}
use Rattle.flow_segment.proofs.sinks.AddingRecordSink.record.Goals as goal

pub returns-then-options-clause-taken : goal.returns-then-options-clause-taken
returns-then-options-clause-taken g c = λ start taken h.
    let table = g.T.Adder.table in
    let x : Placed = (c.args.header.now, raw c.args._id c.args.definition.now c.args.octets.now) in
    skips (table start.rows) taken x (none_more taken c.args.header.now c.args._id c.args.definition.now c.args.octets.now
    (sym c.options.ensures ∙ c.if-options.true)) (table c.args.self.now.rows) c.args.self.now.spent h

pub returns-then-self-clause-taken : goal.returns-then-self-clause-taken
returns-then-self-clause-taken g c = λ start taken h.
    let table = g.T.Adder.table in
    let x : Placed = (c.args.header.now, raw c.args._id c.args.definition.now c.args.octets.now) in
    let more = one_more taken c.args.header.now c.args._id c.args.definition.now c.args.octets.now
    (sym c.options.ensures ∙ c.if-options.false)
    ∙ ap (λ f. flows_of_records taken ++ f ∷ []) (sym c.flow_of-flow.ensures) in
    let fits : FlowFits c.flow_of-flow.result = (omega arith, omega arith) in
    stays (table start.rows) taken x c.flow_of-flow.result more fits (table c.args.self.now.rows) c.args.self.now.spent c.if-self.true h

pub returns-in-Ok-clause-taken : goal.returns-in-Ok-clause-taken
returns-in-Ok-clause-taken g c = λ start taken h.
    let table = g.T.Adder.table in
    let x : Placed = (c.args.header.now, raw c.args._id c.args.definition.now c.args.octets.now) in
    let more = one_more taken c.args.header.now c.args._id c.args.definition.now c.args.octets.now
    (sym c.options.ensures ∙ c.if-options.false)
    ∙ ap (λ f. flows_of_records taken ++ f ∷ []) (sym c.flow_of-flow.ensures) in
    let fits : FlowFits c.flow_of-flow.result = (omega arith, omega arith) in
    adds (table start.rows) taken x c.flow_of-flow.result more fits (table c.args.self.now.rows) (table c.add_flow.new.self) c.args.self.now.spent
    c.if-self.false c.in-Ok.ensures.becomes.1 h

pub returns-in-Err-SumSpent-clause-taken : goal.returns-in-Err-SumSpent-clause-taken
returns-in-Err-SumSpent-clause-taken g c = λ start taken h.
    let table = g.T.Adder.table in
    let x : Placed = (c.args.header.now, raw c.args._id c.args.definition.now c.args.octets.now) in
    let more = one_more taken c.args.header.now c.args._id c.args.definition.now c.args.octets.now
    (sym c.options.ensures ∙ c.if-options.false)
    ∙ ap (λ f. flows_of_records taken ++ f ∷ []) (sym c.flow_of-flow.ensures) in
    let fits : FlowFits c.flow_of-flow.result = (omega arith, omega arith) in
    passes (table start.rows) taken x c.flow_of-flow.result more fits (table c.args.self.now.rows) c.args.self.now.spent
    c.in-Err-SumSpent.field-0 c.if-self.false c.in-Err-SumSpent.field-0-is c.in-Err-SumSpent.ensures.becomes.0 h
