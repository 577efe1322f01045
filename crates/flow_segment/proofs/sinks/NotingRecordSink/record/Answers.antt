use Rattle.std.proofs.Common.{◌≡◌, ℕ, Option, sym, ap, ◌∙◌, refl}
use Rattle.std.specs.Prelude.{option_map, unwrap_or}
use Rattle.std.specs.Option.{is_none}
use Rattle.flow_codec.specs.declared.plan.Role.TheVariants.{Seconds, Milliseconds}
use Rattle.flow_codec.specs.Raw.{raw, Placed}
use Rattle.flow_measure.specs.declared.flow.Flow.{Flow}
use Rattle.flow_codec.specs.Fields.{fields_in}
use Rattle.flow_codec.specs.Plan.{values_of}
use Rattle.flow_measure.specs.declared.span.PartSpan.{PartSpan}
use Rattle.flow_measure.specs.Flows.{flow_from, number_in}
use Rattle.flow_measure.specs.Span.{with_start}
use Rattle.flow_measure.proofs.OwnStarts.{start_is}
use Rattle.flow_measure.proofs.SinkSteps.{one_more, none_more}
use Rattle.flow_segment.proofs.NotingCaveats as caveats
use Rattle.flow_segment.proofs.NotingStarts.{same_more, start_more}
use Rattle.flow_segment.proofs.sinks.NotingRecordSink.record.Goals as goal

pub returns-then-options-clause-taken : goal.returns-then-options-clause-taken
returns-then-options-clause-taken c = λ start taken h.
    let x : Placed = (c.args.header.now, raw c.args._id c.args.definition.now c.args.octets.now) in
    let kind = sym c.options.ensures ∙ c.if-options.true in
    let none = none_more taken c.args.header.now c.args._id c.args.definition.now c.args.octets.now kind in (
      same_more start.records start.span taken x c.args.self.now.records _ refl c.args.self.now.span none h.0,
      caveats.option_more taken c.args.header.now c.args._id c.args.definition.now c.args.octets.now kind start.caveats
          c.args.self.now.caveats h.1,
    )

pub returns-clause-taken : goal.returns-clause-taken
returns-clause-taken c = λ start taken h.
    let x : Placed = (c.args.header.now, raw c.args._id c.args.definition.now c.args.octets.now) in
    let values = values_of (fields_in c.args.definition.now.fields c.args.octets.now) in
    let f : Flow = flow_from c.args.header.now values in
    let kind = sym c.options.ensures ∙ c.if-options.false in
    let more = one_more taken c.args.header.now c.args._id c.args.definition.now c.args.octets.now kind in
    let time = c.args.header.now.time in
    let start_is_own : c.unwrap_or.result ≡ f.start =
    c.unwrap_or.ensures ∙ ap (λ (o : Option ℕ). unwrap_or o time) c.own_start_of-own.ensures
    ∙ sym (start_is time (number_in Milliseconds values) (number_in Seconds values)) in
    let now = c.with_start-self.ensures
    ∙ ap (λ (n : ℕ). option_map (λ (s : PartSpan). with_start n s) c.args.self.now.span) start_is_own in (
      start_more start.records start.span taken x c.args.self.now.records _ refl f c.args.self.now.span
          c.with_start-self.result more now h.0,
      caveats.flow_more taken c.args.header.now c.args._id c.args.definition.now c.args.octets.now kind
          c.is_none.result (caveats.none_of c.own_start_of-own.result c.is_none.result c.is_none.ensures
          ∙ ap (λ (o : Option ℕ). is_none o) c.own_start_of-own.ensures)
          start.caveats c.args.self.now.caveats c.count_flow.new.caveats c.count_flow.ensures h.1,
    )
