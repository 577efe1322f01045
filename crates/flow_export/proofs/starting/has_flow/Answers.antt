use Rattle.std.proofs.Common.{◌≡◌, ◌∙◌, ℕ, ap, length, rules, vec_len}
use Rattle.std.specs.Prelude.{◌==◌, not, List}
use Rattle.flow_codec.specs.Raw.{RawMessage}
use Rattle.flow_codec.specs.Message.{in_fields}
use Rattle.flow_measure.specs.declared.flow.Flow.{Flow}
use Rattle.flow_measure.specs.Flows.{flows_of}
use Rattle.flow_segment.specs.declared.sinks.Chosen.{Chosen}
use Rattle.flow_export.specs.Span.{starts_within}
use Rattle.flow_export.proofs.Spanning.{any_pass, flows_taken}
use Rattle.flow_export.proofs.starting.has_flow.Goals as goal

pub returns-in-Ok-clause-walked : goal.returns-in-Ok-clause-walked
returns-in-Ok-clause-walked c =
    let w = c.in-Ok.ensures.found in
    let m : RawMessage = record { header = c.in-Ok.field-0; records = w.0 } in
    let span = c.args.span in
    let old : Chosen = record { flows = c.new.result; from = span.from; to = span.to } in
    let flows = c.walk_message.new.sink.flows in
    let len : vec_len flows ≡ length flows.items = search rules in
    let taken = flows_taken m old c.walk_message.new.sink c.new.ensures.items w.2 in (
      m,
      w.1,
      ap not (c.is_empty.ensures ∙ ap (λ (n : ℕ). n == 0) len ∙ ap (λ (l : List Flow). length l == 0) taken)
          ∙ any_pass (starts_within span.from span.to) (flows_of (in_fields m)),
    )
