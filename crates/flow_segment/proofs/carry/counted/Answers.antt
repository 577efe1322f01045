use Rattle.std.proofs.Common.{◌≡◌, ◌∙◌, [], ap, subst}
use Rattle.std.specs.Prelude.{option_map}
use Rattle.flow_codec.specs.declared.message.Header.{Header}
use Rattle.flow_codec.specs.Raw.{under}
use Rattle.flow_measure.specs.Caveats.{with_caveats}
use Rattle.flow_segment.specs.Spans.{caveats_if}
use Rattle.flow_segment.proofs.Carrying as lemmas
use Rattle.flow_segment.proofs.NotingCaveats as caveats
use Rattle.flow_segment.proofs.NotingStarts.{message_noted, none_noted}
use Rattle.flow_segment.proofs.carry.counted.Goals as goal

pub returns-in-Ok-clause-found : goal.returns-in-Ok-clause-found
returns-in-Ok-clause-found c =
    let w = c.in-Ok.ensures.found in (
      w.0,
      w.1,
      λ sequence. lemmas.counted sequence c.walk_sets.new.sink.records c.in-Ok.walked.header w.0
          (w.2 (record { records = 0; span = c.args.span.now; caveats = c.no_caveats_if.result }) []
          (none_noted 0 c.args.span.now, caveats.none_noted c.args.counting c.no_caveats_if.result c.no_caveats_if.ensures)).0.0,
    )

pub returns-in-Ok-clause-noted : goal.returns-in-Ok-clause-noted
returns-in-Ok-clause-noted c = λ a is.
    let w = c.in-Ok.ensures.only a.message a.after is in
    message_noted a.message c.in-Ok.walked.header 0 c.walk_sets.new.sink.records c.args.span.now c.walk_sets.new.sink.span
    w.0 (w.2 (record { records = 0; span = c.args.span.now; caveats = c.no_caveats_if.result }) []
    (none_noted 0 c.args.span.now, caveats.none_noted c.args.counting c.no_caveats_if.result c.no_caveats_if.ensures)).0

pub returns-in-Ok-clause-caveats : goal.returns-in-Ok-clause-caveats
returns-in-Ok-clause-caveats c = λ a is.
    let w = c.in-Ok.ensures.only a.message a.after is in
    subst (λ (h : Header). c.walk_sets.new.sink.caveats
    ≡ option_map (λ x. with_caveats x (under h a.message.records)) (caveats_if c.args.counting)) w.0
    ((w.2 (record { records = 0; span = c.args.span.now; caveats = c.no_caveats_if.result }) []
    (none_noted 0 c.args.span.now, caveats.none_noted c.args.counting c.no_caveats_if.result c.no_caveats_if.ensures)).1
    ∙ ap (option_map (λ x. with_caveats x (under c.in-Ok.walked.header a.message.records))) c.no_caveats_if.ensures)

pub returns-in-Err-Message-clause-fault : goal.returns-in-Err-Message-clause-fault
returns-in-Err-Message-clause-fault c =
    let h = rw c.in-Err-Message.field-0-is at c.in-Err-Message.ensures.fault in rw c.in-Err-Message.field-0-is h
