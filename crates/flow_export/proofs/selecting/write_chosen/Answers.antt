use Rattle.std.proofs.Common.{◌≡◌, ◌+◌, Bool, drop, take}
use Rattle.std.specs.Prelude.{nat_le}
use Rattle.std.specs.List.{list_any}
use Rattle.flow_codec.specs.Message.{in_fields}
use Rattle.flow_codec.specs.Raw.{RawMessage}
use Rattle.flow_disk.proofs.Results.{passed_on}
use Rattle.flow_measure.specs.Flows.{flows_of}
use Rattle.flow_model.proofs.Accepting.{accepted_first}
use Rattle.flow_snapshot.proofs.KeptFlows.{next_item}
use Rattle.flow_export.specs.declared.refusal.ExportRefusal.TheVariants as refusal
use Rattle.flow_export.specs.Export.{IsBlameless}
use Rattle.flow_export.specs.Span.{starts_within}
use Rattle.flow_export.proofs.ChosenText.{accepted_cut, all_so_far, first_octets, next_blameless, none_so_far, one_part}
use Rattle.flow_export.proofs.ChosenText.{one_written, so_far_part}
use Rattle.flow_export.proofs.SpanWritten.{chosen_of_span, none_of_some, part_so_far, part_then, some_then}
use Rattle.flow_export.proofs.Written.{on_err_always}
use Rattle.flow_export.proofs.selecting.write_chosen.Goals as goal

pub loop-index-init : goal.loop-index-init
loop-index-init g c =
    let span = c.args.asked.span in
    let output = g.W.Write.contents c.args.output.now in
    record {
      written = none_so_far span.from span.to c.args.asked.skip c.args.templates.now output;
      whole = none_of_some span.from span.to output;
    }

pub loop-index-preserved : goal.loop-index-preserved
loop-index-preserved g c =
    let span = c.args.asked.span in
    let old = g.W.Write.contents c.args.output.now in
    let now = g.W.Write.contents c.loop-index.output in
    let new = g.W.Write.contents c.write_if.new.output in
    let x = c.in_ok-has.ensures.walked in
    record {
      written = one_written span.from span.to c.args.asked.skip c.loop-index.index (take c.min-end.result c.args.messages.now)
          c.index-first-index.result c.as_slice-octets.result.now c.loop-index-test.true c.index-first-index.is
          c.as_slice-octets.ensures c.args.templates.now c.loop-index.templates c.has_flow.new.templates old now new
          c.loop-index.invariant.written x.0 x.1 c.in_ok-has.has c.is_chosen-chosen.result x.2 c.is_chosen-chosen.ensures
          c.in_ok-write_if.ensures.all;
      whole = some_then span.from span.to old now new c.loop-index.invariant.whole
          (c.in_ok-write_if.ensures.whole span.from span.to
          (chosen_of_span span.from span.to c.as_slice-octets.result.now c.loop-index.templates c.has_flow.new.templates x.0
          x.1 (nat_le c.args.asked.skip c.loop-index.index) c.in_ok-has.has c.is_chosen-chosen.result x.2
          c.is_chosen-chosen.ensures));
    }

pub returns-in_err-has-clause-part : goal.returns-in_err-has-clause-part
returns-in_err-has-clause-part g c =
    let span = c.args.asked.span in
    on_err_always c.from_residual.result _
    (part_so_far span.from span.to (g.W.Write.contents c.args.output.now) (g.W.Write.contents c.loop-index.output)
    c.loop-index.invariant.whole)

pub returns-in_err-has-clause-some : goal.returns-in_err-has-clause-some
returns-in_err-has-clause-some g c = λ list accepted octets.
    let asked = c.args.asked in
    on_err_always c.from_residual.result _
    (so_far_part asked.span.from asked.span.to asked.skip c.loop-index.index (take c.min-end.result c.args.messages.now)
    c.args.templates.now c.loop-index.templates (g.W.Write.contents c.args.output.now)
    (g.W.Write.contents c.loop-index.output) c.loop-index.invariant.written (take asked.end list)
    (accepted_first c.args.templates.now asked.end list accepted)
    (first_octets asked.end c.min-end.result c.args.messages.now list octets c.min-end.ensures))

pub returns-in_err-has-clause-blameless : goal.returns-in_err-has-clause-blameless
returns-in_err-has-clause-blameless g c = λ list accepted octets.
    let asked = c.args.asked in
    let os = take c.min-end.result c.args.messages.now in
    let i = c.loop-index.index in
    let y = c.as_slice-octets.result.now in
    let here = next_item os i c.index-first-index.result y c.loop-index-test.true c.index-first-index.is
    c.as_slice-octets.ensures in
    let takes : Bool → RawMessage → Type 0 =
    λ has m. has ≡ list_any (starts_within asked.span.from asked.span.to) (flows_of (in_fields m)) in
    passed_on c.from_residual.result (refusal.Query (c.in_err-has.field-0).0) IsBlameless c.from_residual.ensures.1
    (next_blameless asked.span.from asked.span.to asked.skip i os c.args.templates.now c.loop-index.templates
    (g.W.Write.contents c.args.output.now) (g.W.Write.contents c.loop-index.output) c.loop-index.invariant.written
    (take asked.end list) (accepted_first c.args.templates.now asked.end list accepted)
    (first_octets asked.end c.min-end.result c.args.messages.now list octets c.min-end.ensures) takes (drop (i + 1) os) y
    c.has_flow.new.templates c.args.file c.loop-index.at (c.in_err-has.field-0).0 here c.in_err-has.ensures.walked)

pub returns-in_err-write_if-clause-part : goal.returns-in_err-write_if-clause-part
returns-in_err-write_if-clause-part g c =
    let span = c.args.asked.span in
    let x = c.in_ok-has.ensures.walked in
    on_err_always c.from_residual-in_err-write_if.result _
    (part_then span.from span.to (g.W.Write.contents c.args.output.now) (g.W.Write.contents c.loop-index.output)
    (g.W.Write.contents c.write_if.new.output) c.loop-index.invariant.whole
    (c.in_err-write_if.ensures.part span.from span.to
    (chosen_of_span span.from span.to c.as_slice-octets.result.now c.loop-index.templates c.has_flow.new.templates x.0 x.1
    (nat_le c.args.asked.skip c.loop-index.index) c.in_ok-has.has c.is_chosen-chosen.result x.2
    c.is_chosen-chosen.ensures)))

pub returns-in_err-write_if-clause-some : goal.returns-in_err-write_if-clause-some
returns-in_err-write_if-clause-some g c = λ list accepted octets.
    let asked = c.args.asked in
    let x = c.in_ok-has.ensures.walked in
    on_err_always c.from_residual-in_err-write_if.result _
    (one_part asked.span.from asked.span.to asked.skip c.loop-index.index (take c.min-end.result c.args.messages.now)
    c.index-first-index.result c.as_slice-octets.result.now c.loop-index-test.true c.index-first-index.is
    c.as_slice-octets.ensures c.args.templates.now c.loop-index.templates c.has_flow.new.templates
    (g.W.Write.contents c.args.output.now) (g.W.Write.contents c.loop-index.output)
    (g.W.Write.contents c.write_if.new.output) c.loop-index.invariant.written x.0 x.1 c.in_ok-has.has
    c.is_chosen-chosen.result x.2 c.is_chosen-chosen.ensures (take asked.end list)
    (accepted_first c.args.templates.now asked.end list accepted)
    (first_octets asked.end c.min-end.result c.args.messages.now list octets c.min-end.ensures)
    c.in_err-write_if.ensures.some)

pub returns-in_err-write_if-clause-blameless : goal.returns-in_err-write_if-clause-blameless
returns-in_err-write_if-clause-blameless g c = λ list accepted octets.
    let x = c.in_ok-has.ensures.walked in
    passed_on c.from_residual-in_err-write_if.result (c.in_err-write_if.field-0).0 IsBlameless
    c.from_residual-in_err-write_if.ensures.1
    (c.in_err-write_if.ensures.blameless
    (accepted_cut c.as_slice-octets.result.now c.loop-index.templates c.has_flow.new.templates x.0 x.1))

pub returns-clause-all : goal.returns-clause-all
returns-clause-all g c = λ list accepted octets.
    let asked = c.args.asked in
    all_so_far asked.span.from asked.span.to asked.skip c.loop-index.index (take c.min-end.result c.args.messages.now)
    c.args.templates.now c.loop-index.templates (g.W.Write.contents c.args.output.now)
    (g.W.Write.contents c.loop-index.output) c.loop-index.invariant.written (take asked.end list)
    (accepted_first c.args.templates.now asked.end list accepted)
    (first_octets asked.end c.min-end.result c.args.messages.now list octets c.min-end.ensures) c.loop-index-test.false
