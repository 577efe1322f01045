use Rattle.std.proofs.Common.{◌≡◌, ◌∙◌, ◌+◌, Bool, List, ℕ, drop, sym, subst, take, Option}
use Rattle.std.proofs.lemmas.List.{take_all}
use Rattle.std.specs.List.{list_any}
use Rattle.flow_codec.specs.Message.{in_fields}
use Rattle.flow_codec.specs.Raw.{RawMessage}
use Rattle.flow_measure.specs.Flows.{flows_of}
use Rattle.flow_snapshot.proofs.KeptFlows.{next_item}
use Rattle.flow_export.specs.declared.finding.Found.{Found}
use Rattle.flow_export.specs.Span.{starts_within, FindsIn}
use Rattle.flow_export.proofs.FindingSpans.{finds_same, step_blameless, step_less, step_more}
use Rattle.flow_export.proofs.finding.find_in.Goals.{then-branch, else-branch}
use Rattle.flow_export.proofs.finding.find_in.Goals as goal

pub loop-index-preserved : goal.loop-index-preserved
loop-index-preserved c =
    let from = c.args.span.from in
    let to = c.args.span.to in
    let os = c.args.messages.now in
    let i = c.loop-index.index in
    let x = c.in_ok-has_flow.ensures.walked in
    let finds : Option Found → Type 0 =
    λ o. FindsIn from to (take (i + 1) os) c.args.templates.now c.has_flow.new.templates o in
    record {
      found = elim c.if-branch.branch [
        | then-branch w ↦ subst finds (sym w.found-is)
            (step_more from to os i c.index-messages-index.result c.as_slice-octets.result.now c.loop-index-test.true
            c.index-messages-index.is c.as_slice-octets.ensures c.args.templates.now c.loop-index.templates
            c.has_flow.new.templates c.loop-index.found c.loop-index.invariant.found x.0 x.1 w.with_message.result
            (sym x.2 ∙ w.if-branch.true) w.with_message.ensures.before w.with_message.ensures.upto)
        | else-branch w ↦ subst finds (sym w.found-is)
            (step_less from to os i c.index-messages-index.result c.as_slice-octets.result.now c.loop-index-test.true
            c.index-messages-index.is c.as_slice-octets.ensures c.args.templates.now c.loop-index.templates
            c.has_flow.new.templates c.loop-index.found c.loop-index.invariant.found x.0 x.1 (sym x.2 ∙ w.if-branch.false))
      ];
    }

pub returns-in_err-has_flow-clause-given : goal.returns-in_err-has_flow-clause-given
returns-in_err-has_flow-clause-given c = λ list accepted same.
    let span = c.args.span in
    let os = c.args.messages.now in
    let i = c.loop-index.index in
    let here = next_item os i c.index-messages-index.result c.as_slice-octets.result.now c.loop-index-test.true
    c.index-messages-index.is c.as_slice-octets.ensures in
    let takes : Bool → RawMessage → Type 0 =
    λ has m. has ≡ list_any (starts_within span.from span.to) (flows_of (in_fields m)) in
    step_blameless span.from span.to takes _ c.from_residual.result c.in_err-has_flow.field-0.0 os (drop (i + 1) os) i
    c.as_slice-octets.result.now list c.args.templates.now c.loop-index.templates c.has_flow.new.templates
    c.loop-index.found c.args.file c.loop-index.at here c.loop-index.invariant.found accepted same
    c.from_residual.ensures.1 c.in_err-has_flow.ensures.walked

pub returns-clause-given : goal.returns-clause-given
returns-clause-given c = λ list accepted same.
    let span = c.args.span in
    let os = c.args.messages.now in
    finds_same span.from span.to os c.args.templates.now c.loop-index.templates c.loop-index.found list
    (subst (λ (ms : List (List ℕ)). FindsIn span.from span.to ms c.args.templates.now c.loop-index.templates
    c.loop-index.found) (take_all c.loop-index.index os c.loop-index-test.false) c.loop-index.invariant.found)
    accepted same
