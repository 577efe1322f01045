use Rattle.std.proofs.Common.{rules, ◌≡◌, ◌∙◌, true, ap, sym}
use Rattle.std.specs.Prelude.{filter}
use Rattle.std.proofs.lemmas.Fn.{filter_same}
use Rattle.std.proofs.lemmas.List.Elements.{All-same, filter_passes}
use Rattle.flow_measure.specs.declared.flow.Flow.{Flow}
use Rattle.flow_measure.specs.History.{flows_in}
use Rattle.flow_snapshot.proofs.KeptFlows.{answered_err}
use Rattle.flow_several.specs.Flows.{starts_in}
use Rattle.flow_several.proofs.Listed.{filter_all}
use Rattle.flow_several.proofs.listing.flows_of_file.Goals as goal

pub returns-clause-within : goal.returns-clause-within
returns-clause-within g c =
    let test = starts_in c.args.listing.now.from c.args.listing.now.to in
    let kept : c.retain.new.self.items ≡ filter test c.in_ok-flows.flows.items =
    filter_same _ test _ (λ x b f' k. search rules) _ _ c.retain.ensures.filtered in
    All-same (λ (f : Flow). test f ≡ true) _ _ kept (filter_passes test c.in_ok-flows.flows.items)

pub returns-clause-given : goal.returns-clause-given
returns-clause-given g c honest file there own has =
    let test = starts_in c.args.listing.now.from c.args.listing.now.to in
    let kept : c.retain.new.self.items ≡ filter test c.in_ok-flows.flows.items =
    filter_same _ test _ (λ x b f' k. search rules) _ _ c.retain.ensures.filtered in
    let given = c.in_ok-flows.ensures.given honest file there own has in
    kept ∙ ap (filter test) (given ∙ has.5) ∙ filter_all test _ (filter_passes test (flows_in has.1)) ∙ sym has.5

pub returns-in_err-flows-clause-given : goal.returns-in_err-flows-clause-given
returns-in_err-flows-clause-given g c = λ honest file there own has.
    answered_err _ c.from_residual.result _ c.from_residual.ensures.1
    (c.in_err-flows.ensures.given honest file there own has)
