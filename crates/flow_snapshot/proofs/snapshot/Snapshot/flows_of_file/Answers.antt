use Rattle.std.proofs.Common.{◌∙◌, ◌++◌, List, ap, subst, sym}
use Rattle.flow_measure.specs.declared.flow.Flow.{Flow}
use Rattle.flow_snapshot.specs.Found.{HaveOwnFlows}
use Rattle.flow_snapshot.proofs.KeptFlows.{answered_err}
use Rattle.flow_snapshot.proofs.snapshot.Snapshot.flows_of_file.Goals as goal

pub returns-in_err-collect_file-clause-given : goal.returns-in_err-collect_file-clause-given
returns-in_err-collect_file-clause-given g c = λ honest file there own has.
    answered_err _ c.from_residual.result _ c.from_residual.ensures.1
    (c.in_err-collect_file.ensures.given honest file there own has)

pub returns-clause-found : goal.returns-clause-found
returns-clause-found g c = λ honest file there.
    let found = c.in_ok-collect_file.ensures.found honest file there in
    subst (HaveOwnFlows c.args.from c.args.to file)
    (sym (found.2 ∙ ap (λ (fs : List Flow). fs ++ found.0) c.new-flows.ensures.items)) found.1

pub returns-clause-given : goal.returns-clause-given
returns-clause-given g c = λ honest file there own has.
    c.in_ok-collect_file.ensures.given honest file there own has
    ∙ ap (λ (fs : List Flow). fs ++ own) c.new-flows.ensures.items
