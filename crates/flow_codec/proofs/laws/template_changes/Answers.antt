use Rattle.flow_codec.proofs.ChangeLaws.{defined, not_defined, withdrawn, not_withdrawn, all_withdrawn, other_domain}
use Rattle.flow_codec.proofs.laws.template_changes.Goals as goal

pub returns-clause-defined : goal.returns-clause-defined
returns-clause-defined c = λ domain id kind layout all once h. defined domain id kind layout all once h

pub returns-clause-not_defined : goal.returns-clause-not_defined
returns-clause-not_defined c =
    λ domain id other kind layout all once differ. not_defined domain id other kind layout all once differ

pub returns-clause-withdrawn : goal.returns-clause-withdrawn
returns-clause-withdrawn c = λ domain id kind all once h. withdrawn domain id kind all once h

pub returns-clause-not_withdrawn : goal.returns-clause-not_withdrawn
returns-clause-not_withdrawn c =
    λ domain id other kind all once differ. not_withdrawn domain id other kind all once differ

pub returns-clause-all_withdrawn : goal.returns-clause-all_withdrawn
returns-clause-all_withdrawn c = λ domain id kind all once h. all_withdrawn domain id kind all once h

pub returns-clause-domains : goal.returns-clause-domains
returns-clause-domains c = λ domain other kind change all differ. other_domain domain other kind change all differ
