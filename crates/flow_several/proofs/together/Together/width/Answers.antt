use Rattle.std.proofs.Common.{◌≡◌, ◌∙◌, subst}
use Rattle.flow_several.specs.Together.{first_width, width_of_sums}
use Rattle.flow_several.proofs.Adding.{width_first}
use Rattle.flow_several.proofs.together.Together.width.Goals as goal

pub returns-in-Some-clause-views : goal.returns-in-Some-clause-views
returns-in-Some-clause-views c = λ vs are.
    c.width.ensures.width ∙ subst (λ o. width_of_sums o ≡ first_width vs) c.in-Some.is (width_first c.args.self.now.sums vs are)

pub returns-in-None-clause-views : goal.returns-in-None-clause-views
returns-in-None-clause-views c = λ vs are.
    subst (λ o. width_of_sums o ≡ first_width vs) c.in-None.is (width_first c.args.self.now.sums vs are)
