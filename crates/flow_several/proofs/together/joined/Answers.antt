use Rattle.std.proofs.Common.{Some, refl, subst, sym}
use Rattle.flow_several.specs.Together.{AreJoined}
use Rattle.flow_several.proofs.together.joined.Goals as goal

pub returns-in_ok-sums-in-Some : goal.returns-in_ok-sums-in-Some
returns-in_ok-sums-in-Some c =
    subst (λ o. AreJoined c.args.all o (Some c.in_ok-sums-in-Some.sums)) (sym c.in-Some.is)
    (c.in_ok-sums-in-Some.sums, c.in_ok-sums-in-Some.ensures, refl)
