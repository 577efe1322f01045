use Rattle.std.proofs.Common.{subst}
use Rattle.flow_several.specs.Several.{IsNotSummed, IsOwnAnswer, IsSummedWith}
use Rattle.flow_several.specs.declared.refusal.SummingRefusal.TheVariants.{Sums}
use Rattle.flow_several.proofs.OneByOne.{err_matched, joined_with, not_joined, not_with}
use Rattle.flow_several.proofs.summing.sums_with.Goals as goal

pub returns-in_err-one-clause-summed : goal.returns-in_err-one-clause-summed
returns-in_err-one-clause-summed c = λ reads own vs are.
    let e = (c.in_err-one.field-0).0 in
    err_matched c.from_residual.result e (λ more. IsSummedWith reads vs more.sums) (IsNotSummed reads vs)
    c.from_residual.ensures.1 (not_with reads vs e (subst (IsOwnAnswer reads) c.in_err-one.was own))

pub returns-in_err-more-clause-summed : goal.returns-in_err-more-clause-summed
returns-in_err-more-clause-summed c = λ reads own vs are.
    let e = (c.in_err-more.field-0).0 in
    err_matched c.from_residual-in_err-more.result (Sums e) (λ more. IsSummedWith reads vs more.sums)
    (IsNotSummed reads vs) c.from_residual-in_err-more.ensures.1
    (not_joined reads c.in_ok-one.one.sums c.args.all.sums vs are (subst (IsOwnAnswer reads) c.in_ok-one.was own) e
    c.in_err-more.ensures.views)

pub returns-clause-summed : goal.returns-clause-summed
returns-clause-summed c = λ reads own vs are.
    joined_with reads c.in_ok-one.one.sums c.args.all.sums vs are (subst (IsOwnAnswer reads) c.in_ok-one.was own)
    c.in_ok-more.more.sums c.in_ok-more.ensures.views
