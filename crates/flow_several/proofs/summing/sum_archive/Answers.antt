use Rattle.flow_refusals.specs.declared.read_refusal.ReadRefusal.TheVariants as query
use Rattle.flow_several.specs.declared.error.TogetherError.TheVariants as together
use Rattle.flow_several.specs.declared.refusal.SummingRefusal.TheVariants.{Sums}
use Rattle.flow_several.specs.Several.{IsNotSummedAlone, IsSummedAlone}
use Rattle.flow_several.proofs.OneByOne.{err_matched, not_alone, summed_alone}
use Rattle.flow_several.proofs.summing.sum_archive.Goals as goal

pub returns-in_err-directory-clause-summed : goal.returns-in_err-directory-clause-summed
returns-in_err-directory-clause-summed g c = λ h reads stands.
    let seen = c.one_view_of_a_state.ensures.there c.args.archive.now.state stands.files.chained in
    err_matched c.from_residual.result (Sums (together.Query query.OutOfMemory)) (λ one. IsSummedAlone reads one.sums)
    (IsNotSummedAlone reads) c.from_residual.ensures.1
    (c.args.archive.now.state, seen.0, stands, seen.1, tt)

pub returns-in_err-one-clause-summed : goal.returns-in_err-one-clause-summed
returns-in_err-one-clause-summed g c = λ h reads stands.
    let s = c.args.archive.now.state in
    let seen = c.one_view_of_a_state.ensures.there s stands.files.chained in
    let e = (c.in_err-one.field-0).0 in
    err_matched c.from_residual-in_err-one.result (Sums (together.Query e)) (λ one. IsSummedAlone reads one.sums)
    (IsNotSummedAlone reads) c.from_residual-in_err-one.ensures.1
    (not_alone reads s stands seen.0 seen.1 c.into_snapshot-snapshot.result c.in_ok-directory.directory
    c.into_snapshot-snapshot.ensures (c.in_ok-directory.ensures.shown h) e c.in_err-one.ensures.summed)

pub returns-clause-summed : goal.returns-clause-summed
returns-clause-summed g c = λ h reads stands.
    let s = c.args.archive.now.state in
    let seen = c.one_view_of_a_state.ensures.there s stands.files.chained in
    summed_alone reads s stands seen.0 seen.1 c.into_snapshot-snapshot.result c.in_ok-directory.directory
    c.into_snapshot-snapshot.ensures (c.in_ok-directory.ensures.shown h) c.in_ok-one.one.sums
    c.in_ok-one.ensures.summed
