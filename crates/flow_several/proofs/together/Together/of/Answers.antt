use Rattle.std.proofs.Common.{[], ◌∷◌}
use Rattle.flow_snapshot.specs.Totals.{first_file}
use Rattle.flow_several.specs.Together.{AreSumsOf, FitTogether}
use Rattle.flow_several.proofs.Adding.{err_made, of_parts, unshared, whole}
use Rattle.flow_several.proofs.together.Together.of.Goals as goal

pub returns-in_err-sums-clause-summed : goal.returns-in_err-sums-clause-summed
returns-in_err-sums-clause-summed g c = λ honest v is.
    let shelf = c.args.snapshot.now.shelf in
    err_made (first_file shelf) (FitTogether (v ∷ [])) (λ one. AreSumsOf one.sums (v ∷ [])) c.from_residual.result
    (c.in_err-sums.field-0).0 c.from_residual.ensures.1
    (unshared shelf v is (first_file shelf) (c.in_err-sums.field-0).0
    (rw c.first_file-first.ensures at (c.in_err-sums.ensures.share.given honest)))

pub returns-clause-summed : goal.returns-clause-summed
returns-clause-summed g c = λ honest v is.
    let own = whole c.args.snapshot.now.shelf v is c.in_ok-sums.sums (c.in_ok-sums.ensures.share.given honest) in
    (tt, own.0, own.1)

pub returns-clause-found : goal.returns-clause-found
returns-clause-found g c = λ honest.
    of_parts c.args.snapshot.now.shelf c.in_ok-sums.sums (c.in_ok-sums.ensures.share.found honest)
    (c.in_ok-sums.ensures.share.given honest)
