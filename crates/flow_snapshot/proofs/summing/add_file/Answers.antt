use Rattle.std.proofs.Common.{◌<◌, ◌^◌, refl, subst, sym, arith}
use Rattle.flow_measure.specs.Sums.{merged, AllFit}
use Rattle.flow_snapshot.specs.Totals.{IsTotalsRefusal}
use Rattle.flow_snapshot.proofs.Adding.{file_added, file_not_added}
use Rattle.flow_snapshot.proofs.Finding.{own_sums}
use Rattle.flow_snapshot.proofs.summing.add_file.Goals as goal

pub returns-in-Ok-clause-found : goal.returns-in-Ok-clause-found
returns-in-Ok-clause-found g c = λ honest.
    let added = (rw c.width-width.ensures.width at c.in-Ok.ensures.added) honest in
    (added.table.sums, own_sums c.args.rows.now.width c.args.part.now.octets added.table added.rollup)

pub returns-in-Ok-clause-given : goal.returns-in-Ok-clause-given
returns-in-Ok-clause-given g c = λ honest sums is.
    let old = c.args.rows.now in
    let small : old.width < 2 ^ 32 = omega (arith, c.width-width.ensures.width) in
    let added = rw c.width-width.ensures.width at c.in-Ok.ensures.added in
    file_added old.width small c.args.part.now.octets sums is old refl c.sum_rows.new.rows (added honest)

pub returns-in-Err-clause-given : goal.returns-in-Err-clause-given
returns-in-Err-clause-given g c = λ honest sums is.
    let old = c.args.rows.now in
    let small : old.width < 2 ^ 32 = omega (arith, c.width-width.ensures.width) in
    let refused = rw c.width-width.ensures.width at c.in-Err.ensures.refused in
    subst (IsTotalsRefusal c.args.first (AllFit (merged old (record { width = old.width; sums = sums }))))
    (sym c.told_of_file.ensures) (file_not_added old.width small c.args.part.now.octets sums is old refl c.args.first
    c.args.part.now c.in-Err.error refl (refused honest))
