use Rattle.std.proofs.Common.{◌≡◌, subst, sym, Bool}
use Rattle.flow_measure.specs.Sums.{AllFit}
use Rattle.flow_snapshot.specs.Shares.{added_if}
use Rattle.flow_snapshot.specs.Totals.{IsMade}
use Rattle.flow_snapshot.proofs.shares.add_own_file.Goals as goal

pub returns-clause-given : goal.returns-clause-given
returns-clause-given g c = λ honest sums is.
    let old = c.args.rows.now in
    subst (λ (b : Bool). IsMade c.args.first (AllFit (added_if b sums old))
    (λ _. c.add_file.new.rows ≡ added_if b sums old) c.add_file.result) (sym c.if-not-mine.false)
    (c.add_file.ensures.given honest sums is)
