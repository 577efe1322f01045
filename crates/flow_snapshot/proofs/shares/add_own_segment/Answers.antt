use Rattle.std.proofs.Common.{◌≡◌, Bool, subst, sym}
use Rattle.flow_measure.specs.Sums.{AllFit}
use Rattle.flow_snapshot.specs.Shares.{added_if}
use Rattle.flow_snapshot.specs.Totals.{IsMade}
use Rattle.flow_snapshot.proofs.Dealt.{then_ok}
use Rattle.flow_snapshot.proofs.shares.add_own_segment.Goals as goal

pub returns-clause-given : goal.returns-clause-given
returns-clause-given g c = λ honest sums is.
    let old = c.args.rows.now in
    subst (λ (b : Bool). IsMade c.args.first (AllFit (added_if b sums old))
    (λ _. c.add_whole.new.rows ≡ added_if b sums old) c.add_whole.result) (sym c.if-not-mine.false)
    (c.add_whole.ensures.given honest sums is)

pub returns-clause-found : goal.returns-clause-found
returns-clause-found g c = λ honest.
    then_ok _ _ c.add_whole.result (λ found _. found) (c.add_whole.ensures.found honest)
