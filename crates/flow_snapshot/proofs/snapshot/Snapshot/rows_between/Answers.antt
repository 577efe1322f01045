use Rattle.std.proofs.Common.{Vec, Global}
use Rattle.flow_measure.specs.declared.rows.Row.{Row}
use Rattle.flow_measure.specs.Query.{narrow_table_in}
use Rattle.flow_measure.specs.Sums.{AllFit}
use Rattle.flow_snapshot.specs.Totals.{wide_table_in, SumsFit}
use Rattle.flow_snapshot.proofs.Adding.{made_err}
use Rattle.flow_snapshot.proofs.Totalling.{both_made}
use Rattle.flow_snapshot.proofs.Whole.{both_read}
use Rattle.flow_snapshot.proofs.snapshot.Snapshot.rows_between.Goals as goal

pub returns-in_err-narrow-clause-given : goal.returns-in_err-narrow-clause-given
returns-in_err-narrow-clause-given g c = λ honest v is.
    made_err _ _ (AllFit (narrow_table_in v)) (SumsFit v) c.from_residual.result
    c.in_err-narrow.field-0.0 (λ fit. fit.narrow) c.from_residual.ensures.1
    (rw c.first_file-first.ensures at (c.in_err-narrow.ensures.given honest v is))

pub returns-in_err-wide-clause-given : goal.returns-in_err-wide-clause-given
returns-in_err-wide-clause-given g c = λ honest v is.
    made_err _ _ (AllFit (wide_table_in v)) (SumsFit v) c.from_residual-in_err-wide.result
    c.in_err-wide.field-0.0 (λ fit. fit.wide) c.from_residual-in_err-wide.ensures.1
    (rw c.first_file-first.ensures at (c.in_err-wide.ensures.given honest v is))

pub returns-clause-found : goal.returns-clause-found
returns-clause-found g c = λ honest.
    both_read (λ (rows : Vec Row Global). rows.items) c.args.self.now.shelf c.in_ok-narrow.narrow c.in_ok-wide.wide
    c.args.from c.args.to _ _ c.rows_of_both.result (c.in_ok-wide.ensures.found honest)
    (c.in_ok-narrow.ensures.found honest) c.rows_of_both.ensures.made

pub returns-clause-given : goal.returns-clause-given
returns-clause-given g c = λ honest v is.
    let made = rw c.first_file-first.ensures at c.rows_of_both.ensures.made in
    both_made v c.in_ok-narrow.narrow c.in_ok-wide.wide (c.in_ok-narrow.ensures.given honest v is)
    (c.in_ok-wide.ensures.given honest v is) c.args.from c.args.to (λ (rows : Vec Row Global). rows.items) _
    c.rows_of_both.result made
