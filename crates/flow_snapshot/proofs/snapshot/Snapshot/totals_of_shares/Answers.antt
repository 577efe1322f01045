use Rattle.std.proofs.Common.{Vec, Global}
use Rattle.flow_measure.specs.declared.rows.Row.{Row}
use Rattle.flow_measure.specs.View.{view_of}
use Rattle.flow_snapshot.specs.Shares.{AllPartsFit}
use Rattle.flow_snapshot.specs.Totals.{SumsFit}
use Rattle.flow_snapshot.proofs.Adding.{made_err}
use Rattle.flow_snapshot.proofs.LeftOut.{are_ms, are_ns, ms, ns, within_fit, within_made, within_read}
use Rattle.flow_snapshot.proofs.ViewParts.{parts_of}
use Rattle.flow_snapshot.proofs.Totalling.{answered_within}
use Rattle.flow_snapshot.proofs.snapshot.Snapshot.totals_of_shares.Goals as goal

pub returns-in_err-sums-clause-given : goal.returns-in_err-sums-clause-given
returns-in_err-sums-clause-given g c = λ honest v is.
    let s = c.args.self.now.shelf in
    let t = c.args.parts.now.shelf in
    let p = parts_of s v is in
    let w = c.requires.parts honest in
    let from = c.args.from in
    let to = c.args.to in
    let wide = ms from to s t w.1 v p in
    let narrow = ns from to s t w.1 v p in
    made_err _ _ (AllPartsFit t wide narrow) (SumsFit v) c.from_residual.result c.in_err-sums.field-0.0
    (within_fit from to s t w.1 v p) c.from_residual.ensures.1
    (rw c.first_file-first.ensures at
    (c.in_err-sums.ensures.given w.0 wide narrow (are_ms from to s t w.1 v p) (are_ns from to s t w.1 v p)))

pub returns-clause-given : goal.returns-clause-given
returns-clause-given g c = λ honest v is.
    let s = c.args.self.now.shelf in
    let t = c.args.parts.now.shelf in
    let p = parts_of s v is in
    let w = c.requires.parts honest in
    let from = c.args.from in
    let to = c.args.to in
    let right = c.in_ok-sums.ensures.given w.0 (ms from to s t w.1 v p) (ns from to s t w.1 v p)
    (are_ms from to s t w.1 v p) (are_ns from to s t w.1 v p) in
    let made = rw c.first_file-first.ensures at c.rows_of_both.ensures.made in
    within_made from to s t w.1 v p c.in_ok-sums.sums.narrow c.in_ok-sums.sums.wide right.1 right.0
    (λ (rows : Vec Row Global). rows.items) _ c.rows_of_both.result made

pub returns-clause-found : goal.returns-clause-found
returns-clause-found g c = λ honest.
    let w = c.requires.parts honest in
    let found = c.in_ok-sums.ensures.found w.0 in
    within_read c.args.from c.args.to c.args.self.now.shelf c.args.parts.now.shelf w.1
    (λ (rows : Vec Row Global). rows.items) c.in_ok-sums.sums _ _ c.rows_of_both.result found
    (c.in_ok-sums.ensures.given w.0 found.0 found.1 found.2 found.3) c.rows_of_both.ensures.made

pub returns-in_err-sums-clause-answered : goal.returns-in_err-sums-clause-answered
returns-in_err-sums-clause-answered g c = λ honest h counts is all within view.
    answered_within h counts is all within (λ (rows : Vec Row Global). rows.items) c.args.from c.args.to _
    c.from_residual.result (returns-in_err-sums-clause-given g c honest (view_of h counts) view)

pub returns-clause-answered : goal.returns-clause-answered
returns-clause-answered g c = λ honest h counts is all within view.
    answered_within h counts is all within (λ (rows : Vec Row Global). rows.items) c.args.from c.args.to _
    c.rows_of_both.result (returns-clause-given g c honest (view_of h counts) view)
