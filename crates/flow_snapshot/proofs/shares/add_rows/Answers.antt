use Rattle.std.proofs.Common.{◌<◌, ◌++◌, refl, sym, ap, subst, ◌∙◌}
use Rattle.std.specs.FinMap.{entries}
use Rattle.std.specs.List.{AllByRecursion}
use Rattle.flow_measure.specs.Sums.{gathered, merged, widened_entries, widened_key, AllFit, Table}
use Rattle.flow_measure.specs.Sums.{IsRefused}
use Rattle.flow_measure.proofs.Intervals.{aligned}
use Rattle.flow_measure.proofs.Merging.{done, refused_by, refused_on, sound_entries, step_same, with_own}
use Rattle.flow_snapshot.proofs.shares.add_rows.Goals as goal

pub rows-init : goal.rows-init
rows-init c =
    let rows = c.args.rows.now in
    let other = c.args.other.now in
    record {
      width = refl;
      fit = c.width-width.ensures.fit;
      same = ap (λ es. gathered (entries rows.sums ++ widened_entries rows.width es)) c.walk-walk.ensures;
      counted = subst (AllByRecursion (λ e. 0 < e.1.flows)) (sym c.walk-walk.ensures)
          (sound_entries other.width other.sums c.width-width-2.ensures.sound);
    }

pub put-requires-clause-aligned : goal.put-requires-clause-aligned
put-requires-clause-aligned c =
    rw (c.interval_of-start.ensures, c.rows.invariant.width, c.width-width.ensures.width)
    (aligned c.in-Some.key.start c.args.rows.now.width
    (subst (λ w. 0 < w) c.width-width.ensures.width c.width-width.ensures.positive))

pub rows-preserved : goal.rows-preserved
rows-preserved c =
    let width = c.args.rows.now.width in
    let rest = widened_entries width c.next.new.self in
    let same = rw c.in-Some.ensures at c.rows.invariant.same in
    let counted = rw c.in-Some.ensures at c.rows.invariant.counted in
    let h = rw (c.interval_of-start.ensures, c.width-width.ensures.width) at c.in_ok-put.ensures.becomes in
    record {
      width = ap (λ (t : Table). t.width) h.1 ∙ c.rows.invariant.width;
      fit = subst AllFit (sym h.1) h.0;
      same = step_same c.rows.rows c.put.new.self (widened_key width c.in-Some.key) c.in-Some.sums rest
          (entries c.args.rows.now.sums ++ widened_entries width (entries c.args.other.now.sums)) h.1 same;
      counted = counted.1;
    }

pub returns-in_err-put : goal.returns-in_err-put
returns-in_err-put c = λ wide.
    let rows = c.args.rows.now in
    let other = c.args.other.now in
    let width = rows.width in
    let rest = widened_entries width c.next.new.self in
    let same = rw c.in-Some.ensures at c.rows.invariant.same in
    let h = rw (c.interval_of-start.ensures, c.width-width.ensures.width) at c.in_err-put.ensures.becomes in
    let whole = with_own rows other (entries other.sums) wide refl c.width-width-2.ensures.sound in
    refused_by c.from_residual.result c.in_err-put.field-0.0 (merged rows other) _ c.from_residual.ensures.1
    (subst (IsRefused c.in_err-put.field-0.0) whole
    (refused_on c.in_err-put.field-0.0 width c.rows.rows (widened_key width c.in-Some.key) c.in-Some.sums rest
    (entries rows.sums ++ widened_entries width (entries other.sums)) same h.0))

pub returns : goal.returns
returns c = λ wide.
    let rows = c.args.rows.now in
    let other = c.args.other.now in
    let width = rows.width in
    let same = rw (c.in_default.ensures).0 at c.rows.invariant.same in
    let whole = with_own rows other (entries other.sums) wide refl c.width-width-2.ensures.sound in
    let h = done width c.rows.rows (entries rows.sums ++ widened_entries width (entries other.sums))
    c.rows.invariant.width c.rows.invariant.fit same in
    (subst AllFit whole h.0, h.1 ∙ whole)
