use Rattle.std.proofs.Common.{◌<◌, ◌+◌, ◌++◌, drop, slice_index_or, sym, ap, subst, ◌∙◌}
use Rattle.std.proofs.lemmas.List.{drop_all}
use Rattle.std.specs.FinMap.{entries}
use Rattle.flow_measure.specs.Sums.{Table, AllFit, with_entries, widened_key, widened_entries}
use Rattle.flow_measure.proofs.Intervals.{aligned}
use Rattle.flow_measure.proofs.Merging.{step_same, done, refused_on, refused_by}
use Rattle.flow_measure.proofs.Places.{next_is}
use Rattle.flow_measure.specs.Entries.{nothing}
use Rattle.flow_measure.proofs.rows.Rows.add_all.Goals as goal

pub put-requires-clause-aligned : goal.put-requires-clause-aligned
put-requires-clause-aligned c =
    let start = (slice_index_or c.args.entries.now c.loop-entry.entry-index nothing).0.start in
    rw (c.interval_of-start.ensures, c.loop-entry.invariant.width, c.width-width.ensures.width)
    (aligned start c.args.self.now.width
    (subst (λ w. 0 < w) c.width-width.ensures.width c.width-width.ensures.positive))

pub loop-entry-preserved : goal.loop-entry-preserved
loop-entry-preserved c =
    let width = c.args.self.now.width in
    let items = c.args.entries.now in
    let entry = slice_index_or items c.loop-entry.entry-index nothing in
    let rest = widened_entries width (drop (c.loop-entry.entry-index + 1) items) in
    let more = next_is items c.loop-entry.entry-index c.loop-entry-test.true in
    let same = rw more at c.loop-entry.invariant.same in
    let counted = rw more at c.loop-entry.invariant.counted in
    let h = rw (c.interval_of-start.ensures, c.width-width.ensures.width) at c.in_ok-put.ensures.becomes in
    record {
      width = ap (λ (t : Table). t.width) h.1 ∙ c.loop-entry.invariant.width;
      fit = subst AllFit (sym h.1) h.0;
      same = step_same c.loop-entry.self c.put.new.self (widened_key width entry.0) entry.1 rest
          (entries c.args.self.now.sums ++ widened_entries width items) h.1 same;
      counted = counted.1;
    }

pub returns-in_err-put : goal.returns-in_err-put
returns-in_err-put c =
    let width = c.args.self.now.width in
    let items = c.args.entries.now in
    let entry = slice_index_or items c.loop-entry.entry-index nothing in
    let rest = widened_entries width (drop (c.loop-entry.entry-index + 1) items) in
    let more = next_is items c.loop-entry.entry-index c.loop-entry-test.true in
    let same = rw more at c.loop-entry.invariant.same in
    let h = rw (c.interval_of-start.ensures, c.width-width.ensures.width) at c.in_err-put.ensures.becomes in
    refused_by c.from_residual.result c.in_err-put.field-0.0 (with_entries items c.args.self.now) _
    c.from_residual.ensures.1
    (refused_on c.in_err-put.field-0.0 width c.loop-entry.self (widened_key width entry.0) entry.1 rest
    (entries c.args.self.now.sums ++ widened_entries width items) same h.0)

pub returns : goal.returns
returns c =
    let width = c.args.self.now.width in
    let none = drop_all c.loop-entry.entry-index c.args.entries.now c.loop-entry-test.false in
    let same = rw none at c.loop-entry.invariant.same in
    done width c.loop-entry.self (entries c.args.self.now.sums ++ widened_entries width c.args.entries.now)
    c.loop-entry.invariant.width c.loop-entry.invariant.fit same
