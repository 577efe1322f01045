use Rattle.std.proofs.Common.{◌+◌, ◌++◌, drop, get_or, None, sym, ap, subst, ◌∙◌}
use Rattle.std.proofs.lemmas.List.{drop_all}
use Rattle.std.specs.FinMap.{entries}
use Rattle.flow_measure.specs.Sums.{Table, AllFit, with_sums, widened_key, widened_entries}
use Rattle.flow_measure.proofs.Merging.{step_same, done, refused_on}
use Rattle.flow_rolled.specs.declared.row.RolledRow.{RolledRow}
use Rattle.flow_rolled.specs.Rows.{sums_in, entries_in}
use Rattle.flow_rolled.specs.Stored.{AreCounted, with_rows}
use Rattle.flow_rolled.proofs.Widened.{next_row, refused_so}
use Rattle.flow_rolled.proofs.summing.add_widened.Goals as goal

abbrev none : RolledRow
none = record { key = record { start = 0; domain = 0; protocol = None }; flows = 0; octets = 0; packets = 0 }

pub loop-row-preserved : goal.loop-row-preserved
loop-row-preserved c =
    let width = c.args.rows.now.width in
    let items = c.args.list.now in
    let r = get_or items c.loop-row.row-index none in
    let left = drop (c.loop-row.row-index + 1) items in
    let more = next_row items c.loop-row.row-index none c.loop-row-test.true in
    let same = rw more at c.loop-row.invariant.same in
    let counted = rw more at c.loop-row.invariant.counted in
    let h = rw (c.widened_key.ensures, c.width-width.ensures.width, c.sums_in.ensures) at c.in_ok-put.ensures.becomes in
    let is = h.1 ∙ ap (λ w. with_sums (widened_key w r.key) (sums_in r) c.loop-row.rows)
    (sym c.loop-row.invariant.width) in
    record {
      width = ap (λ (t : Table). t.width) h.1 ∙ c.loop-row.invariant.width;
      fit = subst AllFit (sym h.1) h.0;
      same = step_same c.loop-row.rows c.put.new.self (widened_key width r.key) (sums_in r)
          (widened_entries width (entries_in left))
          (entries c.args.rows.now.sums ++ widened_entries width (entries_in items)) h.1 same;
      counted = subst (λ t. AreCounted t left) (sym is) counted.1;
    }

pub returns-in_err-put : goal.returns-in_err-put
returns-in_err-put c =
    let width = c.args.rows.now.width in
    let items = c.args.list.now in
    let r = get_or items c.loop-row.row-index none in
    let left = widened_entries width (entries_in (drop (c.loop-row.row-index + 1) items)) in
    let more = next_row items c.loop-row.row-index none c.loop-row-test.true in
    let same = rw more at c.loop-row.invariant.same in
    let h = rw (c.widened_key.ensures, c.width-width.ensures.width, c.sums_in.ensures) at c.in_err-put.ensures.becomes
    in
    refused_so c.from_residual.result c.in_err-put.field-0.0 (with_rows items c.args.rows.now) _ _
    c.from_residual.ensures.1
    (refused_on c.in_err-put.field-0.0 width c.loop-row.rows (widened_key width r.key) (sums_in r) left
    (entries c.args.rows.now.sums ++ widened_entries width (entries_in items)) same h.0)
    (ap (λ (t : Table). t.width) h.1 ∙ c.loop-row.invariant.width)

pub returns : goal.returns
returns c =
    let width = c.args.rows.now.width in
    let none = drop_all c.loop-row.row-index c.args.list.now c.loop-row-test.false in
    let same = rw none at c.loop-row.invariant.same in
    done width c.loop-row.rows (entries c.args.rows.now.sums ++ widened_entries width (entries_in c.args.list.now))
    c.loop-row.invariant.width c.loop-row.invariant.fit same
