use Rattle.std.proofs.Common.{◌≡◌, ℕ, drop, None, refl, subst, ◌+◌, arith}
use Rattle.std.proofs.Common.{length-drop}
use Rattle.std.proofs.lemmas.List.{drop_more}
use Rattle.flow_rolled.specs.declared.row.RolledRow.{RolledRow}
use Rattle.flow_rolled.proofs.Grouping.{no_length}
use Rattle.flow_rolled.proofs.WrittenParts.{IsCounted, count_more, count_full, count_other, count_end}
use Rattle.flow_rolled.proofs.encoding.group_len.Goals as goal
use Rattle.flow_rolled.proofs.encoding.group_len.Goals.{then-count-eq-FULL-via-then-count-eq-FULL}
use Rattle.flow_rolled.proofs.encoding.group_len.Goals.{then-count-eq-FULL-via-else-count-eq-FULL+then-row-domain}

abbrev none : RolledRow
none = record { key = record { start = 0; domain = 0; protocol = None }; flows = 0; octets = 0; packets = 0 }

pub loop-row-init : goal.loop-row-init
loop-row-init c = (1000, refl, let e : (n : ℕ) → n ≡ 0 + n = λ n. omega arith in e _)

pub returns-then-count-eq-FULL : goal.returns-then-count-eq-FULL
returns-then-count-eq-FULL c =
    let rows = c.args.rows.now in
    elim c.then-count-eq-FULL.branch [
      | then-count-eq-FULL-via-then-count-eq-FULL w ↦ count_full c.loop-row.count c.args.domain rows
          (drop c.loop-row.row-index rows) w.if-count-eq-FULL.true c.loop-row.invariant
      | then-count-eq-FULL-via-else-count-eq-FULL+then-row-domain w ↦ count_other c.loop-row.count c.args.domain rows _
          (drop (c.loop-row.row-index + 1) rows) w.if-row-domain.true
          (subst (IsCounted c.loop-row.count c.args.domain rows)
          (drop_more rows c.loop-row.row-index none c.loop-row-test.true) c.loop-row.invariant)
    ]

pub loop-row-preserved : goal.loop-row-preserved
loop-row-preserved c =
    let rows = c.args.rows.now in
    count_more c.loop-row.count c.args.domain rows _
    (drop (c.loop-row.row-index + 1) rows) c.if-count-eq-FULL.false c.if-row-domain.false
    (subst (IsCounted c.loop-row.count c.args.domain rows)
    (drop_more rows c.loop-row.row-index none c.loop-row-test.true) c.loop-row.invariant)

pub returns : goal.returns
returns c =
    let rows = c.args.rows.now in
    count_end c.loop-row.count c.args.domain rows (drop c.loop-row.row-index rows)
    (no_length _ (let l = length-drop c.loop-row.row-index rows in
    omega (arith, l, c.loop-row-test.false))) c.loop-row.invariant
