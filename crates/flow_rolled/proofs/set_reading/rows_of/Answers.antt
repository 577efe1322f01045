use Rattle.std.proofs.Common.{rules, ◌<◌, length, sym, ap, ◌∙◌, arith, length-append}
use Rattle.std.proofs.lemmas.Bool.{eqb-true, eqb-false}
use Rattle.flow_rolled.specs.Octets.{row_octets}
use Rattle.flow_rolled.proofs.PartOctets.{row_long}
use Rattle.flow_rolled.proofs.RowSets.{none_read, one_more_read, no_rows, all_read, no_octets}
use Rattle.flow_rolled.proofs.set_reading.rows_of.Goals as goal

pub loop-rest-init : goal.loop-rest-init
loop-rest-init c = none_read c.args.width c.args.domain c.args.with c.args.octets.now c.new-rows.result.items
    (search rules)

pub returns-in_default-clause-none : goal.returns-in_default-clause-none
returns-in_default-clause-none c =
    let some = eqb-false (length c.loop-rest.rest.now) 0 (sym c.is_empty.ensures ∙ c.loop-rest-test.true) in
    let none = rw c.in_default.is at c.take_row.ensures.none in
    no_rows c.args.width c.args.domain c.args.with c.args.octets.now c.loop-rest.rest.now
    (omega (arith, some)) c.loop-rest.invariant.others none

pub loop-rest-smaller : goal.loop-rest-smaller
loop-rest-smaller c =
    let found = rw c.in-Some.is at c.take_row.ensures.found in
    let l = ap length found.0 in
    let m = length-append (row_octets c.args.width c.in-Some.row) c.in-Some.after.now in
    let n = (row_long c.args.width c.in-Some.row).0 in
    let less : length c.in-Some.after.now < length c.loop-rest.rest.now = omega (arith, l, m, n) in less

pub loop-rest-preserved : goal.loop-rest-preserved
loop-rest-preserved c =
    let found = rw c.in-Some.is at c.take_row.ensures.found in
    one_more_read c.args.width c.args.domain c.args.with c.args.octets.now c.loop-rest.rest.now c.in-Some.after.now
    c.loop-rest.rows.items _ c.in-Some.row c.ranges.width.fits found.1 found.0 c.in_ok-push.ensures.items
    c.loop-rest.invariant

pub returns-clause-found : goal.returns-clause-found
returns-clause-found c =
    let none = eqb-true (length c.loop-rest.rest.now) 0 (sym c.is_empty.ensures ∙ c.loop-rest-test.false) in
    all_read c.args.width c.args.octets.now c.loop-rest.rest.now c.loop-rest.rows.items c.loop-rest.invariant.read
    (no_octets c.loop-rest.rest.now none)
