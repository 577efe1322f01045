use Rattle.std.proofs.Common.{None}
use Rattle.std.proofs.Common.{sym, subst}
use Rattle.std.proofs.lemmas.List.{drop_more}
use Rattle.flow_rolled.specs.declared.row.RolledRow.{RolledRow}
use Rattle.flow_rolled.specs.Rows.{AllMayFollow}
use Rattle.flow_rolled.proofs.judging.are_in_order.Goals as goal

abbrev none : RolledRow
none = record { key = record { start = 0; domain = 0; protocol = None }; flows = 0; octets = 0; packets = 0 }

pub returns-then-not-may_follow-clause-all : goal.returns-then-not-may_follow-clause-all
returns-then-not-may_follow-clause-all c = λ all.
    let rest = subst (AllMayFollow c.loop-row.last)
    (drop_more c.args.rows.now c.loop-row.row-index none c.loop-row-test.true) (c.loop-row.invariant.1 all) in
    let now = c.may_follow.ensures.all rest.0 in
    absurd cc

pub loop-row-preserved : goal.loop-row-preserved
loop-row-preserved c =
    let more = drop_more c.args.rows.now c.loop-row.row-index none c.loop-row-test.true in
    let now = c.may_follow.ensures.yes (c.if-not-may_follow.false) in (
      λ rest. c.loop-row.invariant.0 (subst (AllMayFollow c.loop-row.last) (sym more) (now, rest)),
      λ all. (subst (AllMayFollow c.loop-row.last) more (c.loop-row.invariant.1 all)).1,
    )
