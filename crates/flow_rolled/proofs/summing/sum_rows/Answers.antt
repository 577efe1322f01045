use Rattle.std.proofs.Common.{◌≡◌, ◌<◌, ◌^◌, List, [], ◌++◌, None, refl, sym, ap, subst, ◌∙◌}
use Rattle.std.specs.Prelude.{IsTrue}
use Rattle.flow_measure.specs.Sums.{Table, IsRefused}
use Rattle.flow_rolled.specs.declared.row.RolledRow.{RolledRow}
use Rattle.flow_rolled.specs.Messages.{last_from}
use Rattle.flow_measure.specs.Printed.{sum_refusal}
use Rattle.flow_refusals.specs.Printed.{sum_of_read}
use Rattle.flow_rolled.specs.Stored.{Rollup, Reader, HasGiven, IsAdded, IsNotAdded, IsSpentBy, AreCounted, with_rows}
use Rattle.flow_rolled.proofs.Counted.{given_in_order, added, not_added, not_spent, spent_by, err_as}
use Rattle.flow_rolled.proofs.Widened.{HasKey, counted, rows_none, rows_both, key_after, last_behind}
use Rattle.flow_rolled.proofs.summing.sum_rows.Goals as goal

pub loop-reader-init : goal.loop-reader-init
loop-reader-init g c = (
  [],
  record {
    part = ap (λ (r : Reader). r.part) c.new-reader.ensures.value;
    width = ap (λ (r : Reader). r.width) c.new-reader.ensures.value;
    given_is = c.new-reader.ensures.given;
    read = λ honest. c.new-reader.ensures.read;
    rows = sym (rows_none c.args.rows.now);
    key = tt;
    faults = refl;
  },
)

pub add_widened-requires : goal.add_widened-requires
add_widened-requires g c =
    let given = c.loop-reader.invariant.0 in
    let h = c.loop-reader.invariant.1 in
    let list = c.in-Some.list.items in
    let more = rw c.in-Some.is at c.in_ok-list.ensures.given in
    let next : HasGiven c.next.new.self (given ++ list) = more given h.given_is in
    subst (AreCounted c.loop-reader.rows) (sym c.deref.ensures.value)
    (counted c.next.new.self.width c.loop-reader.rows (last_from None given) list
    (given_in_order c.next.new.self given list next) h.key)

pub returns-in_err-add_widened-clause-refused : goal.returns-in_err-add_widened-clause-refused
returns-in_err-add_widened-clause-refused g c = λ honest.
    let given = c.loop-reader.invariant.0 in
    let h = c.loop-reader.invariant.1 in
    let list = c.in-Some.list.items in
    let next = c.next.new.self in
    let gives = rw c.in-Some.is at c.in_ok-list.ensures.gives in
    let so = gives (subst (λ (p : Rollup). IsTrue p.honest) (sym h.part) honest) given (h.read honest) in
    let part = c.in_ok-list.ensures.part ∙ h.part in
    let width = c.in_ok-list.ensures.width ∙ h.width in
    let wide : next.width < 2 ^ 32 = subst (λ w. w < 2 ^ 32) (sym width) c.ranges.width.fits in
    let e = c.in_err-add_widened.field-0.0 in
    let spent = subst (λ (l : List RolledRow). IsRefused e (with_rows l c.loop-reader.rows)) c.deref.ensures.value
    c.in_err-add_widened.ensures.0 in
    err_as c.from_residual-in_err-add_widened.result (sum_refusal e)
    (IsNotAdded c.args.part.now c.args.width c.args.rows.now) c.from_residual-in_err-add_widened.ensures.1
    (subst (λ (p : Rollup). IsNotAdded p c.args.width c.args.rows.now (sum_refusal e)) part
    (subst (λ w. IsNotAdded next.part w c.args.rows.now (sum_refusal e)) width
    (not_added next given list c.args.rows.now c.loop-reader.rows e wide so h.rows spent)))

pub returns-in_err-list-clause-spent : goal.returns-in_err-list-clause-spent
returns-in_err-list-clause-spent g c = λ honest.
    let e = c.in_err-list.field-0.0 in
    err_as c.from_residual.result (sum_of_read e) (IsSpentBy c.args.part.now c.args.width c.args.rows.now)
    c.from_residual.ensures.1 (not_spent c.args.part.now c.args.width c.args.rows.now e)

pub returns-in_err-add_widened-clause-spent : goal.returns-in_err-add_widened-clause-spent
returns-in_err-add_widened-clause-spent g c = λ honest.
    let given = c.loop-reader.invariant.0 in
    let h = c.loop-reader.invariant.1 in
    let list = c.in-Some.list.items in
    let next = c.next.new.self in
    let gives = rw c.in-Some.is at c.in_ok-list.ensures.gives in
    let so = gives (subst (λ (p : Rollup). IsTrue p.honest) (sym h.part) honest) given (h.read honest) in
    let part = c.in_ok-list.ensures.part ∙ h.part in
    let width = c.in_ok-list.ensures.width ∙ h.width in
    let e = c.in_err-add_widened.field-0.0 in
    let spent = subst (λ (l : List RolledRow). IsRefused e (with_rows l c.loop-reader.rows)) c.deref.ensures.value
    c.in_err-add_widened.ensures.0 in
    err_as c.from_residual-in_err-add_widened.result (sum_refusal e)
    (IsSpentBy c.args.part.now c.args.width c.args.rows.now) c.from_residual-in_err-add_widened.ensures.1
    (subst (λ (p : Rollup). IsSpentBy p c.args.width c.args.rows.now (sum_refusal e)) part
    (subst (λ w. IsSpentBy next.part w c.args.rows.now (sum_refusal e)) width
    (spent_by next given list c.args.rows.now c.loop-reader.rows e so h.rows spent)))

pub loop-reader-preserved : goal.loop-reader-preserved
loop-reader-preserved g c =
    let given = c.loop-reader.invariant.0 in
    let h = c.loop-reader.invariant.1 in
    let list = c.in-Some.list.items in
    let rows = c.loop-reader.rows in
    let more = rw c.in-Some.is at c.in_ok-list.ensures.given in
    let gives = rw c.in-Some.is at c.in_ok-list.ensures.gives in
    let new : c.add_widened.new.rows ≡ with_rows list rows = c.in_ok-add_widened.ensures.1
    ∙ ap (λ (l : List RolledRow). with_rows l rows) c.deref.ensures.value in (
      given ++ list,
      record {
        part = c.in_ok-list.ensures.part ∙ h.part;
        width = c.in_ok-list.ensures.width ∙ h.width;
        given_is = more given h.given_is;
        read = λ honest. gives (subst (λ (p : Rollup). IsTrue p.honest) (sym h.part) honest) given (h.read honest);
        rows = new ∙ ap (with_rows list) h.rows ∙ rows_both given list c.args.rows.now;
        key = subst (λ (t : Table). HasKey t (last_from None (given ++ list))) (sym new)
            (subst (HasKey (with_rows list rows)) (sym (last_behind None given list))
            (key_after rows (last_from None given) list h.key));
        faults = c.in_ok-list.ensures.cause.done ∙ h.faults;
      },
    )

pub returns-clause-added : goal.returns-clause-added
returns-clause-added g c = λ honest.
    let given = c.loop-reader.invariant.0 in
    let h = c.loop-reader.invariant.1 in
    let reader = c.loop-reader.reader in
    let gives = rw c.in_default.is at c.in_ok-list.ensures.gives in
    let rollup = gives (subst (λ (p : Rollup). IsTrue p.honest) (sym h.part) honest) given (h.read honest) in
    subst (λ (p : Rollup). IsAdded c.args.width p.octets c.args.rows.now c.loop-reader.rows) h.part
    (subst (λ w. IsAdded w reader.part.octets c.args.rows.now c.loop-reader.rows) h.width
    (added reader given c.args.rows.now c.loop-reader.rows rollup h.rows))
