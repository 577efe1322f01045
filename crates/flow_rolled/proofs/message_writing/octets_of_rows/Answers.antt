use Rattle.std.proofs.Common.{◌≡◌, [], ◌++◌, get_or, cond, Bool, true, false, None, refl, sym, ap, ◌∙◌}
use mathlib.Core.Bool.{beq}
use Rattle.std.proofs.lemmas.List.{append-nil}
use Rattle.flow_rolled.specs.declared.row.RolledRow.{RolledRow}
use Rattle.flow_rolled.specs.Octets.{row_octets}
use Rattle.flow_rolled.proofs.WrittenRows.{row_written, of_its_kind, of_the_other}
use Rattle.flow_rolled.proofs.message_writing.octets_of_rows.Goals as goal
use Rattle.flow_rolled.proofs.message_writing.octets_of_rows.Goals.{then-is_some-with+in_ok-put_row, else-is_some-with}

abbrev none : RolledRow
none = record { key = record { start = 0; domain = 0; protocol = None }; flows = 0; octets = 0; packets = 0 }

beq-true : (a b : Bool) → beq a b ≡ true → a ≡ b
beq-true true true e = refl
beq-true true false e = absurd cc
beq-true false true e = absurd cc
beq-true false false e = refl

beq-false : (a b : Bool) → beq a b ≡ false → a ≡ b → ⊥
beq-false true true e f = cc
beq-false true false e f = cc
beq-false false true e f = cc
beq-false false false e f = cc

pub loop-row-preserved : goal.loop-row-preserved
loop-row-preserved c =
    let rows = c.args.rows.now in
    let r = get_or rows c.loop-row.row-index none in
    let more = row_written c.args.width c.args.with rows c.loop-row.row-index none c.loop-row-test.true in
    elim c.if-is_some-with.branch [
      | then-is_some-with+in_ok-put_row w ↦ ap (λ v. v.items) w.octets-is ∙ w.in_ok-put_row.ensures
          ∙ (λ i. c.loop-row.invariant i ++ cond
          (sym (of_its_kind c.args.with r (sym c.is_some.ensures
          ∙ beq-true c.is_some.result c.args.with w.if-is_some-with.true)) i) (row_octets c.args.width r) []) ∙ sym more
      | else-is_some-with w ↦ ap (λ v. v.items) w.octets-is ∙ sym (append-nil c.loop-row.octets.items)
          ∙ (λ i. c.loop-row.invariant i ++ cond
          (sym (of_the_other c.args.with c.is_some.result r (sym c.is_some.ensures)
          (beq-false c.is_some.result c.args.with w.if-is_some-with.false)) i) (row_octets c.args.width r) [])
          ∙ sym more
    ]
