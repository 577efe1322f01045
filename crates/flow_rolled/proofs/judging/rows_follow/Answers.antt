use Rattle.std.proofs.Common.{⊎_elim, inl, inr, None, sym, subst, ◌∙◌}
use Rattle.flow_rolled.specs.Rows.{AreRows, AllMayFollow}
use Rattle.flow_rolled.specs.Messages.{last_from}
use Rattle.flow_rolled.proofs.Judgement.{each_row, each_own, in_order, may_follow}
use Rattle.flow_rolled.proofs.judging.rows_follow.Goals as goal

pub returns-clause-yes : goal.returns-clause-yes
returns-clause-yes c = λ yes b w knows some part.
    let rows = c.args.message.now.rows.items in
    let may = subst (AllMayFollow c.args.state.now.last) c.deref.ensures.value (c.are_in_order.ensures.yes yes) in
    record {
      time = c.if-message-state.false ∙ knows.time;
      room = ⊎_elim (λ e. inl (sym knows.count ∙ e)) (λ e. inr (sym knows.count ∙ e))
          (c.has_room.ensures.yes c.if-not-has_room.false);
      sequence = c.if-message-state-3.false ∙ knows.due_is;
      domain = c.if-message-state-2.false ∙ knows.domain;
      some = some;
      few = part.rows.few;
      own = each_own w c.args.message.now.domain rows part.rows;
      order = subst (λ o. AreRows w o rows) knows.last
          (in_order w c.args.state.now.last rows (each_row w c.args.message.now.domain rows part.rows) may);
    }

pub returns-clause-all : goal.returns-clause-all
returns-clause-all c = λ b w knows h.
    let rows = c.args.message.now.rows.items in
    let may = may_follow w (last_from None b.rows) rows h.order in
    c.are_in_order.ensures.all
    (subst (AllMayFollow c.args.state.now.last) (sym c.deref.ensures.value)
    (subst (λ o. AllMayFollow o rows) (sym knows.last) may))
