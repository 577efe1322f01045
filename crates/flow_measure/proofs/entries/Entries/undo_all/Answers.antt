use Rattle.std.proofs.Common.{◌≡◌, [], sym, ap, ◌∙◌}
use Rattle.std.proofs.lemmas.List.{nil_from_length}
use Rattle.flow_measure.specs.Entries.{all_undone}
use Rattle.flow_measure.proofs.Undoing.{last_first}
use Rattle.flow_measure.proofs.entries.Entries.undo_all.Goals as goal

pub loop-change-preserved : goal.loop-change-preserved
loop-change-preserved c =
    let left = c.pop.new.self.items in
    ap (all_undone left) c.undo.ensures ∙ sym (last_first left c.in-Some.change c.loop-change.self)
    ∙ ap (λ cs. all_undone cs c.loop-change.self) (sym c.in-Some.ensures.items) ∙ c.loop-change.invariant

pub returns : goal.returns
unfolding all_undone
returns c =
    let changes = c.loop-change.changes in
    let none : changes.items ≡ [] = nil_from_length changes.items (sym changes.ok.0 ∙ c.in_default.ensures.cases.0) in
    sym (ap (λ cs. all_undone cs c.loop-change.self) none) ∙ c.loop-change.invariant
