use Rattle.std.proofs.Common.{◌≡◌, inl, List, length, Option, Some, None, sym, ap, subst, ◌∙◌}
use Rattle.flow_rolled.specs.declared.row.RolledRow.{RolledRow}
use Rattle.std.proofs.lemmas.Bool.{eqb-true}
use Rattle.flow_rolled.specs.declared.message.State.{State}
use Rattle.flow_rolled.specs.Messages.{RolledMessage, Follows}
use Rattle.flow_rolled.specs.Reading.{data_of, Knows, Stands}
use Rattle.flow_rolled.proofs.Grouping.{no_length}
use Rattle.flow_rolled.proofs.judging.follows.Goals as goal

-- the message before, where a state is known
behind : (o : Option State) (s : State) (b : Option RolledMessage) (P : Option RolledMessage → Type 0) → o ≡ Some s
    → Stands o b
    → ((q : RolledMessage) → Knows s q → P (Some q)) → P b
behind o s None P is h f = absurd (subst (λ x. Stands x None) is h)
behind o s (Some q) P is h f = f q (subst (λ x. Stands x (Some q)) is h)

pub returns-in-Some-clause-yes : goal.returns-in-Some-clause-yes
returns-in-Some-clause-yes c = λ yes b w stands part.
    let p = data_of c.args.message.now in
    let none = no_length p.rows (ap (λ (l : List RolledRow). length l) (sym c.as_slice-rows.ensures.value)
    ∙ eqb-true (length c.as_slice-rows.result.now) 0 (sym c.is_empty-bare.ensures ∙ c.if-bare-2.true)) in
    behind c.args.before c.in-Some.state b (λ b. Follows w b p) c.in-Some.is stands
    (λ q knows. inl (c.head_follows.ensures.yes yes q w knows none part))
