use Rattle.std.proofs.Common.{ℕ, ◌≤◌, List, ◌++◌, length, true, false, sym, subst, ◌∙◌, arith}
use Rattle.std.proofs.lemmas.Bool.{eqb-false}
use Rattle.flow_rolled.specs.Octets.{set_around}
use Rattle.flow_rolled.proofs.WrittenRows.{few_octets, both_written, sets_short}
use Rattle.flow_rolled.proofs.message_writing.octets_of_sets.Goals as goal

pub put_set-requires : goal.put_set-requires
put_set-requires c = subst (λ (l : List ℕ). length l ≤ 41000)
    (sym (c.deref.ensures.value ∙ c.in_ok-octets_of_rows.ensures))
    (few_octets c.args.width true c.args.rows.now c.requires.few)

pub put_set-requires-2 : goal.put_set-requires-2
put_set-requires-2 c =
    subst (λ (l : List ℕ). length l ≤ 41000) (sym (c.deref-2.ensures.value ∙ c.in_ok-octets_of_rows-2.ensures))
    (few_octets c.args.width false c.args.rows.now c.requires.few)

pub returns-clause-sets : goal.returns-clause-sets
returns-clause-sets c =
    let some = eqb-false (length c.args.rows.now) 0 (sym c.is_empty.ensures ∙ c.if-is_empty.false) in
    c.in_ok-put_set-2.ensures
    ∙ (λ i. (c.in_ok-put_set.ensures
    ∙ (λ j. c.new-octets.ensures.items j ++ set_around 256
    ((c.deref.ensures.value ∙ c.in_ok-octets_of_rows.ensures) j))) i ++ set_around 257
    ((c.deref-2.ensures.value ∙ c.in_ok-octets_of_rows-2.ensures) i))
    ∙ both_written c.args.width c.args.rows.now (omega (arith, some))

pub returns-clause-few : goal.returns-clause-few
returns-clause-few c =
    let some = eqb-false (length c.args.rows.now) 0 (sym c.is_empty.ensures ∙ c.if-is_empty.false) in
    subst (λ (l : List ℕ). length l ≤ 41008) (sym (returns-clause-sets c))
    (sets_short c.args.width c.args.rows.now c.requires.few (omega (arith, some)))
