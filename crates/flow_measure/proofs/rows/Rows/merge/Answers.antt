use Rattle.std.proofs.Common.{sym, ap, subst, ◌∙◌}
use Rattle.flow_measure.specs.Sums.{Table, AreSound, Becomes, merged}
use Rattle.flow_measure.specs.Entries.{map_of, table_at}
use Rattle.flow_measure.proofs.Merging.{merges_well}
use Rattle.flow_measure.proofs.SumLaws.{merged_on}
use Rattle.flow_measure.proofs.rows.Rows.merge.Goals as goal

pub merge-requires : goal.merge-requires
merge-requires c = c.self.invariant.2

pub invariant_of-self : goal.invariant_of-self
invariant_of-self c =
    let width = c.self.inside.width in
    let own = map_of c.self.inside.entries in
    let others = map_of c.other.inside.entries in
    let same = ap (λ (t : Table). t.width) c.self.view_is ∙ c.requires
    ∙ sym (ap (λ (t : Table). t.width) c.other.view_is) in
    merges_well c.merge.result width own others (map_of c.merge.new.self) c.self.invariant
    (subst (λ w. AreSound w others) (sym same) c.other.invariant.1) (c.merge.ensures width)

pub returns-clause-becomes : goal.returns-clause-becomes
returns-clause-becomes c =
    let width = c.self.inside.width in
    let own = table_at width c.self.inside.entries in
    let new = table_at width c.merge.new.self in
    subst (λ (t : Table). Becomes c.merge.result (merged t c.args.other.now) t new) c.self.view_is
    (subst (λ (t : Table). Becomes c.merge.result (merged own t) own new) c.other.view_is (c.merge.ensures width))

pub returns-clause-sums : goal.returns-clause-sums
returns-clause-sums c =
    let width = c.self.inside.width in
    let own = table_at width c.self.inside.entries in
    let new = table_at width c.merge.new.self in
    merged_on c.merge.result c.args.self.now c.args.other.now new c.requires
    (subst (λ (t : Table). Becomes c.merge.result (merged t c.args.other.now) t new) c.self.view_is
    (subst (λ (t : Table). Becomes c.merge.result (merged own t) own new) c.other.view_is (c.merge.ensures width)))
