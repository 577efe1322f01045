use Rattle.std.proofs.Common.{◌≡◌, true, sym, ap, subst, ◌∙◌}
use Rattle.std.specs.Prelude.{MatchResult}
use Rattle.std.specs.FinMap.{get, insert}
use Rattle.flow_measure.specs.Sums.{Fits, IsRefused, with_sums}
use Rattle.flow_measure.specs.Entries.{map_of, table_at, added_to, place_of, all_undone, is_noted}
use Rattle.flow_measure.proofs.Noting.{leads_back}
use Rattle.flow_measure.proofs.Places.{found}
use Rattle.flow_measure.proofs.Putting.{judged}
use Rattle.flow_measure.proofs.entries.Entries.add_once.Goals as goal

pub returns-then-is_noted-clause-adds : goal.returns-then-is_noted-clause-adds
returns-then-is_noted-clause-adds c =
    subst (λ es. MatchResult c.increase.result (λ _. Fits (added_to (get (map_of es) c.args.key) c.args.sums)
    × (map_of c.increase.new.self ≡ insert (map_of es) c.args.key (added_to (get (map_of es) c.args.key)
    c.args.sums))) (λ e. IsRefused e (with_sums c.args.key c.args.sums (table_at 0 es)))) c.self.view_is
    (judged c.increase.result (map_of c.self.inside.items.items) (map_of c.increase.new.self) c.args.key c.args.sums
    c.increase.ensures.adds)

pub returns-then-is_noted-clause-back : goal.returns-then-is_noted-clause-back
returns-then-is_noted-clause-back c =
    let items = c.self.inside.items.items in
    let at = found c.args.key items c.in-Some.place
    (ap (place_of c.args.key) c.self.view_is ∙ sym c.find.ensures ∙ c.in-Some.is) in
    let changes = c.args.changes.now.items in
    let noted : is_noted c.in-Some.place changes ≡ true =
    subst (λ cs. is_noted c.in-Some.place cs ≡ true) c.as_slice-in-Some.ensures.value
    (c.is_noted.ensures c.if-is_noted.true) in
    leads_back c.increase.result changes c.in-Some.place c.args.key at.0 c.increase.new.self items noted at.1
    c.increase.ensures.back c.increase.ensures.err
    ∙ ap (all_undone changes) c.self.view_is
