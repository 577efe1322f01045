use Rattle.std.proofs.Common.{◌≡◌, ℕ, List, true, sym, ◌∙◌, subst, rules}
use Rattle.std.specs.Ordering.{nat_cmp, eq_by_cmp}
use Rattle.std.specs.List.{list_any}
use Rattle.std.specs.BTreeMap.{keys}
use Rattle.flow_folder_disk.specs.Table.{reported_in}
use Rattle.flow_folder_disk.proofs.Found.{listed_found, settled_found}
use Rattle.flow_folder_disk.proofs.reported.Table.files.Goals as goal

pub returns-clause-listed : goal.returns-clause-listed
returns-clause-listed c n is =
    let all : c.match-self.files.items ≡ reported_in c.args.self.now = search rules in
    subst (λ (l : List ℕ). list_any (eq_by_cmp nat_cmp n) l ≡ true) (sym all)
    (listed_found c.args.self.now (keys c.args.self.now.reported) n is
    (λ some. subst (λ (l : List ℕ). list_any (eq_by_cmp nat_cmp n) l ≡ true) c.keys.ensures.rest
    (sym (c.keys.ensures.has n) ∙ some)))

pub returns-clause-settled : goal.returns-clause-settled
returns-clause-settled c n is =
    let all : c.match-self.files.items ≡ reported_in c.args.self.now = search rules in
    subst (λ (l : List ℕ). list_any (eq_by_cmp nat_cmp n) l ≡ true) (sym all)
    (settled_found c.args.self.now (keys c.args.self.now.reported) n is
    (λ some. subst (λ (l : List ℕ). list_any (eq_by_cmp nat_cmp n) l ≡ true) c.keys.ensures.rest
    (sym (c.keys.ensures.has n) ∙ some)))
