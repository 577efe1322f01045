use Rattle.std.proofs.Common.{◌≡◌, ◌||◌, ℕ, true, List, IsTrue, Contains, ◌↔◌, sym, ◌∙◌, ap, subst, rules}
use Rattle.std.proofs.lemmas.Cmp.{nat_cmp_total}
use Rattle.std.proofs.lemmas.Map.Lookups.{exact_unsigned}
use Rattle.std.proofs.lemmas.Map.Views.{btree_set_contains_iff}
use Rattle.std.proofs.lemmas.Map.Keys.{IsStrictlyIncreasing-from_sorted}
use Rattle.std.specs.List.Sorted.{IsStrictlyIncreasing}
use Rattle.std.specs.Ordering.{nat_cmp, eq_by_cmp}
use Rattle.std.specs.List.{list_any}
use Rattle.std.specs.BTreeSet.{contains}
use Rattle.flow_folder_disk.specs.declared.reported.Table.{Table}
use Rattle.flow_folder_disk.specs.Table.{marks_in}
use Rattle.flow_folder_disk.proofs.Listed.{member_iff, listed_all}
use Rattle.flow_folder_disk.proofs.disk.FolderDisk.list.Goals as goal

pub returns-clause-ascending : goal.returns-clause-ascending
returns-clause-ascending g c =
    let same : c.in_ok-collect.field-0.items ≡ c.list.new.numbers.keys = search rules in
    subst IsStrictlyIncreasing (sym same) (IsStrictlyIncreasing-from_sorted c.list.new.numbers.keys
    c.iter.ensures.ordered)

pub returns-clause-listed : goal.returns-clause-listed
returns-clause-listed g c h n =
    let same : c.in_ok-collect.field-0.items ≡ c.list.new.numbers.keys = search rules in
    let iff : IsTrue (contains nat_cmp c.list.new.numbers n) ↔ Contains c.list.new.numbers.keys n
    = btree_set_contains_iff nat_cmp_total exact_unsigned c.list.new.numbers n in
    let all : contains nat_cmp c.list.new.numbers n ≡ (contains nat_cmp c.in_ok-numbers.numbers n || (marks_in
    c.args.self.now.table n).listed)
    = c.in_ok-list.ensures n ∙ ap (λ (t : Table). contains nat_cmp c.in_ok-numbers.numbers n || (marks_in t n).listed)
    c.named.ensures.table in
    let named : contains nat_cmp c.in_ok-numbers.numbers n ≡ list_any (eq_by_cmp nat_cmp n) c.in_ok-named.named.items
    = search rules in
    let has : Contains c.in_ok-named.named.items n ↔ ((g.S.Directory.files c.args.self.now.folder.system n).linked ≡
    true) = c.in_ok-named.ensures.listed h n in
    let any : (list_any (eq_by_cmp nat_cmp n) c.in_ok-named.named.items ≡ true) ↔ Contains c.in_ok-named.named.items n
    = member_iff c.in_ok-named.named.items n in
    subst (λ (l : List ℕ). Contains l n ↔ (((g.S.Directory.files c.args.self.now.folder.system n).linked || (marks_in
    c.args.self.now.table n).listed) ≡ true)) (sym same)
    (listed_all (contains nat_cmp c.in_ok-numbers.numbers n) (g.S.Directory.files c.args.self.now.folder.system
    n).linked (marks_in c.args.self.now.table n).listed
    (λ p. iff.1 p, λ q. iff.0 q) (λ q. sym all ∙ q, λ q. all ∙ q)
    (λ q. has.0 (any.0 (sym named ∙ q)), λ q. named ∙ any.1 (has.1 q)))
