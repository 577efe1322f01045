use Rattle.std.proofs.Common.{◌≡◌, ℕ, List, true, subst, rules}
use Rattle.std.specs.Ordering.{nat_cmp, eq_by_cmp}
use Rattle.std.specs.List.{list_any}
use Rattle.flow_folder_disk.specs.Table.{marks_in}
use Rattle.flow_folder_disk.proofs.Removing.{on_ok}
use Rattle.flow_folder_disk.proofs.Listed.{all_listed}
use Rattle.flow_folder_disk.proofs.reported.Table.list.Goals as goal

pub returns : goal.returns
returns c =
    let same : c.in_ok-files.files.items ≡ c.deref.result.now = search rules in
    on_ok c.add_all.result (λ all n. all_listed c.args.numbers.now c.add_all.new.numbers c.deref.result.now n
    (marks_in c.args.self.now n).listed (λ is. subst (λ (l : List ℕ). list_any (eq_by_cmp nat_cmp n) l ≡ true) same
    (c.in_ok-files.ensures.listed n is)) (all n)) c.add_all.ensures
