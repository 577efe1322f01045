use Rattle.std.proofs.Common.{◌≡◌, ℕ, List, true, sym, ◌∙◌, subst, rules}
use Rattle.std.specs.Ordering.{nat_cmp, eq_by_cmp}
use Rattle.std.specs.List.{list_any}
use Rattle.flow_folder_disk.specs.Ended.{HasRisenBy, left_of}
use Rattle.flow_folder_disk.specs.Table.{marks_in}
use Rattle.flow_folder_disk.proofs.Removing.{on_ok}
use Rattle.flow_folder_disk.proofs.disk.FolderDisk.end.Goals as goal

pub returns-clause-marked : goal.returns-clause-marked
returns-clause-marked g c h =
    let same : c.in_ok-files.files.items ≡ c.deref.result.now = search rules in
    on_ok c.mark_all.result (λ all n settled. all n
    (subst (λ (l : List ℕ). list_any (eq_by_cmp nat_cmp n) l ≡ true) same (c.in_ok-files.ensures.settled n settled))
    settled) (c.mark_all.ensures.marked h)

pub returns-clause-left : goal.returns-clause-left
returns-clause-left g c h is =
    let same : c.in_ok-files.files.items ≡ c.deref.result.now = search rules in
    subst (λ (l : List ℕ). HasRisenBy (left_of (marks_in c.args.self.now.table)
    (g.S.Directory.files c.mark_all.new.self.folder.system) l) c.args.self.now.failed c.mark_all.new.self.failed)
    (sym same ∙ c.in_ok-files.ensures.all) (c.mark_all.ensures.left h)
