use Rattle.std.proofs.Common.{◌≡◌, ℕ, ◌||◌, ◌&&◌, take}
use Rattle.std.specs.Ordering.{nat_cmp, eq_by_cmp}
use Rattle.std.specs.List.{list_any}
use Rattle.std.specs.BTreeSet.{contains}
use Rattle.flow_folder_disk.specs.Table.{marks_in}
use Rattle.flow_folder_disk.proofs.reported.Table.add_all.Given as goal

abbrev pub invariant-loop-file : goal.invariant-loop-file
invariant-loop-file l = (n : ℕ) → contains nat_cmp l.numbers n
    ≡ (contains nat_cmp l.initial.numbers n
    || (list_any (eq_by_cmp nat_cmp n) (take l.file-index l.files) && (marks_in l.self n).listed))
