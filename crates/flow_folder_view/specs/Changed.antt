-- What a view made of its files in memory.
use Rattle.std.specs.Prelude.{ℕ, Bool, true, false, List, filter, Option, Some, None}
use Rattle.std.specs.Ordering.{nat_cmp}
use Rattle.std.specs.BTreeMap.{get, BTreeMap}
use Rattle.flow_folder_view.specs.declared.changed.Change.{Change}
use Rattle.flow_folder_view.specs.declared.changed.Change.TheVariants.{Cut, Removed}

-- a file that the view hasn't removed
abbrev pub is_left : Option Change → Bool
is_left None = true
is_left (Some Cut) = true
is_left (Some Removed) = false

-- of the files of the folder those that the view has
abbrev pub left_of : BTreeMap ℕ Change → List ℕ → List ℕ
left_of changes files = filter (λ file. is_left (get nat_cmp changes file)) files
