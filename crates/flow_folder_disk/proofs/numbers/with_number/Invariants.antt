use Rattle.std.proofs.Common.{◌≡◌, ◌≤◌, ◌||◌, ◌==◌, ℕ, take}
use Rattle.flow_folder_disk.specs.Numbers.{is_among, is_between}
use Rattle.flow_folder_disk.proofs.numbers.with_number.Given as goal

abbrev pub invariant-loop-range : goal.invariant-loop-range
invariant-loop-range l = (l.from ≤ l.to)
    × ((n : ℕ) → (is_between l.from l.to n || is_among n l.all.items)
    ≡ ((n == l.number) || is_among n (take l.range-index l.ranges)))
