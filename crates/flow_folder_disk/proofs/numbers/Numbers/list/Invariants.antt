use Rattle.std.proofs.Common.{◌≡◌, ◌++◌, drop}
use Rattle.flow_folder_disk.specs.Numbers.{numbers_of}
use Rattle.flow_folder_disk.proofs.numbers.Numbers.list.Given as goal

abbrev pub invariant-loop-range : goal.invariant-loop-range
invariant-loop-range l =
    l.numbers.items ++ numbers_of (drop l.range-index l.range-items)
    ≡ l.fn.numbers.items ++ numbers_of l.self.ranges.items
