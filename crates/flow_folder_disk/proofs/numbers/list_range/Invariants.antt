use Rattle.std.proofs.Common.{◌≡◌, ◌++◌}
use Rattle.flow_folder_disk.specs.Numbers.{numbers_from}
use Rattle.flow_folder_disk.proofs.numbers.list_range.Given as goal

abbrev pub invariant-loop-number : goal.invariant-loop-number
invariant-loop-number l =
    l.numbers.items ++ numbers_from l.number l.to ≡ l.fn.numbers.items ++ numbers_from l.fn.from l.fn.to
