use Rattle.std.proofs.Common.{ℕ, ◌+◌, List, ◌++◌, ap, ◌∙◌}
use Rattle.flow_folder_disk.specs.Numbers.{numbers_from}
use Rattle.flow_folder_disk.proofs.Ranged.{one_more}
use Rattle.flow_folder_disk.proofs.numbers.list_range.Goals as goal

pub loop-number-preserved : goal.loop-number-preserved
loop-number-preserved c =
    ap (λ (l : List ℕ). l ++ numbers_from (c.loop-number.number + 1) c.args.to) c.in_ok-push.ensures.items
    ∙ one_more c.loop-number.numbers.items c.loop-number.number c.args.to c.loop-number-test.true
    ∙ c.loop-number.invariant
