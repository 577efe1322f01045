use Rattle.std.proofs.Common.{rules}
use Rattle.std.specs.Ordering.{is_lt}
use Rattle.std.proofs.lemmas.List.Sorted.{answers_always, ranks_by}
use Rattle.flow_measure.specs.declared.rows.Key.{Key}
use Rattle.flow_measure.specs.declared.rows.Sums.{Sums}
use Rattle.flow_rolled.specs.Rows.{file_cmp}
use Rattle.flow_rolled.proofs.FileOrder.{file_total}
use Rattle.flow_rolled.proofs.encoding.sort_entries.Goals as goal

pub returns-clause-sorted : goal.returns-clause-sorted
returns-clause-sorted c =
    c.sort_unstable_by.ensures.sorted (λ a b. is_lt (file_cmp a.0 b.0)) (ranks_by file_total (λ (e : Key × Sums). e.0))
    (answers_always _ _ _ (λ f a r g h. search rules))
