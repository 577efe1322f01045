use Rattle.std.proofs.Common.{◌≡◌, ◌++◌, Some, map}
use Rattle.std.specs.List.{AllByRecursion}
use Rattle.std.specs.FinMap.{entries}
use Rattle.flow_measure.specs.Entries.{map_of, place_of}
use Rattle.flow_measure.specs.Entries.{resolved}
use Rattle.flow_measure.proofs.entries.Entries.in_order.Given as goal

-- the keys so far with their sums, and those of what is left, are all of them
abbrev pub invariant-loop-key : goal.invariant-loop-key
invariant-loop-key l = record {
  can : (goal.iterator-loop-key).can_next l.key-iterator;
  finite : (goal.iterator-loop-key).is_finite l.key-iterator;
  places : AllByRecursion (λ p. place_of p.0 l.fn.self ≡ Some p.1) l.key-iterator;
  same : l.list.items ++ map (resolved l.fn.self) l.key-iterator ≡ entries (map_of l.fn.self);
}
