use Rattle.std.proofs.Common.{◌≡◌, ◌+◌, ◌++◌, take, drop, vec_len, vec_capacity}
use Rattle.std.specs.Vec.Iter.{into_iter_items, into_iter_len}
use Rattle.flow_archive.proofs.install.move_some.Given as goal

abbrev pub invariant-loop : goal.invariant-loop
invariant-loop g l = record {
  moved : l.to.items ≡ l.fn.to.items ++ take l.counter (into_iter_items l.fn.from);
  rest : into_iter_items l.from ≡ drop l.counter (into_iter_items l.fn.from);
  left : into_iter_len l.from + l.counter ≡ into_iter_len l.fn.from;
  len : vec_len l.to ≡ vec_len l.fn.to + l.counter;
  capacity : vec_capacity l.to ≡ vec_capacity l.fn.to;
}
