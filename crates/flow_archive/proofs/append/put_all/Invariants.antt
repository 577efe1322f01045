use Rattle.std.proofs.Common.{◌≡◌, ◌+◌, ◌≤◌, ◌++◌, length, vec_len, vec_capacity}
use Rattle.flow_archive.proofs.append.put_all.Given as goal

abbrev pub invariant-loop-copy : goal.invariant-loop-copy
invariant-loop-copy l = record {
  done : l.kept.items ++ l.copy-iterator.rest.items ≡ l.fn.kept.items ++ l.fn.copies.items;
  room : vec_len l.kept + length l.copy-iterator.rest.items ≤ vec_capacity l.kept;
}
