use Rattle.std.proofs.Common.{◌≡◌, ◌+◌, ◌≤◌, ◌++◌, drop, length, vec_len, vec_capacity}
use Rattle.flow_archive.specs.Frozen.{HaveSpans}
use Rattle.flow_archive.proofs.frozen.spanned_files.Given as goal

abbrev pub invariant-loop-file : goal.invariant-loop-file
invariant-loop-file g l = record {
  done : l.all.items ++ l.file-iterator.rest.items ≡ l.fn.files.items;
  known : HaveSpans l.manifest l.file-iterator.rest.items (drop (vec_len l.all) l.spans);
  room : vec_len l.all + length l.file-iterator.rest.items ≤ vec_capacity l.all;
}
