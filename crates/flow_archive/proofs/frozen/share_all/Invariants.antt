use Rattle.std.proofs.Common.{◌≡◌, ◌+◌, ◌≤◌, ◌++◌, length, map, vec_len, vec_capacity}
use Rattle.flow_archive.specs.Frozen.{unshared}
use Rattle.flow_archive.proofs.frozen.share_all.Given as goal

abbrev pub invariant-loop-file : goal.invariant-loop-file
invariant-loop-file g l = record {
  done : map unshared l.files.items ++ map unshared l.file-iterator.rest.items ≡ map unshared l.fn.files.items;
  room : vec_len l.files + length l.file-iterator.rest.items ≤ vec_capacity l.files;
}
