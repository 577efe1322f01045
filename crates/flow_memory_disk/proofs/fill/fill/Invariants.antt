use Rattle.std.proofs.Common.{◌≡◌, ◌<◌, ◌++◌, length, take, drop, reverse}
use Rattle.flow_memory_disk.specs.Stopped.{filled}
use Rattle.flow_memory_disk.proofs.fill.fill.Given as goal

abbrev pub invariant-loop-place : goal.invariant-loop-place
invariant-loop-place l = record {
  used : l.used < length l.octets;
  behind : drop l.place l.reads ≡ drop l.place l.fn.reads;
  so_far : take l.place l.reads ++ filled l.fast (reverse l.touched) l.octets l.place l.used
      (drop l.place l.fn.reads) ≡ filled l.fast (reverse l.touched) l.octets 0 0 l.fn.reads;
}
