use Rattle.std.proofs.Common.{◌≡◌, length}
use Rattle.std.specs.List.{All}
use Rattle.flow_memory_disk.specs.declared.stored.StoredFile.{StoredFile}
use Rattle.flow_memory_disk.specs.Stored.{room_in}
use Rattle.flow_memory_disk.proofs.disk.MemoryDisk.new.Given as goal

abbrev pub invariant-loop : goal.invariant-loop
invariant-loop l = record {
  long : length l.spare.items ≡ l.counter;
  each : All (λ (file : StoredFile). room_in file ≡ (l.octets, l.room.calls)) l.spare.items;
}
