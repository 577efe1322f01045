use Rattle.std.proofs.Common.{◌≡◌, ◌≢◌, ℕ, ◌≤◌, true, IsTrue, length, map, take, vec_len}
use Rattle.std.specs.Prelude.{vec_capacity}
use Rattle.std.specs.List.{AllByRecursion}
use Rattle.flow_disk.specs.Disk.{AllImages}
use Rattle.flow_disk.specs.Calls.{LeavesOnly}
use Rattle.flow_manifest.specs.declared.manifest.Entry.{Entry}
use Rattle.flow_manifest.specs.declared.slots.Slots.{Slots}
use Rattle.flow_model.specs.State.{State}
use Rattle.flow_model.specs.Standing.{IsKnown}
use Rattle.flow_manifest.specs.Following.{front_of}
use Rattle.flow_recover.specs.Kept.{AreFilesOf}
use Rattle.flow_recover.specs.Opening.{FrozenStand, shut_at}
use Rattle.flow_recover.proofs.tidying.freeze_files.Given as goal

abbrev pub invariant-entries : goal.invariant-entries
invariant-entries g l = let D = g.D.Disk in record {
  honest : D.honest l.disk ≡ D.honest l.fn.disk;
  others : (n : ℕ) → AllByRecursion (λ (e : Entry). e.file ≢ n) (take l.entry-index l.entries)
      → D.marks l.disk n ≡ D.marks l.fn.disk n;
  run : IsTrue (D.honest l.fn.disk) → (slots : Slots) (s : State) → front_of s.manifest ≡ l.entries → AllImages
      (D.held l.fn.disk) (IsKnown slots s) → LeavesOnly D l.fn.disk l.disk (IsKnown slots s);
  frozen : IsTrue (D.honest l.fn.disk) → (slots : Slots) (s : State) → front_of s.manifest ≡ l.entries → AllImages
      (D.held l.fn.disk) (IsKnown slots s)
      → FrozenStand g.D.Sealed.SealedFile.octets (take l.entry-index l.entries)
      (take l.entry-index s.parts) l.parts.items;
  other_held : IsTrue (D.honest l.fn.disk) → (n : ℕ) → AllByRecursion (λ (e : Entry). e.file ≢ n)
      (take l.entry-index l.entries) → D.held l.disk n ≡ D.held l.fn.disk n;
  files : AreFilesOf g.D.Sealed.SealedFile.number g.D.Sealed.SealedFile.size g.D.Sealed.SealedFile.honest
      (D.honest l.disk) (take l.entry-index l.entries) l.parts.items;
  sizes : map g.D.Sealed.SealedFile.size l.parts.items ≡ map (λ (e : Entry). e.length) (take l.entry-index l.entries);
  shut : AllByRecursion (λ (e : Entry). D.marks l.disk e.file ≡ shut_at e.length) (take l.entry-index l.entries);
  still : (n : ℕ) → (D.marks l.fn.disk n).listed ≡ true → (D.marks l.disk n).listed ≡ true;
  room : length l.entries ≤ vec_capacity l.parts;
  count : vec_len l.parts ≡ l.entry-index;
  faults : D.faults l.disk ≡ D.faults l.fn.disk;
}
