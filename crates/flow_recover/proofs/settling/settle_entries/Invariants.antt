use Rattle.std.proofs.Common.{◌≡◌, ℕ, IsTrue, true, take}
use Rattle.std.specs.List.{AllByRecursion}
use Rattle.flow_disk.specs.Disk.{IsDiskImage, AllImages}
use Rattle.flow_disk.specs.Calls.{LeavesOnly}
use Rattle.flow_manifest.specs.declared.manifest.Entry.{Entry}
use Rattle.flow_recover.specs.Opening.{OnlySettles}
use Rattle.flow_recover.proofs.settling.settle_entries.Given as goal

abbrev pub invariant-entries : goal.invariant-entries
invariant-entries g l = let D = g.D.Disk in record {
  honest : D.honest l.disk ≡ D.honest l.fn.disk;
  frozen : (n : ℕ) → (D.marks l.disk n).frozen ≡ (D.marks l.fn.disk n).frozen;
  marks : OnlySettles (D.marks l.fn.disk) (D.marks l.disk);
  settled : AllByRecursion (λ (e : Entry). (D.marks l.disk e.file).settled ≡ true) (take l.entry-index l.entries);
  listed : AllByRecursion (λ (e : Entry). (D.marks l.disk e.file).listed ≡ true) (take l.entry-index l.entries);
  still : (n : ℕ) → (D.marks l.fn.disk n).listed ≡ true → (D.marks l.disk n).listed ≡ true;
  narrows : IsTrue (D.honest l.fn.disk) → AllImages (D.held l.disk) (IsDiskImage (D.held l.fn.disk));
  run : IsTrue (D.honest l.fn.disk) → LeavesOnly D l.fn.disk l.disk (IsDiskImage
      (D.held l.fn.disk));
  reads : IsTrue (D.honest l.fn.disk) → (n : ℕ) → (D.held l.disk n).reads ≡ (D.held l.fn.disk n).reads;
  faults : D.faults l.disk ≡ D.faults l.fn.disk;
}
