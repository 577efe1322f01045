use Rattle.std.proofs.Common.{◌≡◌, ◌≢◌, ℕ, true, false, IsTrue, drop}
use Rattle.std.specs.List.{AllByRecursion}
use Rattle.flow_disk.specs.Disk.{ComesOf}
use Rattle.flow_disk.specs.Calls.{LeavesOnly}
use Rattle.flow_model.specs.Standing.{is_file_of, SameNamed}
use Rattle.flow_recover.proofs.tidying.remove_unnamed.Given as goal

abbrev pub invariant-files : goal.invariant-files
invariant-files g l = record {
  honest : g.D.Disk.honest l.disk ≡ g.D.Disk.honest l.fn.disk;
  marks : (n : ℕ) → is_file_of l.manifest n ≡ true → g.D.Disk.marks l.disk n ≡ g.D.Disk.marks l.fn.disk n;
  thawed : (n : ℕ) → is_file_of l.manifest n ≡ false → (g.D.Disk.marks l.disk n).frozen ≡ false;
  named : IsTrue (g.D.Disk.honest l.fn.disk) → (n : ℕ) → is_file_of l.manifest n ≡ true
      → g.D.Disk.held l.disk n ≡ g.D.Disk.held l.fn.disk n;
  removed : IsTrue (g.D.Disk.honest l.fn.disk) → (n : ℕ) → is_file_of l.manifest n ≡ false
      → AllByRecursion (λ (file : ℕ). file ≢ n) (drop l.file-index l.file-items)
      → (g.D.Disk.marks l.disk n).listed ≡ false;
  run : IsTrue (g.D.Disk.honest l.fn.disk) → LeavesOnly g.D.Disk l.fn.disk l.disk (ComesOf
      (g.D.Disk.held l.fn.disk) (SameNamed l.manifest));
  faults : g.D.Disk.faults l.disk ≡ g.D.Disk.faults l.fn.disk;
}
