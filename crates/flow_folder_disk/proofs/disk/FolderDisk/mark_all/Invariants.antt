use Rattle.std.proofs.Common.{◌≡◌, ℕ, true, IsTrue, take, OnOk}
use Rattle.std.specs.Ordering.{nat_cmp, eq_by_cmp}
use Rattle.std.specs.List.{list_any}
use Rattle.flow_disk.specs.Cause.{FailsOnlyByFault}
use Rattle.flow_folder_disk.specs.Ended.{HasRisenBy, left_of}
use Rattle.flow_folder_disk.specs.Known.{IsMarked, KeepsAll}
use Rattle.flow_folder_disk.specs.Table.{marks_in}
use Rattle.flow_folder_disk.proofs.disk.FolderDisk.mark_all.Given as goal

abbrev pub invariant-loop-file : goal.invariant-loop-file
invariant-loop-file g l = record {
  honest : g.S.Directory.honest l.self.folder.system ≡ g.S.Directory.honest l.initial.self.folder.system;
  table : l.self.table ≡ l.initial.self.table;
  cause : FailsOnlyByFault l.initial.self.failed l.self.failed l.marked;
  all : IsTrue (g.S.Directory.honest l.initial.self.folder.system) → KeepsAll g.S.Directory.files
      g.S.Directory.moment g.S.Directory.left_since l.initial.self.folder.system l.self.folder.system;
  marked : IsTrue (g.S.Directory.honest l.initial.self.folder.system) → OnOk l.marked ((n : ℕ)
      → list_any (eq_by_cmp nat_cmp n) (take l.file-index l.files) ≡ true
      → (marks_in l.initial.self.table n).settled ≡ true
      → IsMarked (g.S.Directory.files l.self.folder.system n));
  left : IsTrue (g.S.Directory.honest l.initial.self.folder.system) → HasRisenBy (left_of
      (marks_in l.initial.self.table) (g.S.Directory.files l.self.folder.system) (take l.file-index l.files))
      l.initial.self.failed l.self.failed;
}
