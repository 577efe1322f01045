use Rattle.std.proofs.Common.{◌≡◌, ℕ, false, take}
use Rattle.std.specs.List.{All, AllZip}
use Rattle.flow_several.proofs.Opened.{paths_of}
use Rattle.flow_several.proofs.opening.open_all.Given as goal

-- the folders so far are open
abbrev pub invariant-loop-folder : goal.invariant-loop-folder
invariant-loop-folder g l = record {
  place : l.place ≡ l.folder-index;
  opened : AllZip g.O.Opener.opens (take l.folder-index (paths_of l.folders)) l.disks.items;
  thawed : All (λ disk. (n : ℕ) → (g.D.Disk.marks disk n).frozen ≡ false) l.disks.items;
}
