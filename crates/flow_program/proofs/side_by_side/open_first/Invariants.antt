use Rattle.std.proofs.Common.{◌≡◌, length, take}
use Rattle.std.specs.List.{All, AllZip}
use Rattle.flow_several.proofs.Opened.{paths_of}
use Rattle.flow_program.specs.SideBySide.{IsOpened, MayBeChecked}
use Rattle.flow_program.proofs.side_by_side.open_first.Given as goal

-- so many of the folders are open, or refused
abbrev pub invariant-loop-folder : goal.invariant-loop-folder
invariant-loop-folder g l = record {
  count : length l.opened.items ≡ l.folder-index;
  opened : AllZip (IsOpened g.O.Opener.opens g.O.Opener.refuses) (take l.folder-index (paths_of l.folder-items))
      l.opened.items;
  thawed : All (MayBeChecked g.D.Disk) l.opened.items;
}
