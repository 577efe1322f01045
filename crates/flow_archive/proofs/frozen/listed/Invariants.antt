use Rattle.std.proofs.Common.{◌≡◌, IsTrue, map, take}
use Rattle.std.specs.List.{flat_map, list_all}
use Rattle.flow_snapshot.specs.Directories.{sight_of}
use Rattle.flow_snapshot.specs.Files as files
use Rattle.flow_archive.specs.Frozen.{rolled_in, segment_in, wide_in, Frozen}
use Rattle.flow_archive.proofs.frozen.listed.Given as goal

abbrev pub invariant-loop-file : goal.invariant-loop-file
invariant-loop-file g l = record {
  merged : map files.rollup_of (files.shared l.list.merged.items)
      ≡ flat_map (λ (f : Frozen). wide_in f.entry.kind f) (take l.file-index l.files);
  rolled : map files.rollup_of (files.shared l.list.rolled.items)
      ≡ flat_map (λ (f : Frozen). rolled_in f.entry.kind f) (take l.file-index l.files);
  sealed : map files.segment_of (files.shared l.list.sealed.items)
      ≡ flat_map (λ (f : Frozen). segment_in f.entry.kind f) (take l.file-index l.files);
  prefix : l.list.prefix ≡ l.fn.prefix;
  active : l.list.active.items ≡ l.fn.active.items;
  honest : IsTrue (list_all (λ (f : Frozen). f.honest) l.files) → IsTrue (sight_of 0 0 l.list).honest;
}
