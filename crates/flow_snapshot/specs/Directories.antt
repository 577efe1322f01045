-- What a directory shows.
use Rattle.std.specs.Prelude.{ℕ, ◌&&◌, map}
use Rattle.std.specs.List.{list_all}
use Rattle.flow_disk.specs.declared.sealed.SealedFile.{Ghosts}
use Rattle.flow_snapshot.specs.declared.files.Files.{Files}
use Rattle.flow_snapshot.specs.Files.{is_honest, is_honest_sum, rollup_of, segment_of, shared}
use Rattle.flow_snapshot.specs.ShelfSeen.{ShelfSeen}

-- these files, with these widths
abbrev pub sight_of : {F X : Type 0} {files : Ghosts F X} → ℕ → ℕ → Files F X files → ShelfSeen
sight_of width wide f = record {
  honest = list_all is_honest_sum (shared f.merged.items) && list_all is_honest_sum (shared f.rolled.items)
      && list_all is_honest (shared f.sealed.items);
  shelf = record {
    width = width;
    wide = wide;
    merged = map rollup_of (shared f.merged.items);
    rolled = map rollup_of (shared f.rolled.items);
    sealed = map segment_of (shared f.sealed.items);
    prefix = f.prefix;
    active = f.active.items;
  };
}
