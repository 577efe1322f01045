use Rattle.std.proofs.Common.{◌≡◌, ◌++◌, List, drop, length}
use Rattle.std.specs.Prelude.{IsTrue}
use Rattle.std.specs.FinMap.{FinMap}
use Rattle.std.specs.List.{flat_map}
use Rattle.flow_measure.specs.declared.rows.Sums.{Sums}
use Rattle.flow_measure.specs.Sums.{key_cmp}
use Rattle.flow_snapshot.specs.Shares.{AreNarrow, AreWide}
use Rattle.flow_commands.specs.declared.archive_files.FileLine.{FileLine}
use Rattle.flow_commands.specs.ArchiveFiles.{file_line, lines_from, lines_of, starts_of_file}
use Rattle.flow_commands.proofs.archive_files.push_files.Given as goal

-- the lines so far and those of what is left are all of them
abbrev pub invariant-loop-entry : goal.invariant-loop-entry
invariant-loop-entry g l = record {
  faults : l.faults ≡ l.fn.faults;
  number : l.number ≡ l.entry-index;
  text : IsTrue l.snapshot.honest → (wide narrow : List (FinMap key_cmp Sums)) → AreWide l.snapshot.shelf wide
      → AreNarrow l.snapshot.shelf narrow
      → l.text.items ++ lines_from (starts_of_file l.snapshot.shelf (length l.entries) wide narrow) l.end l.active
      l.number (drop l.entry-index l.entries)
      ≡ l.fn.text.items ++ lines_of l.snapshot.shelf wide narrow l.end l.active l.entries;
  lines : (lines : List FileLine) × (l.text.items ≡ l.fn.text.items ++ flat_map file_line lines);
}
