-- What a disk keeps of its files.
use Rattle.std.specs.Prelude.{ℕ, ◌≤◌, ◌^◌, Bool, true, false, ◌||◌, List, [], ◌∷◌, ◌++◌, Option, Some, None, nat_eq}
use Rattle.std.specs.Prelude.{length, if◌then◌else◌}
use Rattle.std.proofs.Common.{lit≤}
use Rattle.std.specs.Ordering.{nat_cmp}
use Rattle.std.specs.BTreeMap.{get, keys}
use Rattle.flow_disk.specs.Disk.{Marks}
use Rattle.flow_directory.specs.File.{File}
use Rattle.flow_folder_disk.specs.declared.reported.Named.{Named}
use Rattle.flow_folder_disk.specs.declared.reported.Reported.{Reported}
use Rattle.flow_folder_disk.specs.declared.reported.Table.{Table}
use Rattle.flow_folder_disk.specs.Numbers.{is_among, numbers_of}

-- what was reported of a file
abbrev pub marks_of : Reported → Marks
marks_of reported = record {
  size = reported.size;
  settled = reported.settled;
  frozen = reported.frozen;
  listed = reported.listed;
}

-- of a file that was removed
abbrev pub removed : Marks
removed = record { size = 0; settled = true; frozen = false; listed = false }

-- of a file that isn't in a table; it was removed, or no call has named it
abbrev pub marks_of_some : Option Reported → Bool → Marks
marks_of_some None gone = record { size = 0; settled = gone; frozen = false; listed = false }
marks_of_some (Some reported) gone = marks_of reported

-- the same of a file that has this size, and of one that isn't reported as settled any more
abbrev pub sized_as : Marks → ℕ → Marks
sized_as marks size = record { size = size; settled = marks.settled; frozen = marks.frozen; listed = marks.listed }

abbrev pub doubted : Marks → Marks
doubted marks = record { size = marks.size; settled = false; frozen = marks.frozen; listed = marks.listed }

-- what was reported of each file, but for the one that was named last
abbrev pub others_in : Table → ℕ → Marks
others_in table file = marks_of_some (get nat_cmp table.reported file) (is_among file table.removed.ranges.items)

-- of this one what was reported last, and of others this
abbrev pub marks_after : Option Named → (ℕ → Marks) → ℕ → Marks
marks_after None others file = others file
marks_after (Some named) others file = if nat_eq named.file file then marks_of named.reported else others file

-- what was reported of each file
abbrev pub marks_in : Table → ℕ → Marks
marks_in table file = marks_after table.last (others_in table) file

-- the files of which something was reported
abbrev pub last_of : Option Named → List ℕ
last_of None = []
last_of (Some named) = named.file ∷ []

abbrev pub reported_in : Table → List ℕ
reported_in table = keys table.reported ++ numbers_of table.removed.ranges.items ++ last_of table.last

-- what holds of a file of a system that keeps its rules, of which this was reported
abbrev pub marks_with : Marks → File → Marks
marks_with marks file = record {
  size = length file.held.reads;
  settled = marks.settled;
  frozen = marks.frozen;
  listed = file.linked || marks.listed;
}

-- The marks of a file: where the system keeps its rules they are those of what it holds, else of what was reported.
abbrev pub marks_by : Bool → Marks → File → Marks
marks_by honest marks file = if honest then marks_with marks file else marks

-- no file passes 2^62 octets
within : (reported : Option Reported) (gone : Bool) → (marks_of_some reported gone).size ≤ 2 ^ 62
within None gone = lit≤ tt
within (Some reported) gone = reported.within

within_after : (last : Option Named) (others : ℕ → Marks) (file : ℕ) → (others file).size ≤ 2 ^ 62
    → (marks_after last others file).size ≤ 2 ^ 62
within_after None others file least = least
within_after (Some named) others file least = by_file (nat_eq named.file file)
  where
    by_file : (b : Bool) → (if b then marks_of named.reported else others file).size ≤ 2 ^ 62
    by_file true = named.reported.within
    by_file false = least

pub limited : (table : Table) (file : ℕ) → (marks_in table file).size ≤ 2 ^ 62
limited table file = within_after table.last (others_in table) file
    (within (get nat_cmp table.reported file) (is_among file table.removed.ranges.items))
