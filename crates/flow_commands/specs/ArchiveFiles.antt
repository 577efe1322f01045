-- What `check --files` writes: a line for each file of an archive.
use Rattle.std.specs.Prelude.{◌≡◌, ℕ, ◌+◌, ◌-◌, ◌^◌, List, [], ◌∷◌, ◌++◌, length, take, drop, nat_lt}
use Rattle.std.specs.Prelude.{Option, Some, None, codes, if◌then◌else◌}
use Rattle.std.specs.FinMap.{FinMap}
use Rattle.std.specs.Fmt.{decimal}
use Rattle.std.specs.List.{flat_map}
use Rattle.std.specs.Io.KnownBytes.{Appends, Keeps}
use Rattle.flow_manifest.specs.declared.manifest.Entry.{Entry}
use Rattle.flow_manifest.specs.declared.manifest.Kind.{Kind}
use Rattle.flow_manifest.specs.declared.manifest.Kind.TheVariants.{Active, Rolled, Sealed, Wide}
use Rattle.flow_measure.specs.declared.rows.Row.{Row}
use Rattle.flow_measure.specs.declared.rows.Sums.{Sums}
use Rattle.flow_measure.specs.declared.span.PartSpan.{PartSpan}
use Rattle.flow_measure.specs.Sums.{interval_of, key_cmp, rows_between, Table}
use Rattle.flow_model.specs.Shelved.{shelf_of}
use Rattle.flow_model.specs.Standing.{StandsFor}
use Rattle.flow_model.specs.State.{end_of, State}
use Rattle.flow_snapshot.specs.Shares.{narrow_turn, own, summed, AreNarrow, AreWide}
use Rattle.flow_model.specs.Shelf.{Shelf}
use Rattle.flow_snapshot.specs.Totals.{SumsFit}
use Rattle.flow_commands.specs.declared.archive_files.FileLine.{FileLine}
use Rattle.flow_commands.specs.declared.archive_files.Starts.{Starts}
use Rattle.flow_commands.specs.declared.archive_refusal.ArchiveRefusal.{ArchiveRefusal}
use Rattle.flow_commands.specs.declared.archive_refusal.ArchiveRefusal.TheVariants.{Folder, Opening, Archive}
use Rattle.flow_commands.specs.declared.archive_refusal.ArchiveRefusal.TheVariants.{OutOfMemory, Query, Write}
use Rattle.flow_commands.specs.declared.checking.Standing.{Standing}
use Rattle.flow_commands.specs.Asking.{IsNotFound}
use Rattle.flow_commands.specs.Check.{standing_line, standing_of}
use Rattle.flow_report.specs.Writing.{AppendsFront}

-- ---- when the flows of a file start

abbrev pub last_start : ℕ → List Row → ℕ
last_start start [] = start
last_start start (r ∷ rs) = last_start r.key.start rs

-- the starts of the first and of the last interval of rows
abbrev pub starts_of : List Row → Option Starts
starts_of [] = None
starts_of (r ∷ rs) = Some (record { first = r.key.start; last = last_start r.key.start rs })

-- all rows of a table: each start is below 2^32
abbrev pub rows_in : Table → List Row
rows_in t = rows_between 0 (2 ^ 32) t

-- the starts of a table, else those of another one
abbrev pub starts_or : Option Starts → Table → Option Starts
starts_or (Some starts) other = Some starts
starts_or None other = starts_of (rows_in other)

abbrev pub starts_in : Table → Table → Option Starts
starts_in wide narrow = starts_or (starts_of (rows_in wide)) narrow

-- the starts of the first and of the last interval of flows with this span, none where there are no flows
abbrev pub starts_of_span : ℕ → PartSpan → Option Starts
starts_of_span width span =
    if nat_lt span.last span.first then None
    else Some (record { first = interval_of span.first width; last = interval_of span.last width })

-- ---- a line

abbrev pub kind_word : Kind → List ℕ
kind_word Wide = codes "wide"
kind_word Rolled = codes "rolled"
kind_word Sealed = codes "sealed"
kind_word Active = codes "active"

abbrev pub starts_words : Option Starts → List ℕ
starts_words None = codes " - -"
starts_words (Some starts) = 32 ∷ decimal starts.first ++ 32 ∷ decimal starts.last

-- KIND FILE OCTETS MESSAGES FIRST LAST
unfoldable pub file_line : FileLine → List ℕ
file_line l = kind_word l.kind ++ (32 ∷ decimal l.file) ++ (32 ∷ decimal l.octets) ++ (32 ∷ decimal l.messages)
    ++ starts_words l.starts ++ 10 ∷ []

-- an entry's line: of the active segment so many octets and messages as there are now
abbrev pub line_of : ℕ → ℕ → Entry → Option Starts → FileLine
line_of end active e starts = by e.kind
  where
    by : Kind → FileLine
    by Active = record { kind = Active; file = e.file; octets = end; messages = active; starts = starts }
    by kind = record { kind = kind; file = e.file; octets = e.length; messages = e.messages; starts = starts }

-- ---- all lines

-- The starts of the flows of the file with this number, from 0 on, of so many: those of the sums that fall to the
-- worker with this number where each file has a worker of its own.
abbrev pub starts_of_file : Shelf → ℕ → List (FinMap key_cmp Sums) → List (FinMap key_cmp Sums) → ℕ → Option Starts
starts_of_file s count wide narrow n =
    starts_in (summed s.wide (own count n 0 wide)) (summed s.width (own count n (narrow_turn s count) narrow))

-- the sums of the file with this number alone: files of sums over wide intervals come first
abbrev pub alone : Shelf → List (FinMap key_cmp Sums) → List (FinMap key_cmp Sums) → ℕ → Table
alone s wide narrow n =
    if nat_lt n (length wide) then summed s.wide (take 1 (drop n wide))
    else summed s.width (take 1 (drop (n - length wide) narrow))

-- the lines of these entries, the first of which has the number n
abbrev pub lines_from : (ℕ → Option Starts) → ℕ → ℕ → ℕ → List Entry → List ℕ
lines_from starts end active n [] = []
lines_from starts end active n (e ∷ es) =
    file_line (line_of end active e (starts n)) ++ lines_from starts end active (n + 1) es

abbrev pub lines_of : Shelf → List (FinMap key_cmp Sums) → List (FinMap key_cmp Sums) → ℕ → ℕ → List Entry → List ℕ
lines_of s wide narrow end active entries =
    lines_from (starts_of_file s (length entries) wide narrow) end active 0 entries

-- the line of `check`, and one for each file, where these are the sums of its files
abbrev pub files_text : State → List (FinMap key_cmp Sums) → List (FinMap key_cmp Sums) → List ℕ
files_text s wide narrow =
    standing_line (standing_of s)
    ++ lines_of (shelf_of s) wide narrow (end_of s) (length s.active.messages) s.manifest.entries

-- ---- on an honest disk

-- these are the lines of what was read
abbrev pub AreFileLines : (ℕ → List ℕ) → List ℕ → Type 0
AreFileLines reads text =
    (s : State) × StandsFor reads s × (wide : List (FinMap key_cmp Sums)) × (narrow : List (FinMap key_cmp Sums))
    × AreWide (shelf_of s) wide × AreNarrow (shelf_of s) narrow × (text ≡ files_text s wide narrow)

-- they were written
abbrev pub ListsFiles : (ℕ → List ℕ) → Option (List ℕ) → Option (List ℕ) → Type 0
ListsFiles reads old new = (text : List ℕ) × AreFileLines reads text × Appends old new text

-- a prefix of them, where writing failed; else nothing
abbrev pub ListsNoFiles : (ℕ → List ℕ) → Option (List ℕ) → Option (List ℕ) → ArchiveRefusal → Type 0
ListsNoFiles reads old new (Write failed) = (text : List ℕ) × AreFileLines reads text × AppendsFront old new text
ListsNoFiles reads old new (Opening e) = IsNotFound SumsFit reads (Opening e) × Keeps old new
ListsNoFiles reads old new (Query e) = IsNotFound SumsFit reads (Query e) × Keeps old new
ListsNoFiles reads old new OutOfMemory = Keeps old new
ListsNoFiles reads old new (Archive e) = ⊥
ListsNoFiles reads old new (Folder why) = ⊥

-- ---- on every disk

-- a line of numbers, and lines of files
abbrev pub AreListings : List ℕ → Type 0
AreListings text = (t : Standing) × (lines : List FileLine) × (text ≡ standing_line t ++ flat_map file_line lines)
