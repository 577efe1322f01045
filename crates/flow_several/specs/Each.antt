-- What is written of each of several archives, with its number.
use Rattle.std.specs.Prelude.{◌≡◌, ◌⊎◌, ℕ, ◌+◌, ◌==◌, List, [], ◌∷◌, ◌++◌, length, Option, codes, if◌then◌else◌}
use Rattle.std.specs.Io.KnownBytes.{Appends, Keeps}
use Rattle.std.specs.List.{flat_map, AllZip}
use Rattle.flow_measure.specs.declared.rows.Row.{Row}
use Rattle.flow_measure.specs.Query.{totals_in_view}
use Rattle.flow_measure.specs.View.{View}
use Rattle.flow_model.specs.Shelved.{shelf_of}
use Rattle.flow_model.specs.Standing.{StandsFor}
use Rattle.flow_model.specs.State.{State}
use Rattle.flow_model.specs.Views.{IsViewOf}
use Rattle.flow_recover.specs.Opening.{IsDeviceOrMemory, StandsForNone}
use Rattle.flow_report.specs.declared.format.Format.{Format}
use Rattle.flow_report.specs.declared.format.Layout.{Layout}
use Rattle.flow_report.specs.ArchiveLines.{key_values, row_names, shows_width, sums_values, width_values}
use Rattle.flow_report.specs.Formats.{heading, line_in, Named}
use Rattle.flow_report.specs.Formats.Value.{Number}
use Rattle.flow_report.specs.Writing.{AppendsFront}
use Rattle.flow_snapshot.specs.declared.shares.PartSums.{PartSums}
use Rattle.flow_snapshot.specs.Totals.{first_file, IsTotalsRefusal, SumsFit}
use Rattle.flow_several.specs.declared.error.TogetherError.{TogetherError}
use Rattle.flow_several.specs.declared.error.TogetherError.TheVariants as together
use Rattle.flow_several.specs.Together.{rows_of_sums, width_of_sums, FitTogether}
use Rattle.flow_several.specs.declared.refusal.SeveralRefusal.{SeveralRefusal}
use Rattle.flow_several.specs.declared.refusal.SeveralRefusal.TheVariants.{Archive, OutOfMemory, SumSpent, Write}
use Rattle.flow_several.specs.declared.refusal.SummingRefusal.{SummingRefusal}
use Rattle.flow_several.specs.declared.refusal.SummingRefusal.TheVariants.{Opening, Sums}
use Rattle.flow_several.specs.Several.{IsViewRead, DiskReading}

-- ---- lines

abbrev pub archive_number : ℕ → Named
archive_number number = (codes "archive", Number number)

-- ARCHIVE START DOMAIN PROTOCOL FLOWS OCTETS PACKETS of a row, and the width of its intervals
unfoldable pub numbered_row : Format → ℕ → ℕ → Row → List ℕ
numbered_row format number usual row =
    line_in format
    (archive_number number ∷ key_values row.key ++ sums_values row.sums
    ++ width_values (shows_width format.layout usual row.width) row.width)

abbrev pub numbered_names : List (List ℕ)
numbered_names = codes "archive" ∷ row_names

-- the text before an archive's lines: before those of the first one the heading
abbrev pub names_before : Layout → ℕ → List ℕ
names_before layout number = if number == 1 then heading layout numbered_names else []

-- the lines of the rows of the archive with this number
abbrev pub archive_lines : Format → ℕ → ℕ → List Row → List ℕ
archive_lines format number usual rows =
    names_before format.layout number ++ flat_map (numbered_row format number usual) rows

-- the lines of the totals of the archive with this number, of the intervals that start in a span
abbrev pub archive_totals : Format → ℕ → ℕ → ℕ → View → List ℕ
archive_totals format from to number v = archive_lines format number v.width (totals_in_view from to v)

-- those of archives, of which the first has this number
abbrev pub each_totals : Format → ℕ → ℕ → ℕ → List View → List ℕ
each_totals format from to number [] = []
each_totals format from to number (v ∷ vs) =
    archive_totals format from to number v ++ each_totals format from to (number + 1) vs

-- ---- on honest disks

-- just the lines of each archive are written
abbrev pub WritesEach : Format → ℕ → ℕ → List DiskReading → Option (List ℕ) → Option (List ℕ) → Type 0
WritesEach format from to reads old new =
    (vs : List View) × AllZip IsViewRead reads vs × Appends old new (each_totals format from to 1 vs)

-- Why an archive whose view was read isn't asked alone: a read failed, or memory ran out; or its sums don't fit their
-- types.
abbrev pub IsRefusedAlone : ℕ → View → TogetherError → Type 0
IsRefusedAlone first v (together.Query e) = IsTotalsRefusal first (FitTogether (v ∷ [])) e
IsRefusedAlone first v together.OtherWidths = ⊥
IsRefusedAlone first v together.SumSpent = SumsFit v → ⊥

abbrev pub IsArchiveUnanswered : DiskReading → SummingRefusal → Type 0
IsArchiveUnanswered reads (Opening e) = IsDeviceOrMemory e ⊎ StandsForNone reads
IsArchiveUnanswered reads (Sums e) =
    (s : State) × (v : View) × StandsFor reads s × IsViewOf (shelf_of s) v
    × IsRefusedAlone (first_file (shelf_of s)) v e

-- The archive with this number, from 1 on, is the first without an answer: the lines of all before it are written.
pub record IsFirstUnanswered (format : Format) (from to : ℕ) (reads : List DiskReading) (old new : Option (List ℕ))
    (number : ℕ) (e : SummingRefusal) : Type 0 where
  pub before : List DiskReading
  pub own : DiskReading
  pub after : List DiskReading
  pub views : List View
  pub all : reads ≡ before ++ own ∷ after
  pub place : number ≡ length before + 1
  pub answered : AllZip IsViewRead before views
  pub unanswered : IsArchiveUnanswered own e
  pub written : Appends old new (each_totals format from to 1 views)

-- some of the first archives are answered, and this is the text of their lines
abbrev pub AreFirstLines : Format → ℕ → ℕ → List DiskReading → List ℕ → Type 0
AreFirstLines format from to reads text =
    (before : List DiskReading) × (after : List DiskReading) × (vs : List View) × (reads ≡ before ++ after)
    × AllZip IsViewRead before vs × (text ≡ each_totals format from to 1 vs)

-- A refusal names the first archive without an answer, after the lines of those before it; or the lines of an archive
-- aren't made, or a prefix of them is written, after the same.
abbrev pub IsEachRefused : Format → ℕ → ℕ → List DiskReading → Option (List ℕ) → Option (List ℕ) → SeveralRefusal
    → Type 0
IsEachRefused format from to reads old new (Archive number e) =
    IsFirstUnanswered format from to reads old new number e
IsEachRefused format from to reads old new SumSpent = ⊥
IsEachRefused format from to reads old new OutOfMemory =
    (text : List ℕ) × AreFirstLines format from to reads text × Appends old new text
IsEachRefused format from to reads old new (Write failed) =
    (text : List ℕ) × AreFirstLines format from to reads text × AppendsFront old new text

-- ---- on every disk

-- the lines of the rows of sums, of the intervals that start in a span, of archives of which the first has this number
abbrev pub each_lines : Format → ℕ → ℕ → ℕ → List (Option PartSums) → List ℕ
each_lines format from to number [] = []
each_lines format from to number (sums ∷ more) =
    archive_lines format number (width_of_sums sums) (rows_of_sums from to sums)
    ++ each_lines format from to (number + 1) more

-- lines of rows of so many archives, numbered from 1 on
abbrev pub WritesEachRows : Format → ℕ → ℕ → ℕ → Option (List ℕ) → Option (List ℕ) → Type 0
WritesEachRows format from to count old new =
    (all : List (Option PartSums)) × (length all ≡ count) × Appends old new (each_lines format from to 1 all)

-- such lines of some archives are written; where writing failed, a prefix of such lines
abbrev pub WritesSomeRows : Format → ℕ → ℕ → Option (List ℕ) → Option (List ℕ) → SeveralRefusal → Type 0
WritesSomeRows format from to old new (Archive number e) =
    (all : List (Option PartSums)) × (number ≡ length all + 1) × Appends old new (each_lines format from to 1 all)
WritesSomeRows format from to old new SumSpent = ⊥
WritesSomeRows format from to old new OutOfMemory =
    (all : List (Option PartSums)) × Appends old new (each_lines format from to 1 all)
WritesSomeRows format from to old new (Write failed) =
    (all : List (Option PartSums)) × AppendsFront old new (each_lines format from to 1 all)

-- ---- one archive

-- Why the lines of the archive with this number aren't written: its sums don't fit, or memory ran out, and nothing is
-- written; or writing failed after a prefix of them.
abbrev pub IsLineRefusal : ℕ → Type 0 → List ℕ → Option (List ℕ) → Option (List ℕ) → SeveralRefusal → Type 0
IsLineRefusal number fit text old new (Archive n e) =
    (n ≡ number) × (e ≡ Sums together.SumSpent) × (fit → ⊥) × Keeps old new
IsLineRefusal number fit text old new SumSpent = ⊥
IsLineRefusal number fit text old new OutOfMemory = Keeps old new
IsLineRefusal number fit text old new (Write failed) = AppendsFront old new text
