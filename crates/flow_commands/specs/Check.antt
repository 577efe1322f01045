-- What `check` answers of a disk, and what it writes.
use Rattle.std.specs.Prelude.{◌⊎◌, ℕ, ◌+◌, List, [], ◌∷◌, ◌++◌, Option, codes}
use Rattle.std.specs.Fmt.{decimal}
use Rattle.std.specs.Io.KnownBytes.{Appends, Keeps}
use Rattle.flow_manifest.specs.declared.manifest.Entry.{Entry}
use Rattle.flow_manifest.specs.declared.manifest.Kind.TheVariants.{Rolled, Sealed, Wide}
use Rattle.flow_manifest.specs.declared.manifest.Manifest.{Manifest}
use Rattle.flow_manifest.specs.Following.{count_of}
use Rattle.flow_recover.specs.Opening.{IsDeviceOrMemory, StandsForNone}
use Rattle.flow_model.specs.Standing.{StandsFor}
use Rattle.flow_model.specs.State.{State}
use Rattle.flow_archive.specs.Answers.{archive_position}
use Rattle.flow_commands.specs.declared.archive_refusal.ArchiveRefusal.{ArchiveRefusal}
use Rattle.flow_commands.specs.declared.archive_refusal.ArchiveRefusal.TheVariants.{Folder, Opening, Archive}
use Rattle.flow_commands.specs.declared.archive_refusal.ArchiveRefusal.TheVariants.{Query}
use Rattle.flow_commands.specs.declared.archive_refusal.ArchiveRefusal.TheVariants.{OutOfMemory, Write}
use Rattle.flow_commands.specs.declared.checking.Standing.{Standing}
use Rattle.flow_report.specs.Writing.{AppendsFront}

-- files of sums, over wide intervals or not
abbrev pub summed_count : List Entry → ℕ
summed_count entries = count_of Rolled entries + count_of Wide entries

-- how many messages an archive of this manifest has, how many of them are in sums alone, its files of sums and its
-- sealed segments
abbrev pub standing_by : Manifest → ℕ → Standing
standing_by m position = record {
  position = position;
  cut = m.rolled;
  rolled = summed_count m.entries;
  sealed = count_of Sealed m.entries;
}

abbrev pub standing_of : State → Standing
standing_of s = standing_by s.manifest (archive_position s)

unfoldable pub standing_line : Standing → List ℕ
standing_line t = codes "ok" ++ 32 ∷ decimal t.position ++ 32 ∷ decimal t.cut ++ 32 ∷ decimal t.rolled ++ 32 ∷
    decimal t.sealed ++ 10 ∷ []

-- ---- on an honest disk

-- what was read is that of a state, which is written
abbrev pub TellsState : (ℕ → List ℕ) → Option (List ℕ) → Option (List ℕ) → Type 0
TellsState reads old new = (s : State) × StandsFor reads s × Appends old new (standing_line (standing_of s))

-- Nothing is written of what was read where it is that of no state, nor after a fault of the device or of memory; a
-- prefix of the line where writing failed.
abbrev pub IsCheckRefused : (ℕ → List ℕ) → Option (List ℕ) → Option (List ℕ) → ArchiveRefusal → Type 0
IsCheckRefused reads old new (Write failed) =
    (s : State) × StandsFor reads s × AppendsFront old new (standing_line (standing_of s))
IsCheckRefused reads old new (Opening e) = (IsDeviceOrMemory e ⊎ StandsForNone reads) × Keeps old new
IsCheckRefused reads old new OutOfMemory = Keeps old new
IsCheckRefused reads old new (Archive e) = ⊥
IsCheckRefused reads old new (Query e) = ⊥
IsCheckRefused reads old new (Folder why) = ⊥

-- ---- on every disk

-- one line of numbers is written
abbrev pub IsChecked : Option (List ℕ) → Option (List ℕ) → Type 0
IsChecked old new = (t : Standing) × Appends old new (standing_line t)

-- nothing is written, or where writing failed a prefix of a line
abbrev pub KeepsOrChecks : ArchiveRefusal → Option (List ℕ) → Option (List ℕ) → Type 0
KeepsOrChecks (Write failed) old new = (t : Standing) × AppendsFront old new (standing_line t)
KeepsOrChecks (Opening e) old new = Keeps old new
KeepsOrChecks OutOfMemory old new = Keeps old new
KeepsOrChecks (Archive e) old new = Keeps old new
KeepsOrChecks (Query e) old new = Keeps old new
KeepsOrChecks (Folder why) old new = Keeps old new
