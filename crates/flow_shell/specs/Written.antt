-- What is written of an answer.
use Rattle.std.specs.Prelude.{◌≡◌, ◌⊎◌, ℕ, ◌+◌, List, [], ◌∷◌, ◌++◌, Option, Result, Ok, Err, codes}
use Rattle.std.specs.Fmt.{decimal}
use Rattle.std.specs.List.{flat_map, AllByRecursion}
use Rattle.std.specs.Io.KnownBytes.{Appends, Keeps}
use Rattle.flow_report.specs.Writing.{AppendsFront}
use Rattle.flow_commands.specs.declared.archive_refusal.ArchiveRefusal.{ArchiveRefusal}
use Rattle.flow_commands.specs.declared.archive_refusal.ArchiveRefusal.TheVariants.{Write, OutOfMemory}
use Rattle.flow_commands.specs.Feeding.{fed_line}
use Rattle.flow_feed.specs.declared.batch.Fed.{Fed}
use Rattle.flow_shell.specs.declared.refusal.ShellRefusal.{ShellRefusal}
use Rattle.flow_shell.specs.declared.refusal.ShellRefusal.TheVariants.{Archive, Reader}
use Rattle.flow_shell.specs.Refusals.{shell_printed, shell_status}

-- the end of an answer: done STATUS, of one digit
abbrev pub done_line : ℕ → List ℕ
done_line status = codes "done " ++ (48 + status) ∷ 10 ∷ []

-- began N
abbrev pub began_line : ℕ → List ℕ
began_line number = codes "began " ++ decimal number ++ 10 ∷ []

-- refused NUMBER NAME, with what the refusal carries
abbrev pub refused_line : ShellRefusal → List ℕ
refused_line e = codes "refused " ++ shell_printed e ++ 10 ∷ []

-- A text was written whole, or a prefix of it, where writing failed.
abbrev pub IsWritten : List ℕ → Option (List ℕ) → Option (List ℕ) → Result (Unit {0}) ArchiveRefusal → Type 0
IsWritten text old new (Ok done) = Appends old new text
IsWritten text old new (Err (Write failed)) = AppendsFront old new text
IsWritten text old new (Err e) = ⊥

-- The line of a refusal was written, or that of refused memory, and the end of the answer after it.
abbrev pub IsRefusalWritten : ShellRefusal → Option (List ℕ) → Option (List ℕ) → Result (Unit {0}) ArchiveRefusal
    → Type 0
IsRefusalWritten e old new result =
    IsWritten (refused_line e ++ done_line (shell_status e)) old new result
    ⊎ IsWritten (codes "refused 11 OutOfMemory\n" ++ done_line 4) old new result

-- what is written after a refusal of the archive's: that, or nothing where it was one of writing
abbrev pub IsEndedBy : ArchiveRefusal → Option (List ℕ) → Option (List ℕ) → Result (Unit {0}) ArchiveRefusal → Type 0
IsEndedBy (Write failed) old new result = (result ≡ Err (Write failed)) × Keeps old new
IsEndedBy e old new result = IsRefusalWritten (Archive e) old new result

-- The end of an answer after its lines: done 0; where there are none, what refused them; and nothing where they
-- couldn't be written.
abbrev pub IsFinished : Result (Unit {0}) ShellRefusal → Option (List ℕ) → Option (List ℕ)
    → Result (Unit {0}) ArchiveRefusal → Type 0
IsFinished (Ok done) old new result = IsWritten (done_line 0) old new result
IsFinished (Err (Archive e)) old new result = IsEndedBy e old new result
IsFinished (Err (Reader e)) old new result = IsRefusalWritten (Reader e) old new result

-- the lines of an answer and its end, or a refusal and its end
abbrev pub IsAnswer : List ℕ → Option (List ℕ) → Option (List ℕ) → Type 0
IsAnswer lines old new =
    Appends old new (lines ++ done_line 0) ⊎ ((e : ShellRefusal) × IsRefusalWritten e old new (Ok tt))

-- ---- the lines of Files

-- Files by their numbers, of each of which it is said that it ended so
abbrev pub AreEnded : (ℕ → Fed → Type 0) → List (ℕ × Fed) → Type 0
AreEnded said files = AllByRecursion (λ (file : ℕ × Fed). ∥ said file.0 file.1 ∥₁) files

-- their lines
abbrev pub ended_lines : List (ℕ × Fed) → List ℕ
ended_lines files = flat_map (λ (file : ℕ × Fed). fed_line file.0 file.1) files

-- the lines of Files that ended so were written
abbrev pub HasTold : (ℕ → Fed → Type 0) → Option (List ℕ) → Option (List ℕ) → Type 0
HasTold said old new = (files : List (ℕ × Fed)) × AreEnded said files × Appends old new (ended_lines files)

-- The lines of Files that ended so were written; all but one for which memory was wanting, or a prefix of them where
-- writing failed.
abbrev pub TellsEnded : (ℕ → Fed → Type 0) → Option (List ℕ) → Option (List ℕ) → Result (Unit {0}) ArchiveRefusal
    → Type 0
TellsEnded said old new (Ok done) = HasTold said old new
TellsEnded said old new (Err OutOfMemory) = HasTold said old new
TellsEnded said old new (Err (Write failed)) =
    (files : List (ℕ × Fed)) × AreEnded said files × AppendsFront old new (ended_lines files)
TellsEnded said old new (Err e) = ⊥
