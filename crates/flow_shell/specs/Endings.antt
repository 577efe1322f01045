-- How the shell ends.
use Rattle.std.specs.Prelude.{◌≡◌, ◌⊎◌, ⊤, ℕ, List, [], Option, Some, None, Result, Ok, Err, IfErr, IsTrue, codes}
use Rattle.std.specs.Io.KnownBytes.{Keeps}
use Rattle.flow_disk.specs.declared.disk.Disk.{Ghosts}
use Rattle.flow_manifest.specs.Slots.{reads_of}
use Rattle.flow_model.specs.Shelf.{Shelf}
use Rattle.flow_model.specs.Shelved.{shelf_of}
use Rattle.flow_model.specs.Standing.{StandsFor}
use Rattle.flow_model.specs.State.{State}
use Rattle.flow_roller.specs.Asked.{Asked}
use Rattle.flow_roller.specs.Rolling.{RollsBeside, Round}
use Rattle.flow_archive.specs.declared.refusal.ArchiveError.{ArchiveError}
use Rattle.flow_commands.specs.Archives.{of_archive}
use Rattle.flow_commands.specs.declared.archive_refusal.ArchiveRefusal.{ArchiveRefusal}
use Rattle.flow_commands.specs.declared.archive_refusal.ArchiveRefusal.TheVariants.{Folder, Opening, Archive}
use Rattle.flow_commands.specs.declared.archive_refusal.ArchiveRefusal.TheVariants.{OutOfMemory, Query, Write}
use Rattle.flow_shell.specs.declared.serving.End.{End}
use Rattle.flow_shell.specs.declared.serving.End.TheVariants.{OfInput, Quit, Unread}
use Rattle.flow_shell.specs.Written.{done_line}

-- what is written last
abbrev pub end_text : End → List ℕ
end_text OfInput = []
end_text Quit = done_line 0
end_text Unread = codes "refused 31 Read\n"

abbrev pub end_status : End → ℕ
end_status OfInput = 0
end_status Quit = 0
end_status Unread = 3

-- The status of requests that were answered, or why they weren't; else why the rolling was refused.
abbrev pub shell_ended : Result ℕ ArchiveRefusal → Option ArchiveError → Result ℕ ArchiveRefusal
shell_ended (Err e) refused = Err e
shell_ended (Ok status) (Some error) = Err (of_archive error)
shell_ended (Ok status) None = Ok status

-- by a refusal, if any
abbrev pub answer_by : Option ArchiveError → Result (Unit {0}) ArchiveError
answer_by None = Ok tt
answer_by (Some error) = Err error

-- ---- what is kept

-- Rounds of turns were made by one who keeps and merges as many files as was asked for, until there was nothing left to
-- do, or up to this refusal.
abbrev pub RollsAsked : {D S X : Type 0} → Ghosts D S X → Shelf → (Asked → Type 0) → Option ArchiveError → Type 0
RollsAsked g opening asked refused = (rounds : List Round) × RollsBeside g opening asked rounds (answer_by refused)

-- an answer couldn't be made, or written
abbrev pub IsUnanswered : ArchiveRefusal → Type 0
IsUnanswered (Write failed) = ⊤
IsUnanswered OutOfMemory = ⊤
IsUnanswered (Folder why) = ⊥
IsUnanswered (Opening e) = ⊥
IsUnanswered (Archive e) = ⊥
IsUnanswered (Query e) = ⊥

-- Requests were answered, or an answer couldn't be made or written, while the rolling beside them kept what was asked
-- for; and both ended so.
pub record IsServed {D S X : Type 0} (g : Ghosts D S X) (opening : Shelf) (asked : Asked → Type 0)
    (result : Result ℕ ArchiveRefusal) : Type 0 where
  pub status : Result ℕ ArchiveRefusal
  pub answered : IfErr status IsUnanswered
  pub refused : Option ArchiveError
  pub rolled : ∥ RollsAsked g opening asked refused ∥₁
  pub ended : result ≡ shell_ended status refused

-- why no request is answered: the archive isn't opened, or memory is wanting
abbrev pub IsUnbegun : Result ℕ ArchiveRefusal → Type 0
IsUnbegun (Err (Folder why)) = ⊤
IsUnbegun (Err (Opening e)) = ⊤
IsUnbegun (Err OutOfMemory) = ⊤
IsUnbegun (Err (Write failed)) = ⊥
IsUnbegun (Err (Archive e)) = ⊥
IsUnbegun (Err (Query e)) = ⊥
IsUnbegun (Ok status) = ⊥

-- no request is answered, and nothing is written
abbrev pub IsUnserved : Option (List ℕ) → Option (List ℕ) → Result ℕ ArchiveRefusal → Type 0
IsUnserved old new result = IsUnbegun result × Keeps old new

-- The archive that was read was opened, and requests about it were answered; or none was.
abbrev pub ShellsOn : {D S X : Type 0} → Ghosts D S X → D → (Asked → Type 0) → Option (List ℕ) → Option (List ℕ)
    → Result ℕ ArchiveRefusal → Type 0
ShellsOn g disk asked old new result =
    ((state : State) × (IsTrue (g.honest disk) → StandsFor (reads_of (g.held disk)) state)
    × IsServed g (shelf_of state) asked result)
    ⊎ IsUnserved old new result

-- The same of the archive in a folder, on some disk of its kind.
abbrev pub ShellsIn : {D S X : Type 0} → Ghosts D S X → (Asked → Type 0) → Option (List ℕ) → Option (List ℕ)
    → Result ℕ ArchiveRefusal → Type 0
ShellsIn {D} g asked old new result = ((disk : D) × ShellsOn g disk asked old new result) ⊎ IsUnserved old new result
