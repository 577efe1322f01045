-- What is answered of archives in folders.
use Rattle.std.specs.Prelude.{◌≡◌, ◌≤◌, ◌⊎◌, ℕ, ◌+◌, List, ◌∷◌, ◌++◌, length, Option, Result, OnOk, IfErr, IsTrue}
use Rattle.std.specs.Io.KnownBytes.{Keeps}
use Rattle.std.specs.List.{All, AllZip}
use Rattle.flow_disk.specs.Cause.{HasRisen}
use Rattle.flow_disk.specs.declared.disk.Disk.{Ghosts}
use Rattle.flow_folder.specs.declared.system.FolderError.{FolderError}
use Rattle.flow_several.specs.declared.refusal.SeveralRefusal.TheVariants.{OutOfMemory}
use Rattle.flow_several.specs.Several.{readings, IsReadFault}
use Rattle.flow_several.specs.declared.asking.Question.{Question}
use Rattle.flow_several.specs.declared.folders_refusal.FoldersRefusal.{FoldersRefusal}
use Rattle.flow_several.specs.declared.folders_refusal.FoldersRefusal.TheVariants.{Folder, Several}
use Rattle.flow_several.specs.Questions.{Answers, AnswersSomeRows, IsUnanswered}

-- the path of a folder
abbrev pub Path : Type 0
Path = List ℕ

-- ---- opening

-- The folder with this number, from 1 on, is the first that can't be opened: all before it are.
pub record IsFirstUnopened {D : Type 0} (opens : Path → D → Type 0) (refuses : Path → FolderError → Type 0)
    (folders : List Path) (number : ℕ) (e : FolderError) : Type 0 where
  pub before : List Path
  pub own : Path
  pub after : List Path
  pub disks : List D
  pub all : folders ≡ before ++ own ∷ after
  pub place : number ≡ length before + 1
  pub opened : AllZip opens before disks
  pub refused : refuses own e

-- Why no disks are there: a folder can't be opened, or memory ran out.
abbrev pub AreUnopened : {D : Type 0} → (Path → D → Type 0) → (Path → FolderError → Type 0) → List Path
    → FoldersRefusal → Type 0
AreUnopened opens refuses folders (Folder number e) = IsFirstUnopened opens refuses folders number e
AreUnopened opens refuses folders (Several e) = e ≡ OutOfMemory

-- ---- asking

-- The answer of the disks of these folders, in their order, is written, where these are honest.
abbrev pub AnswersFolders : {D S X : Type 0} → Ghosts D S X → (Path → D → Type 0) → Question → List Path
    → Option (List ℕ) → Option (List ℕ) → Type 0
AnswersFolders {D} g opens q folders old new =
    (disks : List D) × AllZip opens folders disks
    × (All (λ d. IsTrue (g.honest d)) disks → Answers q (readings g disks) old new)

-- A folder can't be opened, or memory runs out before all are, and nothing is written; or the disks of these folders
-- have no answer, where these are honest.
abbrev pub AreFoldersRefused : {D S X : Type 0} → Ghosts D S X → (Path → D → Type 0) → (Path → FolderError → Type 0)
    → Question → List Path → Option (List ℕ) → Option (List ℕ) → FoldersRefusal → Type 0
AreFoldersRefused g opens refuses q folders old new (Folder number e) =
    IsFirstUnopened opens refuses folders number e × Keeps old new
AreFoldersRefused {D} g opens refuses q folders old new (Several e) =
    ((e ≡ OutOfMemory) × Keeps old new)
    ⊎ ((disks : List D) × AllZip opens folders disks
    × (All (λ d. IsTrue (g.honest d)) disks → IsUnanswered q (readings g disks) old new e))

-- ---- on every disk

-- Of so many folders one can't be opened, and nothing is written; else as of their disks.
abbrev pub KeepsOrRows : Question → ℕ → Option (List ℕ) → Option (List ℕ) → FoldersRefusal → Type 0
KeepsOrRows q count old new (Folder number e) = (1 ≤ number) × (number ≤ count) × Keeps old new
KeepsOrRows q count old new (Several e) = AnswersSomeRows q old new e

-- ---- the cause of a fault

-- a read of an archive's file failed
abbrev pub IsFoldersFault : FoldersRefusal → Type 0
IsFoldersFault (Folder number e) = ⊥
IsFoldersFault (Several e) = IsReadFault e

-- The count of failed reads rises exactly where the answer is such a fault.
pub record HasFoldersCause {X : Type 0} (before now : ℕ) (result : Result X FoldersRefusal) : Type 0 where
  pub later : before ≤ now
  pub done : OnOk result (now ≡ before)
  pub risen : IfErr result (λ e. IsFoldersFault e → HasRisen before now)
  pub other : IfErr result (λ e. (IsFoldersFault e → ⊥) → now ≡ before)
