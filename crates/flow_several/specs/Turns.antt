-- The answers of several archives, each by itself, taken in the order of their disks.
use Rattle.std.specs.Prelude.{◌≡◌, ℕ, List, Result, IfOk, IfErr, ◌⊎◌, IsTrue, false}
use Rattle.std.specs.List.{All}
use Rattle.flow_archive.specs.declared.refusal.Refused.{Refused}
use Rattle.flow_archive.specs.Beginning.{answer_of, disk_of}
use Rattle.flow_archive.specs.Seen.{Seen}
use Rattle.flow_disk.specs.Cause.{HasCause}
use Rattle.flow_disk.specs.declared.disk.Disk.{Ghosts}
use Rattle.flow_manifest.specs.declared.error.OpenError.{OpenError}
use Rattle.flow_manifest.specs.declared.error.OpenError.TheVariants.{Fault}
use Rattle.flow_manifest.specs.Slots.{reads_of}
use Rattle.flow_model.specs.Standing.{StandsFor}
use Rattle.flow_recover.specs.Opening.{IsDeviceOrMemory, StandsForNone}
use Rattle.flow_refusals.specs.declared.read_refusal.ReadRefusal.TheVariants as query
use Rattle.flow_several.specs.SideBySide as turns
use Rattle.flow_several.specs.declared.answer.Answer.{Answer}
use Rattle.flow_several.specs.declared.refusal.SummingRefusal.TheVariants.{Sums}
use Rattle.flow_several.specs.Several.{readings, DiskReading, IsOwnAnswer, KeepsArchive}
use Rattle.flow_several.specs.declared.error.TogetherError.TheVariants as together

-- ---- one archive

-- the failed reads of an archive are counted exactly where its answer is that one failed
abbrev pub IsCounted : {S X : Type 0} → Answer S X → Type 0
IsCounted a = HasCause (Sums (together.Query query.Fault)) 0 a.faults a.sums

-- this is answered of the archive on a disk: where that is honest, of what is read of it
abbrev pub IsAnswerOf : {D S X : Type 0} → Ghosts D S X → D → Answer S X → Type 0
IsAnswerOf g d a = (IsTrue (g.honest d) → IsOwnAnswer (reads_of (g.held d)) a.sums) × IsCounted a

-- This came of opening the archive on a disk: what was read of it represents its state, or why none is open; and a stop
-- at any moment leaves what opens as the archive that was there. A fault is answered exactly where a call of the disk
-- failed.
pub record IsOpened {D S X : Type 0} (g : Ghosts D S X) (disk : D) (opened : Result (Seen D) (Refused D OpenError))
    : Type 0 where
  pub honest : g.honest (disk_of opened) ≡ g.honest disk
  pub read : IsTrue (g.honest disk) → IfOk opened (λ a. StandsFor (reads_of (g.held disk)) a.state)
  pub told : IsTrue (g.honest disk)
      → IfErr opened (λ r. IsDeviceOrMemory r.error ⊎ StandsForNone (reads_of (g.held disk)))
  pub any_moment : KeepsArchive g disk (disk_of opened)
  pub cause : HasCause Fault (g.faults disk) (g.faults (disk_of opened)) (answer_of opened)

-- ---- several

-- These are answers of some disks, and of those that are left nothing is frozen.
abbrev pub AreReady : {D S X : Type 0} → Ghosts D S X → List (Answer S X) → List D → Type 0
AreReady {D} g answers left =
    ((all : List D) × turns.Awaits (IsAnswerOf g) answers left all)
    × All (λ d. (n : ℕ) → (g.marks d n).frozen ≡ false) left

-- Of honest disks, of which this is read, the first have these answers, and the others are still to be asked.
abbrev pub Awaits : {D S X : Type 0} → Ghosts D S X → List (Answer S X) → List D → List DiskReading → Type 0
Awaits {D} g answers left reads =
    (all : List D) × turns.Awaits (IsAnswerOf g) answers left all × All (λ d. IsTrue (g.honest d)) all
    × (reads ≡ readings g all)
