-- An archive that a command opens on a disk, asks, and hands on.
use Rattle.std.specs.Prelude.{◌≡◌, ℕ, true, false, IsTrue}
use Rattle.flow_disk.specs.declared.disk.Disk.{Ghosts}
use Rattle.flow_disk.specs.Disk.{AllImages}
use Rattle.flow_disk.specs.Calls.{LeavesOnly}
use Rattle.flow_manifest.specs.declared.error.OpenError.{OpenError}
use Rattle.flow_manifest.specs.Slots.{reads_of}
use Rattle.flow_model.specs.Standing.{StandsFor, StandsForEither}
use Rattle.flow_model.specs.State.{State, reopened}
use Rattle.flow_recover.specs.Opening.{IsDeviceOrMemory}
use Rattle.flow_archive.specs.Seen.{Seen}
use Rattle.flow_commands.specs.declared.archive_refusal.ArchiveRefusal.{ArchiveRefusal}
use Rattle.flow_commands.specs.declared.archive_refusal.ArchiveRefusal.TheVariants.{Opening}

-- On an honest disk a stop at any moment leaves what represents the archive that was there: where a stop had left one
-- of two states, one of these.
abbrev pub KeepsArchive : {D S X : Type 0} → Ghosts D S X → D → D → Type 0
KeepsArchive g old new =
    IsTrue (g.honest old) → (a b : State) → AllImages (g.held old) (StandsForEither a b)
    → LeavesOnly g old new (StandsForEither a b)

-- On an honest disk each file reads as before, where the refusal is that of an opening by 20 to 24.
abbrev pub KeepsFiles : {D S X : Type 0} → Ghosts D S X → D → D → ArchiveRefusal → Type 0
KeepsFiles g old new refusal =
    IsTrue (g.honest old) → (e : OpenError) → refusal ≡ Opening e → (IsDeviceOrMemory e → ⊥)
    → (n : ℕ) → (g.held new n).reads ≡ (g.held old n).reads

-- It is as it was, but shared.
pub record IsAsked {D : Type 0} (old new : Seen D) : Type 0 where
  pub disk : new.disk ≡ old.disk
  pub closed : new.closed ≡ old.closed
  pub state : new.state ≡ record old.state { shared = true }

-- It is open, and on an honest disk what was read represents its state, and so does each image from now on.
pub record IsHandedOn {D S X : Type 0} (g : Ghosts D S X) (disk : D) (archive : Seen D) : Type 0 where
  pub is_open : archive.closed ≡ false
  pub read : IsTrue (g.honest disk) → StandsFor (reads_of (g.held disk)) (reopened archive.state)
  pub stands : IsTrue (g.honest disk)
      → AllImages (g.held archive.disk) (λ image. StandsFor image (reopened archive.state))
