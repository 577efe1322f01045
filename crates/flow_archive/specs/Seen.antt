-- An archive as its callers see it, and what one call makes of it.
use Rattle.std.specs.Prelude.{◌≡◌, ◌≢◌, ◌⊎◌, ℕ, Bool, true, false, IsTrue, List, Result, OnOk, IfErr, Option, Some, IfSome}
use Rattle.std.specs.Prelude.{IsErrOf}
use Rattle.std.specs.List.{AllByRecursion}
use Rattle.flow_disk.specs.declared.disk.Disk.{Ghosts}
use Rattle.flow_disk.specs.Disk.{Held, Marks}
use Rattle.flow_disk.specs.Calls.{LeavesOnly}
use Rattle.flow_manifest.specs.declared.manifest.Entry.{Entry}
use Rattle.flow_manifest.specs.declared.manifest.Manifest.{Manifest}
use Rattle.flow_manifest.specs.declared.slots.Slots.{Slots}
use Rattle.flow_manifest.specs.Following.{front_of}
use Rattle.flow_measure.specs.declared.span.PartSpan.{PartSpan}
use Rattle.flow_segment.specs.Carry.{Carry}
use Rattle.flow_segment.specs.Spans.{AreNotedSoFar}
use Rattle.flow_model.specs.Shelf.{Shelf}
use Rattle.flow_model.specs.State.{State, at_rest, reopened}
use Rattle.flow_model.specs.Chain.{HandsOn, IsSegment}
use Rattle.flow_recover.specs.Kept.{IsCounted, IsKept}
use Rattle.flow_recover.specs.Opening.{FrozenStand}
use Rattle.flow_model.specs.Standing.{StandsFor}
use Rattle.flow_archive.specs.declared.refusal.ArchiveError.{ArchiveError}
use Rattle.flow_archive.specs.declared.refusal.ArchiveError.TheVariants.{Fault}
use Rattle.flow_archive.specs.Frozen.{octets_in, AreHeldAs, Frozen}
use Rattle.flow_archive.specs.Parts.{parts_at}
use Rattle.flow_archive.specs.UnderWay.{UnderWay, job_in, numbers_of}

pub record Seen (D : Type 0) : Type 0 where
  pub disk : D
  pub state : State
  pub closed : Bool

-- ---- what an archive keeps

-- the state that it represents
abbrev pub state_in : UnderWay → Bool → Manifest → List Frozen → List ℕ → List (List ℕ) → State
state_in work shared m files prefix messages =
    record (at_rest m (parts_at octets_in (front_of m) files) (record { front = prefix; messages = messages })) {
      next = work.next;
      job = job_in work.job;
      waiting = numbers_of work.waiting;
      shared = shared;
    }

-- the files that these entries name are frozen
abbrev pub AreFrozen : (ℕ → Marks) → List Entry → Type 0
AreFrozen marks entries = AllByRecursion (λ e. (marks e.file).frozen ≡ true) entries

-- while it is open
pub record IsOpen {D : Type 0} (honest : D → Bool) (marks : D → ℕ → Marks) (held : D → ℕ → Held) (disk : D)
    (slots : Slots) (active : Entry) (end total : ℕ) (carry : Carry) (s : State) : Type 0 where
  pub kept : IsKept honest marks held disk slots active end total s
  pub segment : IsSegment s.active carry
  pub hands_on : IsTrue (honest disk) → HandsOn s carry
  pub frozen : AreFrozen (marks disk) (front_of s.manifest)

-- and always
pub record IsArchive {D : Type 0} (honest : D → Bool) (marks : D → ℕ → Marks) (held : D → ℕ → Held) (disk : D)
    (slots : Slots) (active : Entry) (end total : ℕ) (carry : Carry) (files : List Frozen) (s : State) (closed : Bool)
    : Type 0 where
  pub counted : IsCounted s active end total
  pub files_are : AreHeldAs (honest disk) (front_of s.manifest) files
  pub stand : IsTrue (honest disk) → FrozenStand octets_in (front_of s.manifest) s.parts files
  pub still_open : closed ≡ false → IsOpen honest marks held disk slots active end total carry s

-- While it is open, the span that is kept is that of the starts of the active segment's flows.
abbrev pub IsNotedWhileOpen : Bool → Option PartSpan → List ℕ → List (List ℕ) → Carry → Type 0
IsNotedWhileOpen closed span prefix messages carry =
    closed ≡ false → IfSome span (λ s. AreNotedSoFar prefix messages carry.templates (Some s))

-- ---- a directory

-- the widths, and the active segment
pub record HasActive (s : State) (shelf : Shelf) : Type 0 where
  pub width : shelf.width ≡ s.manifest.width
  pub wide : shelf.wide ≡ s.manifest.wide
  pub prefix : shelf.prefix ≡ s.active.front
  pub active : shelf.active ≡ s.active.messages

-- ---- one call

-- what a stop may leave: the state before the event, or one after it
abbrev pub StandsBeforeOrAfter : State → (State → Type 0) → (ℕ → List ℕ) → Type 0
StandsBeforeOrAfter before After image =
    StandsFor image (reopened before) ⊎ ((after : State) × After after × StandsFor image (reopened after))

-- One step of an archive, by an event that makes of its state what has `After`. In a closed one nothing happens.
pub record IsStep {D T S X : Type 0} (g : Ghosts D S X) (old new : Seen D) (After : State → Type 0)
    (result : Result T ArchiveError) : Type 0 where
  pub honest_too : g.honest new.disk ≡ g.honest old.disk
  -- A stop at any moment since the event began leaves the state before it or the one after it.
  pub any_moment : IsTrue (g.honest old.disk) → old.closed ≡ false
      → LeavesOnly g old.disk new.disk (StandsBeforeOrAfter old.state After)
  -- At Ok it is the one after it.
  pub done : OnOk result ((IsTrue (g.honest old.disk) → After new.state) × (new.closed ≡ false) × (old.closed ≡ false))
  -- After a fault of the device the archive is closed, with the state before or the one after.
  pub fault : IsErrOf result Fault
      → ((new.state ≡ old.state) ⊎ After new.state) × (new.closed ≡ true) × (old.closed ≡ false)
  -- While it is open, each image represents its state.
  pub stands : IsTrue (g.honest new.disk) → new.closed ≡ false → (image : ℕ → List ℕ)
      → g.left_since new.disk (g.moment new.disk) image → StandsFor image (reopened new.state)
  -- Every other refusal leaves all as it was.
  pub refused : IfErr result (λ e. e ≢ Fault → new ≡ old)
