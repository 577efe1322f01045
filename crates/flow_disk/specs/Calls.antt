-- What a call makes of a disk, by all that a disk keeps (`D.Disk` in a clause).
use Rattle.std.specs.Prelude.{◌≡◌, ◌≢◌, ◌⊎◌, ℕ, ◌≤◌, true, false, IsTrue, List, Result, OnOk}
use Rattle.flow_disk.specs.declared.disk.Disk.{Ghosts}
use Rattle.flow_disk.specs.declared.error.DiskError.{DiskError}
use Rattle.flow_disk.specs.Cause.{FailsOnlyByFault}
use Rattle.flow_disk.specs.Disk.{AllImages, ComesOf, Stays}

-- A stop at any moment since `old` leaves only images that have P.
pub record LeavesOnly {D S X : Type 0} (g : Ghosts D S X) (old new : D) (P : (ℕ → List ℕ) → Type 0) : Type 0 where
  pub later : g.moment old ≤ g.moment new
  pub each : (image : ℕ → List ℕ) → g.left_since new (g.moment old) image → P image
  -- for a run that began earlier
  pub before : (t : ℕ) (image : ℕ → List ℕ) → t ≤ g.moment old → g.left_since new t image
      → g.left_since old t image ⊎ P image

-- On an honest disk a stop at any moment of the call leaves what this step makes of an image from before.
abbrev pub StopsBy : {D S X : Type 0} → Ghosts D S X → D → D → ((ℕ → List ℕ) → (ℕ → List ℕ) → Type 0) → Type 0
StopsBy g old new step = IsTrue (g.honest old) → LeavesOnly g old new (ComesOf (g.held old) step)

-- On an honest disk a call that is Ok leaves what this step makes of an image from before.
abbrev pub EndsBy : {D S X T E : Type 0} → Ghosts D S X → D → D → Result T E
    → ((ℕ → List ℕ) → (ℕ → List ℕ) → Type 0) → Type 0
EndsBy g old new result step =
    IsTrue (g.honest old) → OnOk result (AllImages (g.held new) (ComesOf (g.held old) step))

-- A call that changes one file at most, and is refused exactly where the device failed.
pub record ChangesFile {D S X T : Type 0} (g : Ghosts D S X) (old new : D) (file : ℕ)
    (result : Result T DiskError) : Type 0 where
  pub honest : g.honest new ≡ g.honest old
  pub clock : g.moment old ≤ g.moment new
  pub other_marks : (n : ℕ) → n ≢ file → g.marks new n ≡ g.marks old n
  pub other_files : IsTrue (g.honest old) → (n : ℕ) → n ≢ file → g.held new n ≡ g.held old n
  pub thawed : (g.marks new file).frozen ≡ false
  pub cause : FailsOnlyByFault (g.faults old) (g.faults new) result

-- The same, and where it is Ok the file is settled and listed, and has so many octets.
pub record SettlesFile {D S X T : Type 0} (g : Ghosts D S X) (old new : D) (file count : ℕ)
    (result : Result T DiskError) : Type 0 where
  pub honest : g.honest new ≡ g.honest old
  pub clock : g.moment old ≤ g.moment new
  pub other_marks : (n : ℕ) → n ≢ file → g.marks new n ≡ g.marks old n
  pub other_files : IsTrue (g.honest old) → (n : ℕ) → n ≢ file → g.held new n ≡ g.held old n
  pub thawed : (g.marks new file).frozen ≡ false
  pub settled : OnOk result ((g.marks new file).settled ≡ true)
  pub listed : OnOk result ((g.marks new file).listed ≡ true)
  pub size : OnOk result ((g.marks new file).size ≡ count)
  pub cause : FailsOnlyByFault (g.faults old) (g.faults new) result

-- A call that reads one file: all is as it was, but that the file's length may be known now.
pub record OnlyReads {D S X : Type 0} (g : Ghosts D S X) (old new : D) (file : ℕ) : Type 0 where
  pub honest : g.honest new ≡ g.honest old
  pub clock : g.moment old ≤ g.moment new
  pub other_marks : (n : ℕ) → n ≢ file → g.marks new n ≡ g.marks old n
  pub settled : (g.marks new file).settled ≡ (g.marks old file).settled
  pub frozen : (g.marks new file).frozen ≡ (g.marks old file).frozen
  pub listed : (g.marks new file).listed ≡ (g.marks old file).listed
  pub held : IsTrue (g.honest old) → Stays (g.held old) (g.held new)
