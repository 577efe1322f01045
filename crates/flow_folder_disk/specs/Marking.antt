-- The marks of a disk, whether its system keeps the rules or not.
use Rattle.std.specs.Prelude.{◌≡◌, ℕ, ◌≤◌, Bool, true, false, IsTrue, length, if◌then◌else◌}
use Rattle.std.proofs.Common.{refl}
use Rattle.std.proofs.lemmas.Bool.{false≢true}
use Rattle.flow_disk.specs.Disk.{Marks}
use Rattle.flow_directory.specs.File.{File}
use Rattle.flow_folder_disk.specs.Table.{marks_by}

-- the clock of a system that keeps no rules is 0
abbrev pub moment_by : Bool → ℕ → ℕ
moment_by honest moment = if honest then moment else 0

pub settled_of : (honest : Bool) (m : Marks) (f : File) → (marks_by honest m f).settled ≡ true → m.settled ≡ true
settled_of true m f is = is
settled_of false m f is = is

pub frozen_of : (honest : Bool) (m : Marks) (f : File) → (marks_by honest m f).frozen ≡ m.frozen
frozen_of true m f = refl
frozen_of false m f = refl

pub size_of : (honest : Bool) (m : Marks) (f : File) → IsTrue honest → (marks_by honest m f).size ≡ length f.held.reads
size_of true m f is = refl
size_of false m f is = absurd (false≢true is)

pub limit_of : (honest : Bool) (m : Marks) (f : File) (limit : ℕ) → (IsTrue honest → length f.held.reads ≤ limit)
    → m.size ≤ limit → (marks_by honest m f).size ≤ limit
limit_of true m f limit kept reported = kept refl
limit_of false m f limit kept reported = reported

pub moment_of : (honest : Bool) (t moment : ℕ) → IsTrue honest → t ≤ moment_by honest moment → t ≤ moment
moment_of true t moment is le = le
moment_of false t moment is le = absurd (false≢true is)

pub at_moment : (honest : Bool) (moment : ℕ) (P : ℕ → Type 0) → IsTrue honest → P (moment_by honest moment) → P moment
at_moment true moment P is holds = holds
at_moment false moment P is holds = absurd (false≢true is)
