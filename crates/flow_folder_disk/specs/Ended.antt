-- What an end leaves as it was.
use Rattle.std.specs.Prelude.{◌⊎◌, ℕ, ◌+◌, ◌≤◌, Bool, ◌&&◌, not, List}
use Rattle.std.specs.List.{count_by}
use Rattle.flow_disk.specs.Disk.{Marks}
use Rattle.flow_directory.specs.File.{File}

-- a file that was reported as settled, and isn't read-only: a later value writes it again
abbrev pub is_left : Marks → File → Bool
is_left marks file = marks.settled && (file.linked && not file.read_only)

-- how many of these files are so
abbrev pub left_of : (ℕ → Marks) → (ℕ → File) → List ℕ → ℕ
left_of marks files list = count_by (λ n. is_left (marks n) (files n)) list

-- a count of failures went up by at least so many, or is at its last value
abbrev pub HasRisenBy : ℕ → ℕ → ℕ → Type 0
HasRisenBy count before now = (before + count ≤ now) ⊎ (18446744073709551615 ≤ now)
