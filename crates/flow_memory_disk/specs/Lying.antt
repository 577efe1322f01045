-- What a dishonest disk promises of images: nothing; and the lengths that a disk that lies answers.
use Rattle.std.specs.Prelude.{◌≡◌, ℕ, ◌-◌, ◌≤◌, ◌^◌, ◌==◌, min, Bool, true, false, IsTrue, Option, Some, None}
use Rattle.std.specs.Prelude.{if◌then◌else◌}
use Rattle.std.proofs.Common.{refl}
use Rattle.std.proofs.lemmas.Bool.{false≢true}
use Rattle.flow_disk.specs.Disk.{Marks}
use Rattle.flow_memory_disk.specs.declared.lie.Lie.{Lie}

pub never : {A : Type 0} → IsTrue false → A
never is = absurd (false≢true is)

-- the length that is answered of a file, if that is a lie
abbrev pub told_of : Lie → ℕ → Option ℕ
told_of lie file = if lie.file == file then lie.told else None

-- a file's marks with the length that is answered of it, where that is a lie
abbrev pub resized : Option ℕ → Marks → Marks
resized None marks = marks
resized (Some count) marks =
    record { size = count; settled = marks.settled; frozen = marks.frozen; listed = marks.listed }

-- the marks of the files with the lengths that are answered
abbrev pub told : Lie → (ℕ → Marks) → ℕ → Marks
told lie marks file = resized (told_of lie file) (marks file)

-- how many of so many octets, from a place on, a file of this size has
abbrev pub there : ℕ → ℕ → ℕ → ℕ
there size at count = min count (size - min at size)

-- no length is answered past the limit
told_within : (b : Bool) (said : Option ℕ) (m : Marks) → ((count : ℕ) → said ≡ Some count → count ≤ 2 ^ 62)
    → m.size ≤ 2 ^ 62 → (resized (if b then said else None) m).size ≤ 2 ^ 62
told_within true (Some count) m within below = within count refl
told_within true None m within below = below
told_within false said m within below = below

pub limited : (lie : Lie) (m : Marks) (n : ℕ) → m.size ≤ 2 ^ 62 → (resized (told_of lie n) m).size ≤ 2 ^ 62
limited lie m n below = told_within (lie.file == n) lie.told m lie.within below
