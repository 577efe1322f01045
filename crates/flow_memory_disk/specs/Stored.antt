-- What the fields of a stored file say.
use Rattle.std.specs.Prelude.{◌≡◌, ◌≢◌, ◌+◌, ◌<◌, get_or, ℕ, Bool, true, false, List, [], ◌∷◌, length, reverse}
use Rattle.std.specs.Prelude.{if◌then◌else◌, ◌==◌}
use Rattle.flow_disk.specs.Disk.{Held, Marks}
use Rattle.flow_memory_disk.specs.declared.stored.StoredFile.{StoredFile}

-- what it reads as and what a stop may leave of it
abbrev pub held_in : StoredFile → Held
held_in file = record {
  reads = file.octets.items;
  last = file.last.items;
  fast = file.fast;
  touched =
      reverse file.touched.items;
  loose = file.loose;
}

-- what it read as when the record began
abbrev pub first_in : StoredFile → List ℕ
first_in file = file.first.items

abbrev pub marks_in : StoredFile → Marks
marks_in file = record {
  size = length file.octets.items;
  settled = file.settled;
  frozen = file.frozen;
  listed =
      file.listed;
}

-- how many octets it may have, and how many writes between two syncs
abbrev pub room_in : StoredFile → ℕ × ℕ
room_in file = (file.room, file.writes)

-- what a view gives of the file of this number, and of a file that has none
abbrev pub looked : {A : Type 0} → (StoredFile → A) → A → List StoredFile → ℕ → A
looked view none [] n = none
looked view none (file ∷ files) n = if file.number == n then view file else looked view none files n

-- what is kept of a file never written
abbrev pub unwritten : Marks
unwritten = record { size = 0; settled = true; frozen = false; listed = false }

-- whether some call has named this file
abbrev pub is_named : List StoredFile → ℕ → Bool
is_named files n = looked (λ file. true) false files n

-- the files once one was named, if it was not yet
pub record IsNamedAfter (old new : List StoredFile) (n : ℕ) : Type 0 where
  pub here : is_named new n ≡ true
  pub others : (m : ℕ) → m ≢ n → is_named new m ≡ is_named old m
  pub count : length new ≡ (if is_named old n then length old else (length old + 1))

-- the files that were named are the same
pub record AreNamedAlike (old new : List StoredFile) : Type 0 where
  pub each : (n : ℕ) → is_named new n ≡ is_named old n
  pub count : length new ≡ length old

-- i is the place of the first file of this number
pub record IsPlace (files : List StoredFile) (n i : ℕ) : Type 0 where
  pub within : i < length files
  pub here : (d : StoredFile) → ((get_or files i d).number == n) ≡ true
  pub before : (k : ℕ) (d : StoredFile) → k < i → ((get_or files k d).number == n) ≡ false
