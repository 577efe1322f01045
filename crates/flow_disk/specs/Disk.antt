-- What a disk holds, and what a stop may leave of it.
use Rattle.std.specs.Prelude.{◌≡◌, ◌≢◌, ◌⊎◌, ℕ, ◌+◌, ◌<◌, ◌≤◌, min, Bool, true, false, ◌||◌, nat_lt, List, [], ◌∷◌}
use Rattle.std.specs.Prelude.{◌++◌, length, take, drop, get_or, ◌==◌, if◌then◌else◌}

-- The octets that a file reads as, and what a stop may leave of it. `last` are its octets when it was last settled.
-- Below `fast`, places outside the ranges in `touched` hold these octets whatever happens. With `loose` its end may be
-- anywhere from `fast` on.
pub record Held : Type 0 where
  pub reads : List ℕ
  pub last : List ℕ
  pub fast : ℕ
  pub touched : List (ℕ × ℕ)
  pub loose : Bool

-- what every disk keeps of a file, honest or not
pub record Marks : Type 0 where
  pub size : ℕ
  pub settled : Bool
  pub frozen : Bool
  pub listed : Bool

-- the place lies in none of these ranges, each a first place and a count
abbrev pub IsOutside : List (ℕ × ℕ) → ℕ → Type 0
IsOutside [] place = Unit {0}
IsOutside (range ∷ ranges) place = ((place < range.0) ⊎ (range.0 + range.1 ≤ place)) × IsOutside ranges place

-- octets that a stop may leave of a file
pub record IsImage (file : Held) (octets : List ℕ) : Type 0 where
  pub long : file.fast ≤ length octets
  pub end : file.loose ≡ false → length octets ≡ file.fast
  pub same : (place : ℕ) → place < file.fast → IsOutside file.touched place
      → get_or octets place 0 ≡ get_or file.last place 0

-- what a stop may leave of the whole disk: an image of each file
abbrev pub IsDiskImage : (ℕ → Held) → (ℕ → List ℕ) → Type 0
IsDiskImage files image = (n : ℕ) → IsImage (files n) (image n)

-- a settled file has one image
abbrev pub settled_at : List ℕ → Held
settled_at octets = record { reads = octets; last = octets; fast = length octets; touched = []; loose = false }

-- after a write of `count` octets at a place that a stop may still undo or cut short
abbrev pub touched_at : Held → ℕ → ℕ → List ℕ → Held
touched_at file at count reads =
    record {
      reads = reads;
      last = file.last;
      fast = file.fast;
      touched = (at, count) ∷ file.touched;
      loose =
          file.loose || nat_lt file.fast (at + count);
    }

-- after a cut that a stop may still undo
abbrev pub loosened_at : Held → ℕ → List ℕ → Held
loosened_at file count reads = record {
  reads = reads;
  last = file.last;
  fast = min file.fast count;
  touched =
      file.touched;
  loose = true;
}

-- while a removal runs: anything
abbrev pub given_up : Held → List ℕ → Held
given_up file reads = record { reads = reads; last = file.last; fast = 0; touched = file.touched; loose = true }

-- these octets put at a place, over those there and past the end
abbrev pub put_at : List ℕ → ℕ → List ℕ → List ℕ
put_at old at octets = take at old ++ octets ++ drop (at + length octets) old

-- the files with one replaced by this
abbrev pub changed : {F : Type 0} → (ℕ → F) → ℕ → F → ℕ → F
changed files file to n = if n == file then to else files n

-- one file alone differs, and is now this
pub record Changes {F : Type 0} (old new : ℕ → F) (file : ℕ) (to : F) : Type 0 where
  pub here : new file ≡ to
  pub others : (n : ℕ) → n ≢ file → new n ≡ old n

-- each image of the one file is one of the other
abbrev pub IsWithin : Held → Held → Type 0
IsWithin file other = (octets : List ℕ) → IsImage file octets → IsImage other octets

-- nothing differs
abbrev pub Stays : {F : Type 0} → (ℕ → F) → (ℕ → F) → Type 0
Stays {F} old new = (n : ℕ) → new n ≡ old n

-- each image has P
abbrev pub AllImages : (ℕ → Held) → ((ℕ → List ℕ) → Type 0) → Type 0
AllImages files P = (image : ℕ → List ℕ) → IsDiskImage files image → P image

-- what a step makes of some image of these files
abbrev pub ComesOf : (ℕ → Held) → ((ℕ → List ℕ) → (ℕ → List ℕ) → Type 0) → (ℕ → List ℕ) → Type 0
ComesOf files step image = (before : ℕ → List ℕ) × IsDiskImage files before × step before image

-- a step that changes one file alone, and that file by Q
pub record InFile (file : ℕ) (Q : List ℕ → List ℕ → Type 0) (before after : ℕ → List ℕ) : Type 0 where
  pub others : (n : ℕ) → n ≢ file → after n ≡ before n
  pub here : Q (before file) (after file)
