-- What a stop may leave, by the calls so far.
use Rattle.std.specs.Prelude.{◌≡◌, ◌⊎◌, ℕ, ◌<◌, ◌≤◌, min, false, List, [], ◌∷◌, length, get_or, if◌then◌else◌, ◌==◌}
use Rattle.flow_disk.specs.Disk.{Held, IsImage, settled_at, touched_at, loosened_at, given_up}
use Rattle.flow_memory_directory.specs.declared.deed.Deed.{Deed}
use Rattle.flow_memory_directory.specs.declared.deed.Deed.TheVariants.{Wrote, Cut, Settled, Unlinked}

-- the file that a call changed
abbrev pub file_of : Deed → ℕ
file_of (Wrote file at count) = file
file_of (Cut file count) = file
file_of (Settled file octets) = file
file_of (Unlinked file) = file

-- what it made of what a stop may leave of the file
abbrev pub made : Held → Deed → Held
made held (Wrote file at count) = touched_at held at count held.reads
made held (Cut file count) = loosened_at held count held.reads
made held (Settled file octets) = settled_at octets.items
made held (Unlinked file) = given_up held held.reads

-- What a stop may leave of a file after these calls, the last one first; at first no file has octets. What it reads as
-- is kept elsewhere.
abbrev pub bound : List Deed → ℕ → Held
bound [] n = settled_at []
bound (deed ∷ deeds) n = if n == file_of deed then made (bound deeds n) deed else bound deeds n

-- the same, of a file that reads as this now
abbrev pub reading : Held → List ℕ → Held
reading held octets = record {
  reads = octets;
  last = held.last;
  fast = held.fast;
  touched = held.touched;
  loose = held.loose;
}

-- an image of some moment since t
abbrev pub LeftSince : List Deed → ℕ → (ℕ → List ℕ) → Type 0
LeftSince [] t image = (n : ℕ) → IsImage (bound [] n) (image n)
LeftSince (deed ∷ deeds) t image =
    ((n : ℕ) → IsImage (bound (deed ∷ deeds) n) (image n)) ⊎ ((t ≤ length deeds) × LeftSince deeds t image)

-- what the system's memory has of a file, and what the device has, are among what a stop may leave
pub record IsSound (held : Held) (octets device : List ℕ) : Type 0 where
  pub memory : IsImage held octets
  pub left : IsImage held device
  pub within : held.fast ≤ length held.last
  pub whole : held.loose ≡ false → length held.last ≡ held.fast

-- Octets made of two lists: where these agree they agree with both, and they end at neither's shorter end or beyond.
pub record IsBetween (first second octets : List ℕ) : Type 0 where
  pub long : min (length first) (length second) ≤ length octets
  pub end : length first ≡ length second → length octets ≡ length second
  pub same : (place : ℕ) → place < length first → place < length second
      → get_or first place 0 ≡ get_or second place 0 → get_or octets place 0 ≡ get_or second place 0
