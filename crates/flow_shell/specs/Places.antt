-- The places for Files: what is asked of them, and what they are after it.
use Rattle.std.specs.Prelude.{◌≡◌, ◌≢◌, ◌<◌, ◌≤◌, ◌+◌, ℕ, min, List, Option, Some, None, slice_get, slice_set}
use Rattle.flow_feed.specs.declared.batch.Fed.{Fed as HowFar}
use Rattle.flow_shell.specs.declared.board.Place.{Place}
use Rattle.flow_shell.specs.declared.board.Place.TheVariants.{Free, Fed, Ended}
use Rattle.flow_shell.specs.declared.board.Places.{Places}

-- Each File that has ended did so as is said of it.
abbrev pub AreSaid : (ℕ → HowFar → Type 0) → List Place → Type 0
AreSaid said places =
    (k number : ℕ) (fed : HowFar) → slice_get places k ≡ Some (Ended number fed) → ∥ said number fed ∥₁

-- some File is fed
abbrev pub HasFed : List Place → Type 0
HasFed places = (k : ℕ) × (number : ℕ) × (slice_get places k ≡ Some (Fed number))

-- the number of the next File, where so many were asked for; from 2^64 - 1 on it's the same
abbrev pub next_number : ℕ → ℕ
next_number count = min (count + 1) 18446744073709551615

-- the first place that is free
abbrev pub IsFirstFree : List Place → ℕ → Type 0
IsFirstFree places at =
    (slice_get places at ≡ Some Free) × ((k : ℕ) → k < at → slice_get places k ≢ Some Free)

-- No place is free, and all is as it was; or the first free one is for the next File, of this number, and nothing
-- else changes.
abbrev pub Begins : Places → Option ℕ → Places → Type 0
Begins old None new = ((k : ℕ) → slice_get old.places k ≢ Some Free) × (new ≡ old)
Begins old (Some number) new = (number ≡ next_number old.count) × ((at : ℕ) × IsFirstFree old.places at
    × (new ≡ record old { places = slice_set old.places at (Fed number); count = number }))

-- each place that was `from` is `to`, and each other is as it was
pub record AreReplaced (from to : Place) (old new : List Place) : Type 0 where
  pub replaced : (k : ℕ) → slice_get old k ≡ Some from → slice_get new k ≡ Some to
  pub kept : (k : ℕ) → slice_get old k ≢ Some from → slice_get new k ≡ slice_get old k

-- the places are replaced so, and nothing else changes
abbrev pub Replaces : Place → Place → Places → Places → Type 0
Replaces from to old new =
    AreReplaced from to old.places new.places × (new ≡ record old { places = new.places })

-- a File of this number ended so, and none of a smaller one; of those of one number it's the last
pub record IsFirstEnded (places : List Place) (number : ℕ) (fed : HowFar) : Type 0 where
  pub at : ℕ
  pub ended : slice_get places at ≡ Some (Ended number fed)
  pub least : (k m : ℕ) (other : HowFar) → slice_get places k ≡ Some (Ended m other) → number ≤ m
  pub last : (k : ℕ) (other : HowFar) → slice_get places k ≡ Some (Ended number other) → k ≤ at

-- no File has ended, or it's this one
abbrev pub IsFirst : List Place → Option (ℕ × HowFar) → Type 0
IsFirst places None = (k m : ℕ) (fed : HowFar) → slice_get places k ≢ Some (Ended m fed)
IsFirst places (Some first) = IsFirstEnded places first.0 first.1

-- all is as it was, or the place of this File that has ended is free, and nothing else changes
abbrev pub Frees : Option (ℕ × HowFar) → Places → Places → Type 0
Frees None old new = new ≡ old
Frees (Some first) old new = Replaces (Ended first.0 first.1) Free old new
