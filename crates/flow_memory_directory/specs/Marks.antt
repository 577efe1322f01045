-- How far the parts of a file are from the device.
use Rattle.std.specs.Prelude.{◌≡◌, ℕ, ◌+◌, ◌<◌, ◌≤◌, max, nat_le, Bool, true, false, ◌||◌, List, length}
use Rattle.std.specs.Prelude.{get_or, if◌then◌else◌}
use Rattle.flow_memory_directory.specs.declared.mark.Mark.{Mark}
use Rattle.flow_memory_directory.specs.declared.mark.Mark.TheVariants.{Clean, Dirty, Lost}

abbrev pub is_dirty : Mark → Bool
is_dirty Clean = false
is_dirty Dirty = true
is_dirty Lost = false

abbrev pub is_lost : Mark → Bool
is_lost Clean = false
is_lost Dirty = false
is_lost Lost = true

-- after a good sync
abbrev pub after_sync : Mark → Mark
after_sync Clean = Clean
after_sync Dirty = Clean
after_sync Lost = Lost

-- after a failed one
abbrev pub after_failure : Mark → Mark
after_failure Clean = Clean
after_failure Dirty = Lost
after_failure Lost = Lost

-- the mark of an octet
abbrev pub mark_at : List Mark → ℕ → Mark
mark_at marks place = get_or marks place Clean

-- the marks after a write of so many octets at a place
pub record IsMarked (was : List Mark) (at count : ℕ) (now : List Mark) : Type 0 where
  pub long : length now ≡ max (length was) (at + count)
  pub inside : (place : ℕ) → at ≤ place → place < at + count → mark_at now place ≡ Dirty
  pub before : (place : ℕ) → place < at → mark_at now place ≡ mark_at was place
  pub behind : (place : ℕ) → at + count ≤ place → mark_at now place ≡ mark_at was place

-- nothing is dirty or lost
pub record IsQuiet (marks : List Mark) (size : Mark) : Type 0 where
  pub octets : (place : ℕ) → mark_at marks place ≡ Clean
  pub size_is : size ≡ Clean

-- The device's file has each octet that is clean, and where the size is clean it is as long.
pub record IsKept (octets : List ℕ) (marks : List Mark) (size : Mark) (blocks : List ℕ) (end : ℕ) : Type 0 where
  pub within : (place : ℕ) → place < length octets → mark_at marks place ≡ Clean → place < length blocks
  pub same : (place : ℕ) → place < length octets → mark_at marks place ≡ Clean
      → get_or blocks place 0 ≡ get_or octets place 0
  pub end_is : size ≡ Clean → end ≡ length octets

-- what is at a place after what is not lost was written over what there was
abbrev pub block_at : List ℕ → List Mark → List ℕ → ℕ → ℕ
block_at octets marks blocks place =
    if (nat_le (length octets) place || is_lost (mark_at marks place)) then get_or blocks place 0 else get_or octets place 0
