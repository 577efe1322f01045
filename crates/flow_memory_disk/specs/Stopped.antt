-- What a stop leaves of a file, by a choice among its images.
use Rattle.std.specs.Prelude.{ℕ, ◌+◌, Bool, true, false, ◌&&◌, ◌||◌, nat_lt, nat_le, List, [], ◌∷◌, ◌++◌, length, take}
use Rattle.std.specs.Prelude.{get_or, if◌then◌else◌, ◌==◌}
use Rattle.flow_disk.specs.Disk.{Held}
use Rattle.flow_memory_disk.specs.declared.choice.Choice.{Choice}
use Rattle.flow_memory_disk.specs.declared.choice.Choice.TheVariants.{Kept, Settled, Filled, Longer}
use Rattle.flow_memory_disk.specs.Calls.{Story, held_of}

-- the place lies in none of these ranges, each a first place and a count
abbrev pub outside : List (ℕ × ℕ) → ℕ → Bool
outside [] place = true
outside (range ∷ ranges) place = (nat_lt place range.0 || nat_le (range.0 + range.1) place) && outside ranges place

-- a stop can't change the octet at this place
abbrev pub is_settled : ℕ → List (ℕ × ℕ) → ℕ → Bool
is_settled fast touched place = nat_lt place fast && outside touched place

-- the next of some octets after so many of them were used, and over again at their end
abbrev pub next : List ℕ → ℕ → ℕ
next octets used = if (used + 1) == length octets then 0 else (used + 1)

-- From this place on, these octets with others in turn where a stop can change them.
abbrev pub filled : ℕ → List (ℕ × ℕ) → List ℕ → ℕ → ℕ → List ℕ → List ℕ
filled fast touched octets place used [] = []
filled fast touched octets place used (x ∷ xs) =
    if is_settled fast touched place then x ∷ filled fast touched octets (place + 1) used xs
    else get_or octets used 0 ∷ filled fast touched octets (place + 1) (next octets used) xs

-- what a stop leaves of a file
abbrev pub image_of : Choice → Held → List ℕ
image_of Kept file = file.reads
image_of Settled file = file.last
image_of (Filled octets) file = filled file.fast file.touched octets.now 0 0 file.reads
image_of (Longer octets) file = if file.loose then take file.fast file.last ++ octets.now else file.last

-- the story that begins after a stop: of each file this image, settled; nothing is frozen
abbrev pub stopped : Story → Choice → Story
stopped story choice = record {
  base = λ n. image_of choice (held_of story n);
  calls = [];
  marks = λ n. record {
    size = length (image_of choice (held_of story n));
    settled = true;
    frozen = false;
    listed =
        (story.marks n).listed;
  };
}
