-- Calls that change what a file holds, and what they make of each file.
use Rattle.std.specs.Prelude.{ℕ, ◌+◌, ◌≤◌, max, true, false, List, [], ◌∷◌, ◌++◌, length, take, if◌then◌else◌, ◌==◌}
use Rattle.flow_disk.specs.Disk.{Held, Marks, IsDiskImage, changed, settled_at, touched_at, loosened_at, given_up}
use Rattle.flow_disk.specs.Disk.{put_at}

-- a call that changed what a file holds: the file's number first; a write has its place and its octets
pub data Call : Type 0 where
  written : ℕ → ℕ → List ℕ → Call
  shortened : ℕ → ℕ → Call
  settled : ℕ → Call
  abandoned : ℕ → Call
  removed : ℕ → Call

abbrev pub file_of_call : Call → ℕ
file_of_call (written file at octets) = file
file_of_call (shortened file count) = file
file_of_call (settled file) = file
file_of_call (abandoned file) = file
file_of_call (removed file) = file

-- what a call makes of its file
abbrev pub made : Held → Call → Held
made file (written n at octets) = touched_at file at (length octets) (put_at file.reads at octets)
made file (shortened n count) = loosened_at file count (take count file.reads)
made file (settled n) = settled_at file.reads
made file (abandoned n) = given_up file file.reads
made file (removed n) = settled_at []

-- a file, by its number, after a call and after several
abbrev pub after : ℕ → Held → Call → Held
after n file call = if n == file_of_call call then made file call else file

abbrev pub replayed : ℕ → Held → List Call → Held
replayed n file [] = file
replayed n file (call ∷ calls) = replayed n (after n file call) calls

-- A disk's story from some moment on: what its files were settled as then, the calls since, and what it keeps of each
-- file now.
pub record Story : Type 0 where
  pub base : ℕ → List ℕ
  pub calls : List Call
  pub marks : ℕ → Marks

-- what the files hold now
abbrev pub held_of : Story → ℕ → Held
held_of story n = replayed n (settled_at (story.base n)) story.calls

-- what they held after the first k of the calls
abbrev pub held_at : Story → ℕ → ℕ → Held
held_at story k n = replayed n (settled_at (story.base n)) (take k story.calls)

-- an image of some moment since t
abbrev pub LeftSince : Story → ℕ → (ℕ → List ℕ) → Type 0
LeftSince story t image = (k : ℕ) × (t ≤ k) × (k ≤ length story.calls) × IsDiskImage (held_at story k) image

-- what is kept of a file after a call
abbrev pub marks_made : Marks → Call → Marks
marks_made marks (written n at octets) =
    record { size = max marks.size (at + length octets); settled = false; frozen = marks.frozen; listed = true }
marks_made marks (shortened n count) = record { size = count; settled = false; frozen = marks.frozen; listed = true }
marks_made marks (settled n) = record { size = marks.size; settled = true; frozen = marks.frozen; listed = true }
marks_made marks (abandoned n) =
    record { size = marks.size; settled = false; frozen = marks.frozen; listed = marks.listed }
marks_made marks (removed n) = record { size = 0; settled = true; frozen = false; listed = false }

-- the story with one call more
abbrev pub told : Story → Call → Story
told story call = record {
  base = story.base;
  calls = story.calls ++ call ∷ [];
  marks =
      changed story.marks (file_of_call call) (marks_made (story.marks (file_of_call call)) call);
}

-- the story with a file frozen: no call of the record
abbrev pub frozen_in : Story → ℕ → Story
frozen_in story file =
    record {
      base = story.base;
      calls = story.calls;
      marks =
          changed story.marks file (record {
            size = (story.marks file).size;
            settled = (story.marks file).settled;
            frozen =
                true;
            listed = (story.marks file).listed;
          });
    }
