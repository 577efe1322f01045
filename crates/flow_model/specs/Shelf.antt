-- What an archive's files hold, in order, as plain data.
use Rattle.std.specs.Prelude.{ℕ, ◌+◌, List, [], ◌++◌, length, sum_by}
use Rattle.std.specs.List.{flat_map}

-- a sealed segment: its prefix, and the messages after it
pub record Segment : Type 0 where
  pub file : ℕ
  pub prefix : List ℕ
  pub messages : List (List ℕ)

-- a file of sums (RFC 7015), and how many messages these are of
pub record Rollup : Type 0 where
  pub file : ℕ
  pub messages : ℕ
  pub octets : List ℕ

-- The files of an archive, in each list the oldest first: the sums over wide intervals, those over intervals of the
-- width, the sealed segments; and of the active segment its prefix and the messages that were added to it.
pub record Shelf : Type 0 where
  pub width : ℕ
  pub wide : ℕ
  pub merged : List Rollup
  pub rolled : List Rollup
  pub sealed : List Segment
  pub prefix : List ℕ
  pub active : List (List ℕ)

-- that of an archive without messages, whose prefix is empty
abbrev pub new_shelf : ℕ → ℕ → Shelf
new_shelf width wide = record {
  width = width;
  wide = wide;
  merged = [];
  rolled = [];
  sealed = [];
  prefix = [];
  active = [];
}

-- how many messages were rolled into these files
abbrev pub rollup_message_count : List Rollup → ℕ
rollup_message_count files = sum_by (λ r. r.messages) files

-- the messages of these segments, joined
abbrev pub messages_in : List Segment → List (List ℕ)
messages_in segments = flat_map (λ g. g.messages) segments

-- Messages have numbers from 1 on: the last one that is summed over wide intervals, the last one that is rolled at all,
-- those that are kept after it, and the last one.
abbrev pub second_of : Shelf → ℕ
second_of s = rollup_message_count s.merged

abbrev pub cut_of : Shelf → ℕ
cut_of s = second_of s + rollup_message_count s.rolled

abbrev pub kept_of : Shelf → List (List ℕ)
kept_of s = messages_in s.sealed ++ s.active

abbrev pub position_of : Shelf → ℕ
position_of s = cut_of s + length (kept_of s)
