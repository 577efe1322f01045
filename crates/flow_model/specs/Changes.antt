-- The steps of an archive, on its shelf and on its history.
use Rattle.std.specs.Prelude.{◌≡◌, ℕ, ◌+◌, ◌<◌, ◌≤◌, List, [], ◌∷◌, ◌++◌, length, map, take, drop}
use Rattle.flow_measure.specs.History.{Accepted, AreAcceptedFrom, History, flows_in, read_from, templates_from}
use Rattle.flow_measure.specs.History.{templates_of}
use Rattle.flow_measure.specs.Sums.{Table, table_of, widened}
use Rattle.flow_measure.specs.View.{View, gathered_all}
use Rattle.flow_rolled.specs.Rollup.{IsRollup}
use Rattle.flow_segment.specs.Carry.{carry_of, octets_of, prefix_of}
use Rattle.flow_segment.specs.Prefix.{AreRead}
use Rattle.flow_model.specs.Shelf.{Rollup, Segment, Shelf, messages_in, rollup_message_count}

pub data Change : Type 0 where
  -- messages, added to the active segment
  added : List (List ℕ) → Change
  -- the active segment, sealed, and the prefix of the next one
  sealed : Segment → List ℕ → Change
  -- a rolled file, for so many of the oldest sealed segments
  installed : Rollup → ℕ → Change
  -- a file over wide intervals, for so many of the oldest rolled files
  merged : Rollup → ℕ → Change

abbrev pub applied : Shelf → Change → Shelf
applied s (added messages) = record s { active = s.active ++ messages }
applied s (sealed segment next) =
    record s { sealed = s.sealed ++ segment ∷ []; prefix = next; active = [] }
applied s (installed file k) = record s { rolled = s.rolled ++ file ∷ []; sealed = drop k s.sealed }
applied s (merged file k) = record s { merged = s.merged ++ file ∷ []; rolled = drop k s.rolled }

-- Added messages are read after all others. A seal leaves a history as it is; an install raises the cut by the messages
-- that were rolled, a merge the second cut.
abbrev pub history_after : History → Change → History
history_after h (added messages) = record h { all = h.all ++ read_from (templates_of h.all) messages }
history_after h (sealed segment next) = h
history_after h (installed file k) = record h { cut = h.cut + file.messages }
history_after h (merged file k) = record h { second = h.second + file.messages }

abbrev pub new_history : ℕ → ℕ → History
new_history width wide = record { all = []; second = 0; cut = 0; width = width; wide = wide }

-- the messages of each rolled entry
abbrev pub counts_of : Shelf → List ℕ
counts_of s = map (λ r. r.messages) s.rolled

-- ---- what a change asks

-- The prefix that a segment determines for the next one: it restates the carry that the segment's prefix and its
-- messages, each accepted after those before it, pass on.
pub record CallsFor (segment : Segment) (next : List ℕ) : Type 0 where
  pub restated : List Accepted
  pub own : List Accepted
  pub read : AreRead segment.prefix [] restated []
  pub octets : octets_of own ≡ segment.messages
  pub accepted : AreAcceptedFrom (templates_from [] restated) own
  pub is : next ≡ prefix_of (carry_of (restated ++ own))

-- the sums of the oldest rolled files, over wide intervals
abbrev pub merged_table : Shelf → View → ℕ → Table
merged_table s v k = widened s.wide (record { width = s.width; sums = gathered_all (take k v.rolled) })

-- Where a change may be made, on a shelf that has this view: messages are accepted after all others; a seal is of the
-- active segment, which has messages, and is followed by the prefix that it determines; the rolled file has the sums by
-- the width of the flows of the oldest segments' messages; a merge has those of the oldest rolled files, widened.
abbrev pub Allows : Shelf → View → Change → Type 0
Allows s v (added messages) =
    (more : List Accepted) × (octets_of more ≡ messages) × AreAcceptedFrom (templates_from v.templates v.kept) more
Allows s v (sealed segment next) =
    (segment.prefix ≡ s.prefix) × (segment.messages ≡ s.active) × (0 < length segment.messages) × CallsFor segment next
Allows s v (installed file k) =
    (k ≤ length s.sealed) × (file.messages ≡ length (messages_in (take k s.sealed)))
    × IsRollup s.width file.octets (table_of s.width (flows_in (take file.messages v.kept)))
Allows s v (merged file k) =
    (k ≤ length s.rolled) × (file.messages ≡ rollup_message_count (take k s.rolled))
    × IsRollup s.wide file.octets (merged_table s v k)
