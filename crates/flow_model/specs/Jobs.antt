-- What a job makes of an archive: one file of sums in place of its oldest segments, or of its oldest rolled files.
use Rattle.std.specs.Prelude.{◌≡◌, ℕ, ◌+◌, ◌≤◌, List, [], ◌∷◌, ◌++◌, length, map, take, drop, None}
use Rattle.std.specs.FinMap.{FinMap}
use Rattle.flow_manifest.specs.declared.following.JobKind.{JobKind}
use Rattle.flow_manifest.specs.declared.following.JobKind.TheVariants.{Roll, Merge}
use Rattle.flow_manifest.specs.declared.following.Staged.{Staged}
use Rattle.flow_manifest.specs.declared.manifest.Entry.{Entry}
use Rattle.flow_manifest.specs.declared.manifest.Manifest.{Manifest}
use Rattle.flow_manifest.specs.Following.{count_before, installed_manifest, source_of, sources_of}
use Rattle.flow_measure.specs.History.{Accepted, History, flows_in}
use Rattle.flow_measure.specs.declared.rows.Sums.{Sums}
use Rattle.flow_measure.specs.Sums.{Table, key_cmp, table_of, widened}
use Rattle.flow_measure.specs.View.{gathered_all}
use Rattle.flow_rolled.specs.Rollup.{IsRollup}
use Rattle.flow_segment.specs.Carry.{Carry}
use Rattle.flow_model.specs.Chain.{IsSegment}
use Rattle.flow_model.specs.State.{Part, StagedFile, State}

-- the width of its intervals: a roll's are narrow, a merge's wide
abbrev pub width_made : JobKind → Manifest → ℕ
width_made Roll m = m.width
width_made Merge m = m.wide

-- ---- on the state

-- the number and the length of the file that it has made
abbrev pub staged_of : StagedFile → Staged
staged_of file = record { file = file.file; length = length file.octets }

-- The file that it has made begins with its octets.
pub record IsStagedAt (octets : List ℕ) (file : StagedFile) : Type 0 where
  pub long : length file.octets ≤ length octets
  pub front : take (length file.octets) octets ≡ file.octets

-- a part in place of so many, the oldest of their kind
abbrev pub replaced_parts : JobKind → ℕ → List ℕ → List Entry → List Part → List Part
replaced_parts kind count octets entries parts =
    take (count_before (source_of kind) entries) parts ++
    record { front = octets; messages = [] } ∷ drop (count_before (source_of kind) entries + count) parts

-- The file that was made takes the place of its sources, and these wait for their removal.
abbrev pub replaced : State → JobKind → ℕ → StagedFile → State
replaced s kind count file = record s {
  manifest = installed_manifest s.manifest kind count (staged_of file) s.next;
  parts = replaced_parts kind count file.octets s.manifest.entries s.parts;
  job = None;
  waiting = s.waiting ++ map (λ e. e.file) (sources_of kind count s.manifest.entries);
}

-- ---- on the history

-- how many messages are before those of its sources
abbrev pub cut_before : JobKind → History → ℕ
cut_before Roll h = h.cut
cut_before Merge h = h.second

-- the messages of its sources, so many
abbrev pub source_messages : JobKind → ℕ → History → List Accepted
source_messages kind count h = take count (drop (cut_before kind h) h.all)

-- the sums that it makes of them
abbrev pub table_made : JobKind → Manifest → ℕ → History → Table
table_made kind m count h = table_of (width_made kind m) (flows_in (source_messages kind count h))

-- a roll of so many messages raises the cut, a merge the second cut
abbrev pub history_made : JobKind → ℕ → History → History
history_made Roll count h = record h { cut = h.cut + count }
history_made Merge count h = record h { second = h.second + count }

-- ---- what it sums

-- the messages of these segments in order, those of each accepted after what its own prefix restates
abbrev pub AreRolledMessages : List Part → List Accepted → Type 0
AreRolledMessages [] messages = messages ≡ []
AreRolledMessages (part ∷ parts) messages =
    (carry : Carry) × (segment : IsSegment part carry) × (others : List Accepted) × AreRolledMessages parts others
    × (messages ≡ segment.messages ++ others)

-- the sums by this width of these rolled files, in order
abbrev pub AreRolledSums : ℕ → List Part → List (FinMap key_cmp Sums) → Type 0
AreRolledSums width [] maps = maps ≡ []
AreRolledSums width (part ∷ parts) maps =
    (sums : FinMap key_cmp Sums) × (others : List (FinMap key_cmp Sums))
    × IsRollup width part.front (record { width = width; sums = sums }) × AreRolledSums width parts others
    × (maps ≡ sums ∷ others)

-- What a job makes of these parts: a roll the sums by the width of the flows of their messages, a merge their sums over
-- wide intervals.
abbrev pub IsJobSum : JobKind → Manifest → List Part → Table → Type 0
IsJobSum Roll m parts table =
    (messages : List Accepted) × AreRolledMessages parts messages × (table ≡ table_of m.width (flows_in messages))
IsJobSum Merge m parts table =
    (maps : List (FinMap key_cmp Sums)) × AreRolledSums m.width parts maps
    × (table ≡ widened m.wide (record { width = m.width; sums = gathered_all maps }))

-- what it makes of one part
abbrev pub IsSourceSum : JobKind → Manifest → Part → Table → Type 0
IsSourceSum Roll m part table =
    (carry : Carry) × (segment : IsSegment part carry) × (table ≡ table_of m.width (flows_in segment.messages))
IsSourceSum Merge m part table = (narrow : Table) × IsRollup m.width part.front narrow × (table ≡ widened m.wide narrow)

-- the parts of its sources, so many, the oldest of their kind
abbrev pub source_parts : JobKind → ℕ → State → List Part
source_parts kind count s = take count (drop (count_before (source_of kind) s.manifest.entries) s.parts)
