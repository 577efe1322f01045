-- What the octets of an archive's files are: sums, and a chain of segments of accepted messages.
use Rattle.std.specs.Prelude.{◌≡◌, ℕ, ◌<◌, ◌^◌, List, [], ◌∷◌, ◌++◌, Option, Some, None}
use Rattle.flow_manifest.specs.declared.manifest.Kind.{Kind}
use Rattle.flow_manifest.specs.declared.manifest.Kind.TheVariants.{Wide, Rolled, Sealed, Active}
use Rattle.flow_manifest.specs.declared.manifest.Entry.{Entry}
use Rattle.flow_manifest.specs.declared.manifest.Manifest.{Manifest}
use Rattle.flow_manifest.specs.Following.{front_of}
use Rattle.flow_measure.specs.History.{Accepted, AreAcceptedFrom, templates_from}
use Rattle.flow_measure.specs.Sums.{Table}
use Rattle.flow_rolled.specs.Rollup.{IsRollup}
use Rattle.flow_segment.specs.Carry.{Carry, carry_from, no_carry, octets_of, prefix_of}
use Rattle.flow_segment.specs.Prefix.{AreRead, HaveNoRecords}
use Rattle.flow_model.specs.State.{Part, State}

-- A segment as it is read, with nothing else beside it: its prefix is accepted messages without data records, read from
-- no templates, and its messages are accepted after them. It passes on this carry.
pub record IsSegment (part : Part) (carry : Carry) : Type 0 where
  pub prefix : List Accepted
  pub messages : List Accepted
  pub front : AreRead part.front [] prefix []
  pub restated : HaveNoRecords prefix
  pub octets : octets_of messages ≡ part.messages
  pub accepted : AreAcceptedFrom (templates_from [] prefix) messages
  pub time : ℕ
  pub small : time < 2 ^ 32
  pub hands_on : carry ≡ carry_from (no_carry time) (prefix ++ messages)

-- The first segment may have any prefix; each later one has the prefix that the carry before it determines.
abbrev pub IsCalledFor : Option Carry → List ℕ → Type 0
IsCalledFor None prefix = Unit {0}
IsCalledFor (Some carry) prefix = prefix ≡ prefix_of carry

-- a segment, the carry `before` it (none before the first one), and the carry `after` it
abbrev pub IsSegmentBehind : Option Carry → Part → Option Carry → Type 0
IsSegmentBehind before part after =
    (carry : Carry) × IsCalledFor before part.front × IsSegment part carry × (after ≡ Some carry)

-- A wide or rolled file is the rolled file of some sums by its width, and keeps the carry; a sealed one is a segment.
abbrev pub IsPartBehind : Manifest → Kind → Option Carry → Part → Option Carry → Type 0
IsPartBehind m Wide before part after = ((table : Table) × IsRollup m.wide part.front table) × (after ≡ before)
IsPartBehind m Rolled before part after = ((table : Table) × IsRollup m.width part.front table) × (after ≡ before)
IsPartBehind m Sealed before part after = IsSegmentBehind before part after
IsPartBehind m Active before part after = ⊥

-- these parts, one after the other
abbrev pub ArePartsBehind : Manifest → Option Carry → List Entry → List Part → Option Carry → Type 0
ArePartsBehind m before [] [] after = after ≡ before
ArePartsBehind m before [] (part ∷ parts) after = ⊥
ArePartsBehind m before (entry ∷ entries) [] after = ⊥
ArePartsBehind m before (entry ∷ entries) (part ∷ parts) after =
    (between : Option Carry) × IsPartBehind m entry.kind before part between
    × ArePartsBehind m between entries parts after

-- The archive's parts and its active segment are chained, and the active segment passes on this carry.
pub record HandsOn (s : State) (carry : Carry) : Type 0 where
  pub sealed : Option Carry
  pub parts : ArePartsBehind s.manifest None (front_of s.manifest) s.parts sealed
  pub active : IsSegmentBehind sealed s.active (Some carry)

-- The files are sums and segments of accepted messages, each segment with the prefix that the one before it determines.
abbrev pub IsChained : State → Type 0
IsChained s = (carry : Carry) × HandsOn s carry
