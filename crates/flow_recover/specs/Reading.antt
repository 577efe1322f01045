-- The messages of segments, as an opening reads them.
use Rattle.std.specs.Prelude.{◌≡◌, ℕ, ◌<◌, ◌≤◌, Bool, false, not, IsTrue, List, [], length, drop}
use Rattle.std.specs.Prelude.{Option, Some, None, Vec}
use Rattle.std.specs.declared.alloc.Global.{Global}
use Rattle.std.specs.List.{AllByRecursion}
use Rattle.flow_codec.specs.Fault.{IsOctets}
use Rattle.flow_codec.specs.Message.{joined}
use Rattle.flow_disk.specs.Calls.{LeavesOnly}
use Rattle.flow_disk.specs.Disk.{IsDiskImage, Stays}
use Rattle.flow_disk.specs.declared.disk.Disk.{Ghosts}
use Rattle.flow_measure.specs.History.{Accepted}
use Rattle.flow_measure.specs.declared.span.PartSpan.{PartSpan}
use Rattle.flow_segment.specs.Carry.{Carry, carry_from, no_carry, octets_of, prefix_of}
use Rattle.flow_segment.specs.Prefix.{AreRead}
use Rattle.flow_segment.specs.Spans.{all_noted}
use Rattle.flow_gate.specs.Scan.{texts}
use Rattle.flow_model.specs.State.{Part}
use Rattle.flow_recover.specs.declared.active.ActiveSegment.{ActiveSegment}
use Rattle.flow_recover.specs.declared.segments.Section.{Section}
use Rattle.flow_recover.specs.declared.segments.Taken.{Taken}
use Rattle.flow_recover.specs.declared.segments.Section.TheVariants.{Prefix, Messages}

-- the active segment as it was read
abbrev pub part_of : ActiveSegment → Part
part_of segment = record { front = segment.prefix.items; messages = texts segment.messages.items }

-- A message of a prefix has no data records.
abbrev pub IsOf : Section → Accepted → Type 0
IsOf Prefix a = a.message.records ≡ []
IsOf Messages a = Unit {0}

abbrev pub is_misplaced : Section → Bool → Bool
is_misplaced Prefix bare = not bare
is_misplaced Messages bare = false

abbrev pub AreOf : Section → List Accepted → Type 0
AreOf section messages = AllByRecursion (IsOf section) messages

-- Octets begin with these accepted messages, as many as were taken in, and this comes of them.
abbrev pub AreTaken : Section → List ℕ → Carry → Carry → Option PartSpan → Option PartSpan → Taken → Type 0
AreTaken section octets old new start span taken = (taken.octets ≤ length octets) × (messages : List Accepted)
    × AreRead octets old.templates messages (drop taken.octets octets) × AreOf section messages
    × (new ≡ carry_from old messages) × (length messages ≡ taken.messages) × (span ≡ all_noted messages start)
    × IsOctets (joined (octets_of messages))

-- Octets are accepted messages without data records, read from no templates, which pass on this carry.
abbrev pub IsRestatement : List ℕ → Carry → Type 0
IsRestatement octets carry = (messages : List Accepted) × AreRead octets [] messages [] × AreOf Prefix messages
    × (carry ≡ carry_from (no_carry 0) messages)

-- ---- the prefix that the next segment must have, as an opening holds it: none before the first segment

-- these octets are that prefix, if there is one
abbrev pub IsCalled : Option (Vec ℕ Global) → List ℕ → Type 0
IsCalled None octets = Unit {0}
IsCalled (Some called) octets = octets ≡ called.items

-- it is the prefix that this carry determines; before the first segment there is neither
abbrev pub IsHeldBehind : Option Carry → Option (Vec ℕ Global) → Type 0
IsHeldBehind None None = Unit {0}
IsHeldBehind None (Some called) = ⊥
IsHeldBehind (Some carry) None = ⊥
IsHeldBehind (Some carry) (Some called) = called.items ≡ prefix_of carry

-- ---- a disk that is only read

-- On every disk all is as it was, but that lengths of files from the third on may be known now; on an honest one each
-- file reads as it did, and a stop meanwhile leaves what was there.
pub record IsOnlyRead {D S X : Type 0} (g : Ghosts D S X) (old new : D) : Type 0 where
  pub honest : g.honest new ≡ g.honest old
  pub settled : (n : ℕ) → (g.marks new n).settled ≡ (g.marks old n).settled
  pub frozen : (n : ℕ) → (g.marks new n).frozen ≡ (g.marks old n).frozen
  pub listed : (n : ℕ) → (g.marks new n).listed ≡ (g.marks old n).listed
  pub slots : (n : ℕ) → n < 3 → g.marks new n ≡ g.marks old n
  pub held : IsTrue (g.honest old) → Stays (g.held old) (g.held new)
  pub any_moment : IsTrue (g.honest old) → LeavesOnly g old new (IsDiskImage (g.held old))
