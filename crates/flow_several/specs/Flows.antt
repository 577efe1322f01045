-- What is written of the flows of each of several archives, with its number.
use Rattle.std.specs.Prelude.{◌≡◌, ◌⊎◌, ⊤, ℕ, ◌+◌, ◌≤◌, ◌==◌, nat_le, nat_lt, ◌&&◌, Bool, List, [], ◌∷◌, ◌++◌, length}
use Rattle.std.specs.Prelude.{take, Option, codes, if◌then◌else◌}
use Rattle.std.specs.Io.KnownBytes.{Appends, Keeps}
use Rattle.std.specs.List.{flat_map, All, AllPass, AllZip}
use Rattle.flow_measure.specs.declared.flow.Flow.{Flow}
use Rattle.flow_measure.specs.Query.{flows_in_view}
use Rattle.flow_measure.specs.View.{View}
use Rattle.flow_recover.specs.Opening.{IsDeviceOrMemory, StandsForNone}
use Rattle.flow_refusals.specs.declared.read_refusal.ReadRefusal.TheVariants as query
use Rattle.flow_report.specs.declared.format.Format.{Format}
use Rattle.flow_report.specs.declared.format.Layout.{Layout}
use Rattle.flow_report.specs.declared.text_error.TextError.{TextError}
use Rattle.flow_report.specs.declared.text_error.TextError.TheVariants as text
use Rattle.flow_report.specs.ArchiveLines.{flow_names}
use Rattle.flow_report.specs.Formats.{heading, line_in, number_or_none}
use Rattle.flow_report.specs.Formats.Value.{Number, Time}
use Rattle.flow_report.specs.Writing.{AppendsFront}
use Rattle.flow_snapshot.specs.Answered.{IsNoDamage}
use Rattle.flow_several.specs.declared.error.TogetherError.TheVariants as together
use Rattle.flow_several.specs.declared.listing_refusal.ListingRefusal.{ListingRefusal}
use Rattle.flow_several.specs.declared.listing_refusal.ListingRefusal.TheVariants as listing
use Rattle.flow_several.specs.declared.refusal.SeveralRefusal.{SeveralRefusal}
use Rattle.flow_several.specs.declared.refusal.SeveralRefusal.TheVariants.{Archive, OutOfMemory, SumSpent, Write}
use Rattle.flow_several.specs.declared.refusal.SummingRefusal.{SummingRefusal}
use Rattle.flow_several.specs.declared.refusal.SummingRefusal.TheVariants.{Opening, Sums}
use Rattle.flow_several.specs.Each.{archive_number}
use Rattle.flow_several.specs.Several.{IsViewRead, DiskReading}

-- ---- lines

-- ARCHIVE START DOMAIN PROTOCOL OCTETS PACKETS of a flow
unfoldable pub numbered_flow : Format → ℕ → Flow → List ℕ
numbered_flow format number f =
    line_in format (archive_number number ∷ (codes "start", Time f.start) ∷ (codes "domain", Number f.domain)
    ∷ (codes "protocol", number_or_none f.protocol)
    ∷ (codes "octets", Number f.octets) ∷ (codes "packets", Number f.packets) ∷ [])

abbrev pub numbered_flow_names : List (List ℕ)
numbered_flow_names = codes "archive" ∷ flow_names

-- the text before an archive's flows: before those of the first one the heading
abbrev pub names_before_flows : Layout → ℕ → List ℕ
names_before_flows layout number = if number == 1 then heading layout numbered_flow_names else []

-- the lines of the flows of the archive with this number
abbrev pub archive_flows : Format → ℕ → List Flow → List ℕ
archive_flows format number flows =
    names_before_flows format.layout number ++ flat_map (numbered_flow format number) flows

-- those of archives, of which the first has this number
abbrev pub each_flows : Format → ℕ → List (List Flow) → List ℕ
each_flows format number [] = []
each_flows format number (flows ∷ more) = archive_flows format number flows ++ each_flows format (number + 1) more

-- ---- which flows

-- whether a flow starts from one moment on and before another
abbrev pub starts_in : ℕ → ℕ → Flow → Bool
starts_in from to f = nat_le from f.start && nat_lt f.start to

abbrev pub StartIn : ℕ → ℕ → List Flow → Type 0
StartIn from to flows = AllPass (starts_in from to) flows

-- the flows of what was read that are kept and start in a span
abbrev pub AreFlowsRead : ℕ → ℕ → DiskReading → List Flow → Type 0
AreFlowsRead from to reads flows = (v : View) × IsViewRead reads v × (flows ≡ flows_in_view from to v)

-- ---- one archive

-- The lines of such flows alone are written, with their archive's number; or a prefix of them.
abbrev pub WritesLines : Format → ℕ → (List Flow → Type 0) → Option (List ℕ) → Option (List ℕ) → Type 0
WritesLines format number are old new =
    (flows : List Flow) × are flows × Appends old new (flat_map (numbered_flow format number) flows)

abbrev pub WritesLinesFront : Format → ℕ → (List Flow → Type 0) → Option (List ℕ) → Option (List ℕ) → Type 0
WritesLinesFront format number are old new =
    (flows : List Flow) × are flows × AppendsFront old new (flat_map (numbered_flow format number) flows)

-- With what comes before the lines of an archive.
abbrev pub Lists : Format → ℕ → (List Flow → Type 0) → Option (List ℕ) → Option (List ℕ) → Type 0
Lists format number are old new = (flows : List Flow) × are flows × Appends old new (archive_flows format number flows)

abbrev pub ListsFront : Format → ℕ → (List Flow → Type 0) → Option (List ℕ) → Option (List ℕ) → Type 0
ListsFront format number are old new =
    (flows : List Flow) × are flows × AppendsFront old new (archive_flows format number flows)

-- Why an archive that was read isn't listed, and after which lines: the device failed, or memory ran out, or what is read
-- represents none, and nothing is written; or a read failed, memory ran out, or writing failed, after a prefix.
abbrev pub IsListedUpTo : Format → ℕ → ℕ → ℕ → DiskReading → Option (List ℕ) → Option (List ℕ) → ListingRefusal → Type 0
IsListedUpTo format number from to reads old new (listing.Opening e) =
    (IsDeviceOrMemory e ⊎ StandsForNone reads) × Keeps old new
IsListedUpTo format number from to reads old new (listing.Query e) =
    IsNoDamage e × ListsFront format number (AreFlowsRead from to reads) old new
IsListedUpTo format number from to reads old new (listing.Write failed) =
    ListsFront format number (AreFlowsRead from to reads) old new

-- whatever the disk: nothing is written of an archive that isn't opened, else a prefix of the lines of such flows
abbrev pub ListsUpTo : Format → ℕ → (List Flow → Type 0) → Option (List ℕ) → Option (List ℕ) → ListingRefusal → Type 0
ListsUpTo format number are old new (listing.Opening e) = Keeps old new
ListsUpTo format number are old new (listing.Query e) = ListsFront format number are old new
ListsUpTo format number are old new (listing.Write failed) = ListsFront format number are old new

-- a refusal of an archive that is open
abbrev pub IsWhileListed : ListingRefusal → Type 0
IsWhileListed (listing.Opening e) = ⊥
IsWhileListed (listing.Query e) = ⊤
IsWhileListed (listing.Write failed) = ⊤

-- and no damage
abbrev pub IsNoBlame : ListingRefusal → Type 0
IsNoBlame (listing.Opening e) = ⊥
IsNoBlame (listing.Query e) = IsNoDamage e
IsNoBlame (listing.Write failed) = ⊤

-- a text isn't made, or isn't written
abbrev pub of_text : TextError → ListingRefusal
of_text text.OutOfMemory = listing.Query query.OutOfMemory
of_text (text.Write failed) = listing.Write failed

-- the refusal of the archive with this number
abbrev pub of_listing : ℕ → ListingRefusal → SeveralRefusal
of_listing number (listing.Opening e) = Archive number (Opening e)
of_listing number (listing.Query e) = Archive number (Sums (together.Query e))
of_listing number (listing.Write failed) = Write failed

-- ---- on honest disks

-- just the lines of each archive's flows are written
abbrev pub WritesFlows : Format → ℕ → ℕ → List DiskReading → Option (List ℕ) → Option (List ℕ) → Type 0
WritesFlows format from to reads old new =
    (all : List (List Flow)) × AllZip (AreFlowsRead from to) reads all × Appends old new (each_flows format 1 all)

-- Why the flows of an archive aren't all answered. Once it is open no damage is reported.
abbrev pub IsUnlisted : DiskReading → SummingRefusal → Type 0
IsUnlisted reads (Opening e) = IsDeviceOrMemory e ⊎ StandsForNone reads
IsUnlisted reads (Sums (together.Query e)) = IsNoDamage e
IsUnlisted reads (Sums together.OtherWidths) = ⊥
IsUnlisted reads (Sums together.SumSpent) = ⊥

-- What is written where the archive with this number is refused: the lines of those before it; and, once it is open, a
-- prefix of its own.
abbrev pub WritesUpTo : Format → ℕ → (List Flow → Type 0) → List ℕ → Option (List ℕ) → Option (List ℕ) → SummingRefusal
    → Type 0
WritesUpTo format number are before old new (Opening e) = Appends old new before
WritesUpTo format number are before old new (Sums e) =
    (own : List Flow) × are own × (n : ℕ) × (n ≤ length (archive_flows format number own))
    × Appends old new (before ++ take n (archive_flows format number own))

-- The archive with this number, from 1 on, is the first whose flows aren't all answered.
pub record IsFirstUnlisted (format : Format) (from to : ℕ) (reads : List DiskReading) (old new : Option (List ℕ))
    (number : ℕ) (e : SummingRefusal) : Type 0 where
  pub before : List DiskReading
  pub own : DiskReading
  pub after : List DiskReading
  pub flows : List (List Flow)
  pub all : reads ≡ before ++ own ∷ after
  pub place : number ≡ length before + 1
  pub listed : AllZip (AreFlowsRead from to) before flows
  pub refused : IsUnlisted own e
  pub written : WritesUpTo format number (AreFlowsRead from to own) (each_flows format 1 flows) old new e

-- A refusal names this archive; or writing failed within the lines of some first archives.
abbrev pub AreFlowsRefused : Format → ℕ → ℕ → List DiskReading → Option (List ℕ) → Option (List ℕ) → SeveralRefusal
    → Type 0
AreFlowsRefused format from to reads old new (Archive number e) =
    IsFirstUnlisted format from to reads old new number e
AreFlowsRefused format from to reads old new SumSpent = ⊥
AreFlowsRefused format from to reads old new OutOfMemory = ⊥
AreFlowsRefused format from to reads old new (Write failed) =
    (before : List DiskReading) × (after : List DiskReading) × (all : List (List Flow)) × (reads ≡ before ++ after)
    × AllZip (AreFlowsRead from to) before all × AppendsFront old new (each_flows format 1 all)

-- ---- on every disk

-- lines of flows that start in a span, of so many archives, numbered from 1 on
abbrev pub WritesFlowsOf : Format → ℕ → ℕ → ℕ → Option (List ℕ) → Option (List ℕ) → Type 0
WritesFlowsOf format from to count old new =
    (all : List (List Flow)) × (length all ≡ count) × All (StartIn from to) all
    × Appends old new (each_flows format 1 all)

-- such lines of the archives before the one that is refused, and a prefix of its own; or a prefix, where writing failed;
-- or nothing, where memory ran out before the first is asked
abbrev pub WritesSomeFlows : Format → ℕ → ℕ → Option (List ℕ) → Option (List ℕ) → SeveralRefusal → Type 0
WritesSomeFlows format from to old new (Archive number e) =
    (all : List (List Flow)) × (number ≡ length all + 1) × All (StartIn from to) all
    × WritesUpTo format number (StartIn from to) (each_flows format 1 all) old new e
WritesSomeFlows format from to old new SumSpent = ⊥
WritesSomeFlows format from to old new OutOfMemory = Keeps old new
WritesSomeFlows format from to old new (Write failed) =
    (all : List (List Flow)) × All (StartIn from to) all × AppendsFront old new (each_flows format 1 all)
