-- What a job reads of one source.
use Rattle.std.specs.Prelude.{◌≡◌, ◌⊎◌, ⊤, ℕ, ◌<◌, List, [], ◌∷◌, fold, map, max, Result, Ok, Err}
use Rattle.flow_manifest.specs.Limits.{too_many_messages}
use Rattle.flow_codec.specs.Templates.{AllTemplates}
use Rattle.flow_refusals.specs.declared.read_refusal.ReadRefusal.TheVariants as read
use Rattle.flow_manifest.specs.declared.following.JobKind.{JobKind}
use Rattle.flow_manifest.specs.declared.following.JobKind.TheVariants.{Roll, Merge}
use Rattle.flow_manifest.specs.declared.manifest.Kind.{Kind}
use Rattle.flow_manifest.specs.declared.manifest.Kind.TheVariants.{Active, Rolled, Sealed, Wide}
use Rattle.flow_manifest.specs.declared.manifest.Manifest.{Manifest}
use Rattle.flow_measure.specs.History.{Accepted, flows_in}
use Rattle.flow_measure.specs.Sums.{merged, table_of, widened, AllFit, Table}
use Rattle.flow_rolled.specs.Rollup.{IsBroken, IsRollup}
use Rattle.flow_rolled.specs.Stored.{export_time}
use Rattle.flow_refusals.specs.declared.sum_refusal.SumRefusal.{SumRefusal}
use Rattle.flow_segment.specs.Carry.{Carry}
use Rattle.flow_segment.specs.PartFlows.{greatest_time, ArePartMessages, IsPartToldOf}
use Rattle.flow_segment.specs.Prefix.{IsRestated}
use Rattle.flow_segment.specs.Segment.{part_octets}
use Rattle.flow_model.specs.Chain.{IsSegment}
use Rattle.flow_model.specs.Jobs.{AreRolledMessages, IsSourceSum}
use Rattle.flow_model.specs.Standing.{IsSealedAt}
use Rattle.flow_model.specs.State.{Part}
use Rattle.flow_archive.specs.declared.refusal.ArchiveError.{ArchiveError}
use Rattle.flow_archive.specs.declared.refusal.ArchiveError.TheVariants as answer
use Rattle.flow_archive.specs.declared.sources.Source.{Source}
use Rattle.flow_refusals.specs.declared.sum_refusal.SumRefusal.TheVariants.{Damaged, SumSpent, Fault, OutOfMemory}
use Rattle.flow_archive.specs.Frozen.{segment_of, Frozen}

-- The greatest Export Time of what a job reads of these parts: of the messages of segments, or of rolled files.
abbrev pub IsJobTime : JobKind → List Part → ℕ → Type 0
IsJobTime Roll parts time =
    (messages : List Accepted) × AreRolledMessages parts messages × (time ≡ greatest_time messages)
IsJobTime Merge parts time = time ≡ fold max 0 (map (λ p. export_time p.front) parts)

-- ---- a source that is read

-- A refusal of a source as an archive's answer, of the source with this number: sums that pass their types are damage
-- of the job's first source, from its first octet on.
abbrev pub of_source : ℕ → ℕ → SumRefusal → ArchiveError
of_source first number (Damaged file at) = answer.Damaged number at
of_source first number SumSpent = answer.Damaged first 0
of_source first number Fault = answer.SourceFault
of_source first number OutOfMemory = answer.OutOfMemory

-- These are the sums of a source and its greatest Export Time, unless the sums pass their types, a read fails, or
-- memory runs out.
abbrev pub IsSummed : Table → ℕ → Result Source SumRefusal → Type 0
IsSummed sums time (Ok source) = (source.rows ≡ sums) × (source.time ≡ time)
IsSummed sums time (Err (Damaged file at)) = ⊥
IsSummed sums time (Err SumSpent) = AllFit sums → ⊥
IsSummed sums time (Err Fault) = ⊤
IsSummed sums time (Err OutOfMemory) = ⊤

-- These sums were added to others, and this greatest Export Time is answered, unless they pass their types together, a
-- read fails, or memory runs out.
abbrev pub IsMerged : Table → ℕ → Table → Table → Result ℕ SumRefusal → Type 0
IsMerged sums time old new (Ok latest) = (new ≡ merged old sums) × (latest ≡ time)
IsMerged sums time old new (Err (Damaged file at)) = ⊥
IsMerged sums time old new (Err SumSpent) = AllFit (merged old sums) → ⊥
IsMerged sums time old new (Err Fault) = ⊤
IsMerged sums time old new (Err OutOfMemory) = ⊤

-- A file is a source for a job of this kind, and holds this part.
abbrev pub IsSource : JobKind → Manifest → Frozen → Part → Type 0
IsSource Roll m f p = (f.entry.kind ≡ Sealed) × (f.entry.messages < too_many_messages) × IsSealedAt f.octets f.entry p
    × ((carry : Carry) × IsSegment p carry)
IsSource Merge m f p = (f.entry.kind ≡ Rolled) × (f.octets ≡ p.front)
    × ((table : Table) × IsRollup m.width p.front table)

-- What a job of this kind reads of this part is added to its sums.
abbrev pub IsRead : JobKind → Manifest → Part → Table → Table → Result ℕ SumRefusal → Type 0
IsRead kind m p old new result =
    (sums : Table) × (time : ℕ) × IsSourceSum kind m p sums × IsJobTime kind (p ∷ []) time
    × IsMerged sums time old new result

-- ---- a source that is read, damaged or not

-- The sums of a segment over intervals of this width, and its greatest Export Time: its prefix restates templates, and
-- so many accepted messages fill the octets after it.
abbrev pub IsSegmentSum : ℕ → List ℕ → List ℕ → ℕ → Source → Type 0
IsSegmentSum width prefix octets count source =
    (before : AllTemplates) × (messages : List Accepted) × IsRestated prefix before
    × ArePartMessages octets before count messages × (source.rows ≡ table_of width (flows_in messages))
    × (source.time ≡ greatest_time messages)

-- Those of a file of sums over intervals of `width`, over intervals of `wide`.
abbrev pub IsFileSum : ℕ → ℕ → List ℕ → Source → Type 0
IsFileSum width wide octets source =
    (table : Table) × IsRollup width octets table × (source.rows ≡ widened wide table)
    × (source.time ≡ export_time octets)

-- All that a file holds is summed over intervals of `made`.
abbrev pub IsReadWhole : Kind → ℕ → ℕ → Frozen → Source → Type 0
IsReadWhole Wide width made f source = IsFileSum width made f.octets source
IsReadWhole Rolled width made f source = IsFileSum width made f.octets source
IsReadWhole Sealed width made f source =
    IsSegmentSum made (segment_of f).prefix (part_octets f.entry.prefix f.entry.length f.octets) f.entry.messages source
IsReadWhole Active width made f source = ⊥

-- Why a segment isn't summed: it is damaged at this place.
abbrev pub IsSegmentRefusal : List ℕ → List ℕ → ℕ → ℕ → ℕ → ℕ → SumRefusal → Type 0
IsSegmentRefusal prefix octets number start end count (Damaged file at) =
    IsPartToldOf prefix octets number start end count (read.Damaged file at)
IsSegmentRefusal prefix octets number start end count SumSpent = ⊥
IsSegmentRefusal prefix octets number start end count Fault = ⊤
IsSegmentRefusal prefix octets number start end count OutOfMemory = ⊤

-- Why a file of sums isn't summed: its octets break off at this place, or a sum would pass its type.
abbrev pub IsFileRefusal : ℕ → ℕ → List ℕ → SumRefusal → Type 0
IsFileRefusal width wide octets (Damaged file at) = IsBroken width octets at
IsFileRefusal width wide octets SumSpent =
    (table : Table) → IsRollup width octets table → AllFit (widened wide table) → ⊥
IsFileRefusal width wide octets Fault = ⊤
IsFileRefusal width wide octets OutOfMemory = ⊤

-- Why a file isn't summed.
abbrev pub IsNotRead : Kind → ℕ → ℕ → Frozen → SumRefusal → Type 0
IsNotRead Wide width made f e = IsFileRefusal width made f.octets e
IsNotRead Rolled width made f e = IsFileRefusal width made f.octets e
IsNotRead Sealed width made f e =
    IsSegmentRefusal (segment_of f).prefix (part_octets f.entry.prefix f.entry.length f.octets) f.entry.file
    f.entry.prefix f.entry.length f.entry.messages e
IsNotRead Active width made f e = ⊥

-- ---- a source whose sums are added to others

-- All that it holds is added, and its greatest Export Time is answered.
abbrev pub IsTakenUp : (Source → Type 0) → Table → Table → ℕ → Type 0
IsTakenUp Holds old new time = (read : Source) × Holds read × (new ≡ merged old read.rows) × (time ≡ read.time)

-- Why it isn't: it isn't read, or its sums and the others would pass their types together.
abbrev pub IsNotTakenUp : (Source → Type 0) → (SumRefusal → Type 0) → Table → SumRefusal → Type 0
IsNotTakenUp Holds Refuses old (Damaged file at) = Refuses (Damaged file at)
IsNotTakenUp Holds Refuses old SumSpent =
    Refuses SumSpent ⊎ ((read : Source) × Holds read × (AllFit (merged old read.rows) → ⊥))
IsNotTakenUp Holds Refuses old Fault = ⊤
IsNotTakenUp Holds Refuses old OutOfMemory = ⊤
