-- What is exported of an archive's files.
use Rattle.std.specs.Prelude.{◌≡◌, ◌⊎◌, ⊤, ℕ, ◌+◌, ◌-◌, ◌<◌, List, [], ◌++◌, length, take, drop, slice_get, Option}
use Rattle.std.specs.Prelude.{Some, min}
use Rattle.std.specs.List.{flat_map, AllByRecursion}
use Rattle.std.specs.Io.KnownBytes.{Appends, Keeps}
use Rattle.flow_codec.specs.Cutting.{IsCutOff}
use Rattle.flow_codec.specs.Message.{joined}
use Rattle.flow_export.specs.declared.reading.ReadFile.{ReadFile}
use Rattle.flow_export.specs.declared.refusal.ExportRefusal.{ExportRefusal}
use Rattle.flow_export.specs.declared.refusal.ExportRefusal.TheVariants.{Query, Write}
use Rattle.flow_codec.specs.Templates.{AllTemplates}
use Rattle.flow_measure.specs.History.{flows_in, templates_from, Accepted}
use Rattle.flow_model.specs.Shelf.{kept_of, Shelf}
use Rattle.flow_report.specs.Writing.{AppendsFront}
use Rattle.flow_segment.specs.Batch.{AreTaken}
use Rattle.flow_segment.specs.Carry.{carry_of, prefix_of, Carry, IsCarry}
use Rattle.flow_segment.specs.Prefix.{AreRead, HaveNoRecords}
use Rattle.flow_snapshot.specs.Answered.{IsNoDamage}
use Rattle.flow_snapshot.specs.Found.{kept_by_file, KeptFile}

-- a segment that was read
abbrev pub file_read : ReadFile → KeptFile
file_read read = record { prefix = read.prefix.items; messages = read.messages.items }

-- ---- what a file passes on

-- a prefix is accepted messages, read from nothing, which pass this on
abbrev pub PrefixPasses : List ℕ → Carry → Type 0
PrefixPasses prefix carry = (messages : List Accepted) × AreRead prefix [] messages [] × (carry ≡ carry_of messages)

-- What the prefix of a file and its first messages, so many, pass on: to the message after them.
abbrev pub PassesOn : KeptFile → ℕ → Carry → Type 0
PassesOn file count carry = (own : Carry) × PrefixPasses file.prefix own × AreTaken (take count file.messages) own carry

-- ---- what is written

-- such octets were written
abbrev pub Writes : (List ℕ → Type 0) → Option (List ℕ) → Option (List ℕ) → Type 0
Writes are old new = (text : List ℕ) × are text × Appends old new text

-- a prefix of such octets, where writing failed; else nothing
abbrev pub WritesOrNot : (List ℕ → Type 0) → Option (List ℕ) → Option (List ℕ) → ExportRefusal → Type 0
WritesOrNot are old new (Write failed) = (text : List ℕ) × are text × AppendsFront old new text
WritesOrNot are old new (Query e) = Keeps old new

-- no damage is reported
abbrev pub IsBlameless : ExportRefusal → Type 0
IsBlameless (Query e) = IsNoDamage e
IsBlameless (Write failed) = ⊤

-- ---- the templates after all messages

-- the messages that restate what the last file passes on after its last message
abbrev pub AreTemplatesAfter : Shelf → List ℕ → Type 0
AreTemplatesAfter s text =
    (carry : Carry) × PassesOn (record { prefix = s.prefix; messages = s.active }) (length s.active) carry
    × (text ≡ prefix_of carry)

-- on every disk: those of some templates in force
abbrev pub AreTemplates : List ℕ → Type 0
AreTemplates text = (carry : Carry) × IsCarry carry × (text ≡ prefix_of carry)

-- ---- messages from a number on

-- the messages of files, joined
abbrev pub messages_of : List KeptFile → List (List ℕ)
messages_of files = flat_map (λ f. f.messages) files

-- At this place is the file that has the message after so many others, or else the last one, and so many of its own
-- messages come before.
pub record IsFileOfMessage (files : List KeptFile) (skip at first : ℕ) : Type 0 where
  pub within : at < length files
  pub place : skip ≡ length (messages_of (take at files)) + first
  pub has : ((own : KeptFile) → slice_get files at ≡ Some own → first < length own.messages) ⊎ (at + 1 ≡ length files)

-- This is passed on to the message after so many others, by the file that has it, or else by the last one.
abbrev pub IsCarryBefore : List KeptFile → ℕ → Carry → Type 0
IsCarryBefore files skip carry =
    (at : ℕ) × (first : ℕ) × (own : KeptFile) × IsFileOfMessage files skip at first × (slice_get files at ≡ Some own)
    × PassesOn own first carry

-- The messages that restate what is passed on to the kept message after so many others, and then, at most so many, the
-- messages from this one on, as they are.
abbrev pub IsExportOf : Shelf → ℕ → ℕ → List ℕ → Type 0
IsExportOf s skip most text =
    (carry : Carry) × IsCarryBefore (kept_by_file s) skip carry
    × (text ≡ prefix_of carry ++ joined (take most (drop skip (kept_of s))))

-- Octets are a File, read from no templates on: accepted messages without data records, that leave these templates, and
-- then these messages. The flows of all are those of these messages.
pub record IsReadAs (text : List ℕ) (templates : AllTemplates) (messages : List Accepted) : Type 0 where
  pub prefix : List Accepted
  pub read : AreRead text [] (prefix ++ messages) []
  pub none : HaveNoRecords prefix
  pub in_force : templates_from [] prefix ≡ templates
  pub flows : flows_in (prefix ++ messages) ≡ flows_in messages

-- ---- on every disk

-- so many messages, each cut off by its own header, one after the other
abbrev pub AreMessages : ℕ → List ℕ → Type 0
AreMessages count text =
    (messages : List (List ℕ)) × AllByRecursion IsCutOff messages × (length messages ≡ count) × (text ≡ joined messages)

-- messages that restate some templates in force, and then so many messages
abbrev pub IsExport : ℕ → List ℕ → Type 0
IsExport count text =
    (carry : Carry) × (more : List ℕ) × IsCarry carry × AreMessages count more × (text ≡ prefix_of carry ++ more)

-- of so many messages how many there are after the first `skip`, at most `most`
abbrev pub asked_count : ℕ → ℕ → ℕ → ℕ
asked_count skip most all = min most (all - skip)

-- a prefix of such octets was written
abbrev pub WritesSome : (List ℕ → Type 0) → Option (List ℕ) → Option (List ℕ) → Type 0
WritesSome are old new = (text : List ℕ) × are text × AppendsFront old new text

-- a prefix of such octets, where writing failed; nothing, or a prefix, where reading did
abbrev pub WritesUpTo : (List ℕ → Type 0) → Option (List ℕ) → Option (List ℕ) → ExportRefusal → Type 0
WritesUpTo are old new (Write failed) = WritesSome are old new
WritesUpTo are old new (Query e) = Keeps old new ⊎ WritesSome are old new
