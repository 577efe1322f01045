-- The templates that a sealed segment's prefix restates.
use Rattle.std.specs.Prelude.{◌≡◌, ◌≢◌, ◌⊎◌, ⊤, ℕ, Bool, true, false, List, [], ◌++◌, length, Result, Ok, Err}
use Rattle.std.specs.List.{AllByRecursion}
use Rattle.flow_refusals.specs.declared.read_refusal.ReadRefusal.{ReadRefusal}
use Rattle.flow_refusals.specs.declared.read_refusal.ReadRefusal.TheVariants.{Damaged, Fault, OutOfMemory}
use Rattle.flow_codec.specs.declared.error.MessageError.{MessageError}
use Rattle.flow_codec.specs.declared.file.FileError.{FileError}
use Rattle.flow_codec.specs.Cutting.{IsCutOff, IsDivided, IsFileFault}
use Rattle.flow_codec.specs.Fault.{IsFault, IsOctets}
use Rattle.flow_codec.specs.Message.{joined, IsAccepted}
use Rattle.flow_codec.specs.Raw.{Placed, RawMessage}
use Rattle.flow_codec.specs.Templates.{AllTemplates}
use Rattle.flow_measure.specs.History.{Accepted, AreAcceptedFrom, templates_from}
use Rattle.flow_segment.specs.Carry.{octets_of}

-- octets divided into messages, each accepted after those before it, and the octets after the last of them
pub record AreRead (octets : List ℕ) (before : AllTemplates) (messages : List Accepted) (rest : List ℕ) : Type 0 where
  pub divided : IsDivided octets (octets_of messages) rest
  pub accepted : AreAcceptedFrom before messages

abbrev pub HaveNoRecords : List Accepted → Type 0
HaveNoRecords messages = AllByRecursion (λ a. a.message.records ≡ []) messages

-- The octets are accepted messages without data records, read from nothing, that leave these templates.
abbrev pub IsRestated : List ℕ → AllTemplates → Type 0
IsRestated octets templates =
    (messages : List Accepted) × AreRead octets [] messages [] × HaveNoRecords messages
    × (templates ≡ templates_from [] messages)

-- the octets of a message that is refused
abbrev pub IsFaulty : List ℕ → AllTemplates → Type 0
IsFaulty octets before = IsOctets octets × ((fault : MessageError) × IsFault octets before fault)

-- the octets of a message that is refused, or has data records
abbrev pub IsNoRestatement : List ℕ → AllTemplates → Type 0
IsNoRestatement octets before =
    IsFaulty octets before
    ⊎ ((m : RawMessage) × (after : AllTemplates) × IsAccepted octets before m after × (m.records ≢ []))

-- These octets, whose place is `at`, don't begin with a message of a prefix.
abbrev pub IsNoPrefix : ℕ → AllTemplates → List ℕ → Type 0
IsNoPrefix at before rest =
    ((fault : FileError) × IsFileFault at rest fault)
    ⊎ ((message : List ℕ) × (more : List ℕ) × IsCutOff message × (rest ≡ message ++ more)
    × IsNoRestatement message before)

-- Why octets of a file from its start on are no prefix: after some messages of one, none begins at this place.
abbrev pub IsPrefixToldOf : List ℕ → ℕ → ReadRefusal → Type 0
IsPrefixToldOf octets number (Damaged file at) =
    (file ≡ number) × (messages : List Accepted) × (rest : List ℕ) × AreRead octets [] messages rest
    × HaveNoRecords messages × (at ≡ length (joined (octets_of messages)))
    × IsNoPrefix at (templates_from [] messages) rest
IsPrefixToldOf octets number Fault = ⊤
IsPrefixToldOf octets number OutOfMemory = ⊤

-- These templates are given, unless a read fails or memory runs out.
abbrev pub AreTemplatesGiven : AllTemplates → Result AllTemplates ReadRefusal → Type 0
AreTemplatesGiven all (Ok templates) = templates ≡ all
AreTemplatesGiven all (Err (Damaged file at)) = ⊥
AreTemplatesGiven all (Err Fault) = ⊤
AreTemplatesGiven all (Err OutOfMemory) = ⊤

-- ---- one message

-- whether there were data records
abbrev pub AreSeen : Bool → List Placed → Bool → Type 0
AreSeen old taken true = (old ≡ true) ⊎ (taken ≢ [])
AreSeen old taken false = (old ≡ false) × (taken ≡ [])

-- the answer on one message of a prefix, at this place of this file
abbrev pub IsRestating : {X : Type 0} → ℕ → ℕ → List ℕ → AllTemplates → AllTemplates → Result X ReadRefusal → Type 0
IsRestating file at octets before after (Ok x) =
    (m : RawMessage) × IsAccepted octets before m after × (m.records ≡ [])
IsRestating file at octets before after (Err (Damaged f place)) =
    (f ≡ file) × (place ≡ at) × IsNoRestatement octets before
IsRestating file at octets before after (Err Fault) = ⊥
IsRestating file at octets before after (Err OutOfMemory) = ⊤
