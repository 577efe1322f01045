-- Files (RFC 5655, section 4), and how far the octets of a File are accepted.
use Rattle.std.specs.Prelude.{◌≡◌, ℕ, ◌+◌, List, [], ◌∷◌, ◌++◌, length}
use Rattle.flow_codec.specs.declared.error.MessageError.{MessageError}
use Rattle.flow_codec.specs.declared.file.FileError.{FileError}
use Rattle.flow_codec.specs.Raw.{RawMessage}
use Rattle.flow_codec.specs.Templates.{AllTemplates}
use Rattle.flow_codec.specs.Message.{joined, IsMessage, IsAccepted}
use Rattle.flow_codec.specs.Fault.{IsFault}
use Rattle.flow_codec.specs.Cutting.{IsCutOff, IsFileFault}

-- the messages of a File in turn, each with the templates of those before it, limits aside
abbrev pub AreMessages : AllTemplates → List (List ℕ) → List RawMessage → AllTemplates → Type 0
AreMessages before [] [] after = after ≡ before
AreMessages before [] (m ∷ ms) after = ⊥
AreMessages before (o ∷ os) [] after = ⊥
AreMessages before (o ∷ os) (m ∷ ms) after = (next : AllTemplates) × IsCutOff o × IsMessage o before m next
    × AreMessages next os ms after

pub record IsFile (octets : List ℕ) (messages : List RawMessage) (after : AllTemplates) : Type 0 where
  pub parts : List (List ℕ)
  pub whole : octets ≡ joined parts
  pub each : AreMessages [] parts messages after

-- the same within the limits
abbrev pub AreAccepted : AllTemplates → List (List ℕ) → List RawMessage → AllTemplates → Type 0
AreAccepted before [] [] after = after ≡ before
AreAccepted before [] (m ∷ ms) after = ⊥
AreAccepted before (o ∷ os) [] after = ⊥
AreAccepted before (o ∷ os) (m ∷ ms) after = (next : AllTemplates) × IsCutOff o × IsAccepted o before m next
    × AreAccepted next os ms after

-- what follows the accepted prefix of a File: nothing, a fault of the File, or a message that is refused
pub data Ending : Type 0 where
  whole : Ending
  broken : FileError → Ending
  refused : MessageError → Ending

abbrev pub EndsIn : AllTemplates → ℕ → List ℕ → Ending → Type 0
EndsIn here at rest whole = rest ≡ []
EndsIn here at rest (broken fault) = IsFileFault at rest fault
EndsIn here at rest (refused fault) = (message : List ℕ) × (more : List ℕ) × (rest ≡ message ++ more)
    × IsCutOff message × IsFault message here fault

-- messages that are accepted in turn from these templates on, and what ends them; the first octet has the place `at`
pub record AcceptedFrom (before : AllTemplates) (at : ℕ) (octets : List ℕ) (messages : List RawMessage)
    (after : AllTemplates) (ending : Ending) : Type 0 where
  pub parts : List (List ℕ)
  pub rest : List ℕ
  pub divided : octets ≡ joined parts ++ rest
  pub accepted : AreAccepted before parts messages after
  pub end : EndsIn after (at + length (joined parts)) rest ending

-- the accepted prefix of a File: the most messages from its first octet on that are accepted in turn, and what ends it
abbrev pub AcceptedFront : List ℕ → List RawMessage → AllTemplates → Ending → Type 0
AcceptedFront octets messages after ending = AcceptedFrom [] 0 octets messages after ending

-- octets have exactly one accepted prefix from these templates on
pub record HasOneFront (before : AllTemplates) (at : ℕ) (octets : List ℕ) : Type 0 where
  pub messages : List RawMessage
  pub after : AllTemplates
  pub ending : Ending
  pub found : AcceptedFrom before at octets messages after ending
  pub alone : (others : List RawMessage) → (then : AllTemplates) → (other : Ending)
      → AcceptedFrom before at octets others then other → (others ≡ messages) × (then ≡ after) × (other ≡ ending)
