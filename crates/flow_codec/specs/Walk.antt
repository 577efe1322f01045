-- What a walk over a message answers.
use Rattle.std.specs.Prelude.{◌≡◌, ◌⊎◌, ℕ, List, length, Result, Ok, Err}
use Rattle.flow_codec.specs.declared.error.MessageError.{MessageError}
use Rattle.flow_codec.specs.declared.error.MessageError.TheVariants.{OutOfMemory}
use Rattle.flow_codec.specs.declared.sink.WalkError.{WalkError}
use Rattle.flow_codec.specs.declared.sink.WalkError.TheVariants.{Message, Sink}
use Rattle.flow_codec.specs.declared.message.Header.{Header}
use Rattle.flow_codec.specs.Templates.{AllTemplates}
use Rattle.flow_codec.specs.Raw.{RawRecord, RawMessage, Placed, Took}
use Rattle.flow_codec.specs.Reading.{IsRefused}
use Rattle.flow_codec.specs.Message.{IsAccepted}
use Rattle.flow_codec.specs.Fault.{IsFault}

-- The octets are an accepted message with this header, these templates are those after it, and the sink took its
-- records.
abbrev pub IsWalkedBy : {S : Type 0} → (S → List Placed → S → Type 0) → List ℕ → AllTemplates → AllTemplates → S → S
    → Header → Type 0
IsWalkedBy holds octets before after old new header =
    (records : List RawRecord) × IsAccepted octets before (record { header = header; records = records }) after
    × Took holds header old records new

-- The call answered this message's header, left these templates, and the sink took its records, unless memory ran out
-- or the sink refused one.
abbrev pub IsWalkOf : {S E : Type 0} → (S → List Placed → S → Type 0) → (S → List Placed → Placed → E → Type 0) → ℕ
    → AllTemplates → S → S → Result Header (WalkError E) → RawMessage → AllTemplates → Type 0
IsWalkOf holds refuses most now old new (Ok header) m after =
    (header ≡ m.header) × (now ≡ after) × Took holds header old m.records new
IsWalkOf holds refuses most now old new (Err (Message e)) m after = e ≡ OutOfMemory
IsWalkOf holds refuses most now old new (Err (Sink e)) m after =
    (header : Header) × IsRefused holds refuses header old most e

-- Why a walk stops: the first fault, memory that was refused, or a record that the sink refused.
abbrev pub IsStopped : {S E : Type 0} → (S → List Placed → S → Type 0) → (S → List Placed → Placed → E → Type 0)
    → List ℕ → AllTemplates → S → WalkError E → Type 0
IsStopped holds refuses octets before old (Message e) = (e ≡ OutOfMemory) ⊎ IsFault octets before e
IsStopped holds refuses octets before old (Sink e) =
    (header : Header) × IsRefused holds refuses header old (length octets) e

-- The call answered this message's header, unless memory ran out.
abbrev pub IsJudgementOf : Result Header MessageError → RawMessage → Type 0
IsJudgementOf (Ok header) m = header ≡ m.header
IsJudgementOf (Err e) m = e ≡ OutOfMemory

-- A fault stays as it is; the refusal of a sink that only runs out of memory becomes OutOfMemory.
abbrev pub IsFaultOf : {E : Type 0} → WalkError E → MessageError → Type 0
IsFaultOf (Message fault) e = e ≡ fault
IsFaultOf (Sink refusal) e = e ≡ OutOfMemory
