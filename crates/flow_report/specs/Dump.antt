-- What `dump` answers of a File, and what it writes.
use Rattle.std.specs.Prelude.{◌≡◌, ℕ, ◌+◌, ◌-◌, ◌<◌, ◌^◌, List, [], ◌∷◌, ◌++◌, length, map, take, drop, sum_by, ⊤}
use Rattle.std.specs.Prelude.{Option, Some, None, Result, Ok, Err}
use Rattle.std.specs.Io.KnownBytes.{Appends, Consumes, IsAtEnd}
use Rattle.flow_codec.specs.Raw.{RawRecord, RawMessage, Placed, raw}
use Rattle.flow_codec.specs.Templates.{AllTemplates}
use Rattle.flow_codec.specs.Message.{IsAccepted}
use Rattle.flow_codec.specs.Fault.{IsFault}
use Rattle.flow_codec.specs.Cutting.{IsCutOff}
use Rattle.flow_codec.specs.Stream.{ReaderState, Progress, IsFaultNext, IsMessageNext, StopsWithin}
use Rattle.flow_codec.specs.declared.stream.StreamError.TheVariants.{Read as ReadStopped}
use Rattle.flow_codec.specs.File.{AcceptedFront, whole, broken, refused}
use Rattle.flow_report.specs.declared.dumping.HeldRecord.{HeldRecord}
use Rattle.flow_report.specs.declared.dumping.HeldRecords.{HeldRecords}
use Rattle.flow_report.specs.declared.dumping.HeldMessage.{HeldMessage}
use Rattle.flow_report.specs.declared.refusal.Refusal.{Refusal}
use Rattle.flow_report.specs.declared.refusal.Refusal.TheVariants.{Message, File, OutOfMemory, SumSpent, NumbersSpent}
use Rattle.flow_report.specs.declared.refusal.Refusal.TheVariants.{Read, Write}
use Rattle.flow_report.specs.Lines.{dump_text}
use Rattle.flow_report.specs.Fronts.{IsFront, IsSpentFront, IsReadFront}
use Rattle.flow_report.specs.Writing.{AppendsFront}

-- ---- one message

-- the records that are held; each has its count of octets, after those of the record before
abbrev pub records_in : List HeldRecord → List ℕ → List RawRecord
records_in [] octets = []
records_in (r ∷ rs) octets = raw r.id r.definition (take r.len octets) ∷ records_in rs (drop r.len octets)

-- the message that is held
abbrev pub message_of : HeldMessage → RawMessage
message_of m = record { header = m.header; records = records_in m.held.records.items m.held.octets.items }

-- records that have just the octets that are held
abbrev pub AreWhole : HeldRecords → Type 0
AreWhole h = sum_by (λ r. r.len) h.records.items ≡ length h.octets.items

-- from the first state to the second, these records were taken
abbrev pub HasTaken : HeldRecords → List Placed → HeldRecords → Type 0
HasTaken old taken new = AreWhole old → AreWhole new
    × (records_in new.records.items new.octets.items
    ≡ records_in old.records.items old.octets.items ++ map (λ x. x.1) taken)

-- The next message of a File is accepted and held, or there is none, or it is refused.
abbrev pub IsNext : Progress → AllTemplates → Result (Option HeldMessage) Refusal → Progress → AllTemplates → Type 0
IsNext old before (Ok (Some m)) new after =
    (octets : List ℕ) × IsCutOff octets × IsAccepted octets before (message_of m) after
    × Consumes old.rest new.rest octets
    × (new.count ≡ old.count + 1) × (new.count < 2 ^ 48) × (new.at ≡ old.at + length octets) × (new.stopped ≡ None)
IsNext old before (Ok None) new after = IsAtEnd old.rest
IsNext old before (Err (Message fault number)) new after =
    (octets : List ℕ) × IsCutOff octets × IsFault octets before fault × Consumes old.rest new.rest octets
    × (number ≡ old.count + 1) × (number < 2 ^ 48)
IsNext old before (Err (File fault)) new after = IsFaultNext old.at old.rest fault
IsNext old before (Err OutOfMemory) new after = ⊤
IsNext old before (Err SumSpent) new after = ⊥
IsNext old before (Err NumbersSpent) new after = (old.count ≡ 2 ^ 48 - 1) × IsMessageNext old.rest
IsNext old before (Err (Read failed)) new after = ⊤
IsNext old before (Err (Write failed)) new after = ⊤

-- Where reading failed, no octets that were read are lost, and those that are held hold no whole message.
abbrev pub ReadsWithin : ReaderState → Option (List ℕ) → Refusal → ReaderState → Option (List ℕ) → Type 0
ReadsWithin old left (Read failed) new after = StopsWithin old left (ReadStopped failed) new after
ReadsWithin old left (Message fault number) new after = ⊤
ReadsWithin old left (File fault) new after = ⊤
ReadsWithin old left OutOfMemory new after = ⊤
ReadsWithin old left SumSpent new after = ⊤
ReadsWithin old left NumbersSpent new after = ⊤
ReadsWithin old left (Write failed) new after = ⊤

-- ---- a whole run

-- the octets are a whole File of accepted messages, and the writer took all their lines
abbrev pub IsDumped : List ℕ → Option (List ℕ) → Option (List ℕ) → Type 0
IsDumped octets old new = (messages : List RawMessage) × (after : AllTemplates)
    × AcceptedFront octets messages after whole × Appends old new (dump_text messages)

-- Why a run ended, the first fault by place, and what the writer took: all lines of the accepted messages before; where
-- a read failed, all lines of the whole messages in the octets that were read; where memory or the writer failed, a
-- prefix of the lines of some. `left` are the octets left in the input.
abbrev pub IsDumpedUntil : List ℕ → Option (List ℕ) → Option (List ℕ) → Option (List ℕ) → Refusal → Type 0
IsDumpedUntil octets left old new (Message fault number) =
    (messages : List RawMessage) × (after : AllTemplates) × AcceptedFront octets messages after (refused fault)
    × (number ≡ length messages + 1) × Appends old new (dump_text messages)
IsDumpedUntil octets left old new (File fault) =
    (messages : List RawMessage) × (after : AllTemplates) × AcceptedFront octets messages after (broken fault)
    × Appends old new (dump_text messages)
IsDumpedUntil octets left old new OutOfMemory = (messages : List RawMessage) × IsFront octets messages
    × AppendsFront old new (dump_text messages)
IsDumpedUntil octets left old new SumSpent = ⊥
IsDumpedUntil octets left old new NumbersSpent = (messages : List RawMessage) × IsSpentFront octets messages
    × Appends old new (dump_text messages)
IsDumpedUntil octets left old new (Read failed) = (messages : List RawMessage) × IsReadFront octets left messages
    × Appends old new (dump_text messages)
IsDumpedUntil octets left old new (Write failed) = (messages : List RawMessage) × IsFront octets messages
    × AppendsFront old new (dump_text messages)
