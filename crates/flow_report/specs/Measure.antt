-- What `measure` answers of a File.
use Rattle.std.specs.Prelude.{◌≡◌, ℕ, ◌+◌, List, length, map, ⊤, Option, IfSome}
use Rattle.std.specs.Io.KnownBytes.{Keeps}
use Rattle.std.specs.List.{flat_map}
use Rattle.flow_codec.specs.Message.{in_fields}
use Rattle.flow_measure.specs.declared.flow.Flow.{Flow}
use Rattle.flow_measure.specs.declared.rows.Row.{Row}
use Rattle.flow_codec.specs.Raw.{RawMessage}
use Rattle.flow_codec.specs.Templates.{AllTemplates}
use Rattle.flow_codec.specs.File.{AcceptedFront, whole, broken, refused}
use Rattle.std.specs.FinMap.{entries}
use Rattle.flow_measure.specs.Sums.{Table, table_row, table_of}
use Rattle.flow_measure.specs.Flows.{flows_of}
use Rattle.flow_report.specs.declared.refusal.Refusal.{Refusal}
use Rattle.flow_report.specs.declared.refusal.Refusal.TheVariants.{Message, File, OutOfMemory, SumSpent, NumbersSpent}
use Rattle.flow_report.specs.declared.refusal.Refusal.TheVariants.{Read, Write}
use Rattle.flow_report.specs.declared.format.Format.{Format}
use Rattle.flow_report.specs.ArchiveLines.{rows_text}
use Rattle.flow_report.specs.Fronts.{IsSpentFront, IsReadFront}
use Rattle.flow_report.specs.Writing.{AppendsFront}

-- the flows of messages, in order
abbrev pub flows_of_all : List RawMessage → List Flow
flows_of_all messages = flat_map (λ m. flows_of (in_fields m)) messages

-- the sums of all flows of messages
abbrev pub table_of_all : ℕ → List RawMessage → Table
table_of_all width messages = table_of width (flows_of_all messages)

-- all sums, in the order of their keys
abbrev pub rows_of : Table → List Row
rows_of table = map (table_row table.width) (entries table.sums)

abbrev pub lines_of : Format → Table → List ℕ
lines_of format table = rows_text format table.width (rows_of table)

-- the octets are a whole File of accepted messages, and these are their sums
abbrev pub HasSums : ℕ → List ℕ → Table → Type 0
HasSums width octets table = (messages : List RawMessage) × (after : AllTemplates)
    × AcceptedFront octets messages after whole × (table ≡ table_of_all width messages)

-- the octets are a whole File of accepted messages, and these are their totals lines
abbrev pub HasTotals : Format → ℕ → List ℕ → List ℕ → Type 0
HasTotals format width octets lines = (messages : List RawMessage) × (after : AllTemplates)
    × AcceptedFront octets messages after whole × (lines ≡ lines_of format (table_of_all width messages))

-- What a refusal says of a File: the first fault by place; where a read failed, that all whole messages in the octets
-- that were read are accepted; nothing where memory or a writer failed. `left` are the octets left in the input.
abbrev pub IsRefusedBy : List ℕ → Option (List ℕ) → Refusal → Type 0
IsRefusedBy octets left (Message fault number) = (messages : List RawMessage) × (after : AllTemplates)
    × AcceptedFront octets messages after (refused fault) × (number ≡ length messages + 1)
IsRefusedBy octets left (File fault) = (messages : List RawMessage) × (after : AllTemplates)
    × AcceptedFront octets messages after (broken fault)
IsRefusedBy octets left OutOfMemory = ⊤
IsRefusedBy octets left SumSpent = ⊥
IsRefusedBy octets left NumbersSpent = (messages : List RawMessage) × IsSpentFront octets messages
IsRefusedBy octets left (Read failed) = (messages : List RawMessage) × IsReadFront octets left messages
IsRefusedBy octets left (Write failed) = ⊤

-- What a writer holds after a refusal: the octets it held, and, where writing failed, a prefix of the lines too.
abbrev pub KeepsOrFront : Format → ℕ → Option (List ℕ) → Option (List ℕ) → Option (List ℕ) → Refusal → Type 0
KeepsOrFront format width input old new (Write failed) =
    IfSome input (λ octets. (lines : List ℕ) × HasTotals format width octets lines × AppendsFront old new lines)
KeepsOrFront format width input old new (Message fault number) = Keeps old new
KeepsOrFront format width input old new (File fault) = Keeps old new
KeepsOrFront format width input old new OutOfMemory = Keeps old new
KeepsOrFront format width input old new SumSpent = Keeps old new
KeepsOrFront format width input old new NumbersSpent = Keeps old new
KeepsOrFront format width input old new (Read failed) = Keeps old new
