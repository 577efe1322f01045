-- What `inspect` answers of a File.
use Rattle.std.specs.Prelude.{◌≡◌, ℕ, List, [], ◌∷◌, Option, None, IfSome}
use Rattle.std.specs.Io.KnownBytes.{Appends, Keeps}
use Rattle.std.specs.declared.convert.Infallible.{Infallible}
use Rattle.flow_codec.specs.declared.sink.WalkError.{WalkError}
use Rattle.flow_codec.specs.declared.sink.WalkError.TheVariants as walk
use Rattle.flow_codec.specs.Templates.{AllTemplates}
use Rattle.flow_codec.specs.Message.{IsAccepted, joined}
use Rattle.flow_codec.specs.Cutting.{IsCutOff}
use Rattle.flow_codec.specs.Replaced.{replaced_of}
use Rattle.flow_codec.specs.Unread.{unread_of}
use Rattle.flow_report.specs.declared.format.Format.{Format}
use Rattle.flow_report.specs.declared.refusal.Refusal.{Refusal}
use Rattle.flow_report.specs.declared.refusal.Refusal.TheVariants.{Message, File, OutOfMemory, SumSpent, NumbersSpent}
use Rattle.flow_report.specs.declared.refusal.Refusal.TheVariants.{Read, Write}
use Rattle.flow_report.specs.Refusals.{message_refusal}
use Rattle.flow_report.specs.Writing.{AppendsFront}
use Rattle.flow_inspect.specs.declared.reporting.DomainReport.{DomainReport}
use Rattle.flow_inspect.specs.Counting.{Inspected}
use Rattle.flow_inspect.specs.Reports.{reports_of, reports_text}

-- what counts records refuses none
abbrev pub walk_refusal : WalkError Infallible → ℕ → Refusal
walk_refusal (walk.Message fault) number = message_refusal fault number
walk_refusal (walk.Sink never) number = OutOfMemory

-- the Sets of a message that aren't read under these templates, and how many of its template records replace one
abbrev pub IsNoted : AllTemplates → List ℕ → Inspected → Type 0
IsNoted before octets m = (m.unread ≡ unread_of before octets) × (m.replaced ≡ replaced_of before octets)

-- the messages of a File in turn, each accepted under the templates of those before it, beside what is noted of it
abbrev pub AreInspected : AllTemplates → List (List ℕ) → List Inspected → AllTemplates → Type 0
AreInspected before [] [] after = after ≡ before
AreInspected before [] (m ∷ ms) after = ⊥
AreInspected before (o ∷ os) [] after = ⊥
AreInspected before (o ∷ os) (m ∷ ms) after = (next : AllTemplates) × IsCutOff o × IsAccepted o before m.message next
    × IsNoted before o m × AreInspected next os ms after

-- the octets are a whole File of these messages, which are accepted
abbrev pub IsWhole : List ℕ → List Inspected → Type 0
IsWhole octets messages = (parts : List (List ℕ)) × (after : AllTemplates) × (octets ≡ joined parts)
    × AreInspected [] parts messages after

-- the octets are a whole File of accepted messages, and this is counted of its domains
abbrev pub HasReports : List ℕ → List (ℕ × DomainReport) → Type 0
HasReports octets entries = (messages : List Inspected) × IsWhole octets messages × (entries ≡ reports_of messages)

-- the octets are a whole File of accepted messages, and these are the lines of its domains, in words with one of all
abbrev pub HasLines : Format → List ℕ → List ℕ → Type 0
HasLines format octets lines = (messages : List Inspected) × IsWhole octets messages
    × (lines ≡ reports_text format None (reports_of messages))

-- What a writer holds after a refusal: what it held, or, where writing failed, a prefix of the lines besides.
abbrev pub KeepsOrFront : Format → Option (List ℕ) → Option (List ℕ) → Option (List ℕ) → Refusal → Type 0
KeepsOrFront format input old new (Write failed) =
    IfSome input (λ octets. (lines : List ℕ) × HasLines format octets lines × AppendsFront old new lines)
KeepsOrFront format input old new (Message fault number) = Keeps old new
KeepsOrFront format input old new (File fault) = Keeps old new
KeepsOrFront format input old new OutOfMemory = Keeps old new
KeepsOrFront format input old new SumSpent = Keeps old new
KeepsOrFront format input old new NumbersSpent = Keeps old new
KeepsOrFront format input old new (Read failed) = Keeps old new

-- ---- of a File with a number

-- the octets are a whole File of accepted messages, and these are its lines, where it has this number
abbrev pub HasFileLines : Format → Option ℕ → List ℕ → List ℕ → Type 0
HasFileLines format file octets lines = (messages : List Inspected) × IsWhole octets messages
    × (lines ≡ reports_text format file (reports_of messages))

-- the octets are those of an input, where these are known
abbrev pub AreOf : Option (List ℕ) → List ℕ → Type 0
AreOf input octets = IfSome input (λ known. octets ≡ known)

-- the lines of a whole File were written: of what the input has, where that is known
abbrev pub WritesFile : Format → Option ℕ → Option (List ℕ) → Option (List ℕ) → Option (List ℕ) → Type 0
WritesFile format file input old new =
    (octets : List ℕ) × (lines : List ℕ) × AreOf input octets × HasFileLines format file octets lines
    × Appends old new lines

-- a prefix of them, where writing failed; else nothing
abbrev pub KeepsOrFrontOfFile : Format → Option ℕ → Option (List ℕ) → Option (List ℕ) → Option (List ℕ) → Refusal
    → Type 0
KeepsOrFrontOfFile format file input old new (Write failed) =
    (octets : List ℕ) × (lines : List ℕ) × AreOf input octets × HasFileLines format file octets lines
    × AppendsFront old new lines
KeepsOrFrontOfFile format file input old new (Message fault number) = Keeps old new
KeepsOrFrontOfFile format file input old new (File fault) = Keeps old new
KeepsOrFrontOfFile format file input old new OutOfMemory = Keeps old new
KeepsOrFrontOfFile format file input old new SumSpent = Keeps old new
KeepsOrFrontOfFile format file input old new NumbersSpent = Keeps old new
KeepsOrFrontOfFile format file input old new (Read failed) = Keeps old new
