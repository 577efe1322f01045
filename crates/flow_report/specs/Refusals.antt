-- Why a run ended before its work was done.
use Rattle.std.specs.Prelude.{ℕ, ⊤}
use Rattle.flow_codec.specs.declared.stream.StreamError.{StreamError}
use Rattle.flow_codec.specs.declared.stream.StreamError.TheVariants.{File as FileStopped, Read as ReadStopped}
use Rattle.flow_codec.specs.declared.stream.StreamError.TheVariants.{NumbersSpent as CountStopped}
use Rattle.flow_codec.specs.declared.error.MessageError.{MessageError}
use Rattle.flow_codec.specs.declared.error.MessageError.TheVariants as message
use Rattle.flow_codec.specs.declared.sink.WalkError.{WalkError}
use Rattle.flow_codec.specs.declared.sink.WalkError.TheVariants as walk
use Rattle.flow_measure.specs.declared.error.SumError.{SumError}
use Rattle.flow_measure.specs.declared.error.SumError.TheVariants as sum
use Rattle.flow_codec.specs.Printed.{file_code, message_code}
use Rattle.flow_refusals.specs.Table.{row_of}
use Rattle.flow_refusals.specs.declared.code.RefusalCode.{RefusalCode}
use Rattle.flow_refusals.specs.declared.code.RefusalCode.TheVariants as code
use Rattle.flow_report.specs.declared.refusal.Refusal.{Refusal}
use Rattle.flow_report.specs.declared.refusal.Refusal.TheVariants.{Message, File, OutOfMemory, SumSpent, NumbersSpent}
use Rattle.flow_report.specs.declared.refusal.Refusal.TheVariants.{Read, Write}

abbrev pub refusal_code : Refusal → RefusalCode
refusal_code (Message fault number) = message_code fault
refusal_code (File fault) = file_code fault
refusal_code OutOfMemory = code.OutOfMemory
refusal_code SumSpent = code.SumSpent
refusal_code NumbersSpent = code.NumbersSpent
refusal_code (Read failed) = code.Read
refusal_code (Write failed) = code.Write

abbrev pub status_of : Refusal → ℕ
status_of refusal = (row_of (refusal_code refusal)).status

abbrev pub stream_refusal : StreamError → Refusal
stream_refusal (FileStopped fault) = File fault
stream_refusal (ReadStopped failed) = Read failed
stream_refusal CountStopped = NumbersSpent

-- a message's refusal, of the message of this number
abbrev pub message_refusal : MessageError → ℕ → Refusal
message_refusal message.OutOfMemory number = OutOfMemory
message_refusal message.Short number = Message message.Short number
message_refusal message.Version number = Message message.Version number
message_refusal message.Length number = Message message.Length number
message_refusal (message.SetLength at) number = Message (message.SetLength at) number
message_refusal (message.TemplateCut at) number = Message (message.TemplateCut at) number
message_refusal (message.TemplateId at) number = Message (message.TemplateId at) number
message_refusal (message.ScopeCount at) number = Message (message.ScopeCount at) number
message_refusal (message.RecordCut at) number = Message (message.RecordCut at) number
message_refusal (message.TemplatesFull domain) number = Message (message.TemplatesFull domain) number
message_refusal message.DomainsFull number = Message message.DomainsFull number

abbrev pub refusal_of : WalkError SumError → ℕ → Refusal
refusal_of (walk.Message fault) number = message_refusal fault number
refusal_of (walk.Sink sum.OutOfMemory) number = OutOfMemory
refusal_of (walk.Sink sum.SumSpent) number = SumSpent

-- a refusal that comes before anything is written
abbrev pub IsOfInput : Refusal → Type 0
IsOfInput (Message fault number) = ⊤
IsOfInput (File fault) = ⊤
IsOfInput OutOfMemory = ⊤
IsOfInput SumSpent = ⊤
IsOfInput NumbersSpent = ⊤
IsOfInput (Read failed) = ⊤
IsOfInput (Write failed) = ⊥
