-- The refusals of messages, of Files and of reading, and how they are printed: the number, the name and what they
-- carry.
use Rattle.std.specs.Prelude.{ℕ, List}
use Rattle.flow_refusals.specs.Printed.{text_with}
use Rattle.flow_refusals.specs.Table.{code_text}
use Rattle.flow_refusals.specs.declared.code.RefusalCode.{RefusalCode}
use Rattle.flow_refusals.specs.declared.code.RefusalCode.TheVariants as code
use Rattle.flow_codec.specs.declared.error.MessageError.{MessageError}
use Rattle.flow_codec.specs.declared.error.MessageError.TheVariants as message
use Rattle.flow_codec.specs.declared.file.FileError.{FileError}
use Rattle.flow_codec.specs.declared.file.FileError.TheVariants as file
use Rattle.flow_codec.specs.declared.stream.StreamError.{StreamError}
use Rattle.flow_codec.specs.declared.stream.StreamError.TheVariants as stream

abbrev pub message_code : MessageError → RefusalCode
message_code message.Short = code.Short
message_code message.Version = code.Version
message_code message.Length = code.Length
message_code (message.SetLength at) = code.SetLength
message_code (message.TemplateCut at) = code.TemplateCut
message_code (message.TemplateId at) = code.TemplateId
message_code (message.ScopeCount at) = code.ScopeCount
message_code (message.RecordCut at) = code.RecordCut
message_code (message.TemplatesFull domain) = code.TemplatesFull
message_code message.DomainsFull = code.DomainsFull
message_code message.OutOfMemory = code.OutOfMemory

abbrev pub file_code : FileError → RefusalCode
file_code (file.Cut at) = code.FileCut
file_code (file.Version at) = code.FileVersion
file_code (file.Length at) = code.FileLength
file_code file.OutOfMemory = code.OutOfMemory

abbrev pub stream_code : StreamError → RefusalCode
stream_code (stream.File fault) = file_code fault
stream_code (stream.Read failed) = code.Read
stream_code stream.NumbersSpent = code.NumbersSpent

abbrev pub message_text : MessageError → List ℕ
message_text (message.SetLength at) = text_with code.SetLength at
message_text (message.TemplateCut at) = text_with code.TemplateCut at
message_text (message.TemplateId at) = text_with code.TemplateId at
message_text (message.ScopeCount at) = text_with code.ScopeCount at
message_text (message.RecordCut at) = text_with code.RecordCut at
message_text (message.TemplatesFull domain) = text_with code.TemplatesFull domain
message_text e = code_text (message_code e)

abbrev pub file_text : FileError → List ℕ
file_text (file.Cut at) = text_with code.FileCut at
file_text (file.Version at) = text_with code.FileVersion at
file_text (file.Length at) = text_with code.FileLength at
file_text file.OutOfMemory = code_text code.OutOfMemory

abbrev pub stream_text : StreamError → List ℕ
stream_text (stream.File fault) = file_text fault
stream_text (stream.Read failed) = code_text code.Read
stream_text stream.NumbersSpent = code_text code.NumbersSpent
