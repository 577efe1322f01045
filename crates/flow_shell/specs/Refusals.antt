-- Why a request has no answer.
use Rattle.std.specs.Prelude.{ℕ, List}
use Rattle.flow_commands.specs.Archives.{archive_code, archive_printed}
use Rattle.flow_commands.specs.Archives.{of_query as archive_of_query, of_text as archive_of_text}
use Rattle.flow_report.specs.declared.text_error.TextError.{TextError}
use Rattle.flow_shared.specs.declared.reader.ReaderError.{ReaderError}
use Rattle.flow_shared.specs.Printed.{printed, reader_code}
use Rattle.flow_refusals.specs.Table.{row_of}
use Rattle.flow_refusals.specs.declared.code.RefusalCode.{RefusalCode}
use Rattle.flow_refusals.specs.declared.read_refusal.ReadRefusal.{ReadRefusal}
use Rattle.flow_shell.specs.declared.refusal.ShellRefusal.{ShellRefusal}
use Rattle.flow_shell.specs.declared.refusal.ShellRefusal.TheVariants.{Reader, Archive}

abbrev pub of_reader : ReaderError → ShellRefusal
of_reader error = Reader error

abbrev pub of_query : ReadRefusal → ShellRefusal
of_query error = Archive (archive_of_query error)

abbrev pub of_text : TextError → ShellRefusal
of_text error = Archive (archive_of_text error)

abbrev pub shell_printed : ShellRefusal → List ℕ
shell_printed (Reader error) = printed error
shell_printed (Archive refusal) = archive_printed refusal

abbrev pub shell_code : ShellRefusal → RefusalCode
shell_code (Reader error) = reader_code error
shell_code (Archive refusal) = archive_code refusal

abbrev pub shell_status : ShellRefusal → ℕ
shell_status refusal = (row_of (shell_code refusal)).status
