-- The lines of refusals on standard error.
use Rattle.std.specs.Prelude.{ℕ, List, [], ◌∷◌, ◌++◌, codes}
use Rattle.std.specs.Fmt.{decimal}
use Rattle.flow_codec.specs.Printed.{message_text, file_text}
use Rattle.flow_refusals.specs.Table.{code_text}
use Rattle.flow_refusals.specs.declared.code.RefusalCode.TheVariants as code
use Rattle.flow_report.specs.declared.refusal.Refusal.{Refusal}
use Rattle.flow_report.specs.declared.refusal.Refusal.TheVariants.{Message, File, OutOfMemory, SumSpent, NumbersSpent}
use Rattle.flow_report.specs.declared.refusal.Refusal.TheVariants.{Read, Write}

-- the number, the name and what the refusal carries
abbrev pub printed : Refusal → List ℕ
printed (Message fault number) = message_text fault ++ codes " message " ++ decimal number
printed (File fault) = file_text fault
printed OutOfMemory = code_text code.OutOfMemory
printed SumSpent = code_text code.SumSpent
printed NumbersSpent = code_text code.NumbersSpent
printed (Read failed) = code_text code.Read
printed (Write failed) = code_text code.Write

-- the whole line of a text
abbrev pub line_of : List ℕ → List ℕ
line_of text = codes "flowvault: " ++ text ++ 10 ∷ []
