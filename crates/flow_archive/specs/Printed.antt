-- How the refusals of a plain archive are printed.
use Rattle.std.specs.Prelude.{ℕ, List, Option, Some, None}
use Rattle.flow_refusals.specs.Table.{code_text}
use Rattle.flow_refusals.specs.declared.code.RefusalCode.TheVariants as code
use Rattle.flow_archive.specs.declared.error.PlainError.{PlainError}
use Rattle.flow_archive.specs.declared.error.PlainError.TheVariants.{Message, NumbersSpent, OutOfMemory}

-- the number and the name; of a message's fault nothing is said here
abbrev pub printed : PlainError → Option (List ℕ)
printed (Message fault) = None
printed NumbersSpent = Some (code_text code.NumbersSpent)
printed OutOfMemory = Some (code_text code.OutOfMemory)
