-- How the refusal of octets that are no rolled file is printed.
use Rattle.std.specs.Prelude.{ℕ, List}
use Rattle.flow_refusals.specs.Printed.{text_with}
use Rattle.flow_refusals.specs.Table.{code_text}
use Rattle.flow_refusals.specs.declared.code.RefusalCode.TheVariants as code
use Rattle.flow_rolled.specs.declared.error.RolledError.{RolledError}
use Rattle.flow_rolled.specs.declared.error.RolledError.TheVariants.{NotRolled, OutOfMemory}

-- the number, the name and the place
abbrev pub printed : RolledError → List ℕ
printed (NotRolled at) = text_with code.NotRolled at
printed OutOfMemory = code_text code.OutOfMemory
