-- How the refusal of sums is printed, and what it is to whoever sums a file.
use Rattle.std.specs.Prelude.{ℕ, List}
use Rattle.flow_refusals.specs.Table.{code_text}
use Rattle.flow_refusals.specs.declared.code.RefusalCode.TheVariants as code
use Rattle.flow_refusals.specs.declared.sum_refusal.SumRefusal.{SumRefusal}
use Rattle.flow_refusals.specs.declared.sum_refusal.SumRefusal.TheVariants as file
use Rattle.flow_measure.specs.declared.error.SumError.{SumError}
use Rattle.flow_measure.specs.declared.error.SumError.TheVariants.{SumSpent, OutOfMemory}

-- the number and the name
abbrev pub printed : SumError → List ℕ
printed SumSpent = code_text code.SumSpent
printed OutOfMemory = code_text code.OutOfMemory

-- why the sums of a file aren't made
abbrev pub sum_refusal : SumError → SumRefusal
sum_refusal SumSpent = file.SumSpent
sum_refusal OutOfMemory = file.OutOfMemory
