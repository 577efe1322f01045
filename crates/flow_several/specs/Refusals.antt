-- The refusals of several archives: how they are printed, and their statuses.
use Rattle.std.specs.Prelude.{ℕ, List, ◌++◌, codes}
use Rattle.std.specs.Fmt.{decimal}
use Rattle.flow_manifest.specs.Printed.{opening_code, opening_text}
use Rattle.flow_measure.specs.declared.error.SumError.{SumError}
use Rattle.flow_measure.specs.declared.error.SumError.TheVariants as sum
use Rattle.flow_refusals.specs.declared.code.RefusalCode.TheVariants as code
use Rattle.flow_refusals.specs.Table.{code_text, row_of}
use Rattle.flow_report.specs.declared.text_error.TextError.{TextError}
use Rattle.flow_report.specs.declared.text_error.TextError.TheVariants as text
use Rattle.flow_several.specs.declared.error.TogetherError.TheVariants as together
use Rattle.flow_several.specs.Printed.{together_status, together_text}
use Rattle.flow_several.specs.declared.refusal.SeveralRefusal.{SeveralRefusal}
use Rattle.flow_several.specs.declared.refusal.SeveralRefusal.TheVariants.{Archive, OutOfMemory, SumSpent, Write}
use Rattle.flow_several.specs.declared.refusal.SummingRefusal.{SummingRefusal}
use Rattle.flow_several.specs.declared.refusal.SummingRefusal.TheVariants.{Opening, Sums}

-- ---- printed

abbrev pub summing_text : SummingRefusal → List ℕ
summing_text (Opening e) = opening_text e
summing_text (Sums e) = together_text e

-- the number, the name and what the refusal carries, and which archive is refused
abbrev pub several_text : SeveralRefusal → List ℕ
several_text (Archive number e) = summing_text e ++ (codes " archive " ++ decimal number)
several_text SumSpent = code_text code.SumSpent
several_text OutOfMemory = code_text code.OutOfMemory
several_text (Write failed) = code_text code.Write

-- ---- statuses

abbrev pub summing_status : SummingRefusal → ℕ
summing_status (Opening e) = (row_of (opening_code e)).status
summing_status (Sums e) = together_status e

abbrev pub several_status : SeveralRefusal → ℕ
several_status (Archive number e) = summing_status e
several_status SumSpent = (row_of code.SumSpent).status
several_status OutOfMemory = (row_of code.OutOfMemory).status
several_status (Write failed) = (row_of code.Write).status

-- ---- from the refusals of the layers below

abbrev pub of_sum : SumError → SeveralRefusal
of_sum sum.SumSpent = SumSpent
of_sum sum.OutOfMemory = OutOfMemory

-- of the sums of the archive with this number
abbrev pub of_rows : ℕ → SumError → SeveralRefusal
of_rows number sum.SumSpent = Archive number (Sums together.SumSpent)
of_rows number sum.OutOfMemory = OutOfMemory

abbrev pub of_text : TextError → SeveralRefusal
of_text text.OutOfMemory = OutOfMemory
of_text (text.Write failed) = Write failed
