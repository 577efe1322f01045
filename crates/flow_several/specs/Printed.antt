-- How a refusal of sums of several archives is printed, and its status.
use Rattle.std.specs.Prelude.{ℕ, List, codes}
use Rattle.flow_refusals.specs.declared.code.RefusalCode.TheVariants as code
use Rattle.flow_refusals.specs.Printed.{read_code, read_text}
use Rattle.flow_refusals.specs.Table.{code_text, row_of}
use Rattle.flow_several.specs.declared.error.TogetherError.{TogetherError}
use Rattle.flow_several.specs.declared.error.TogetherError.TheVariants.{OtherWidths, Query, SumSpent}

-- the number, the name and what the refusal carries
abbrev pub together_text : TogetherError → List ℕ
together_text (Query e) = read_text e
together_text OtherWidths = code_text code.Widths
together_text SumSpent = code_text code.SumSpent

abbrev pub together_status : TogetherError → ℕ
together_status (Query e) = (row_of (read_code e)).status
together_status OtherWidths = (row_of code.Widths).status
together_status SumSpent = (row_of code.SumSpent).status
