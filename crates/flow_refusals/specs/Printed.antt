-- How refusals are printed: the number, the name, and what they carry.
use Rattle.std.specs.Prelude.{ℕ, List, ◌∷◌, ◌++◌}
use Rattle.std.specs.Fmt.{decimal}
use Rattle.flow_refusals.specs.declared.code.RefusalCode.{RefusalCode}
use Rattle.flow_refusals.specs.declared.code.RefusalCode.TheVariants as code
use Rattle.flow_refusals.specs.declared.read_refusal.ReadRefusal.{ReadRefusal}
use Rattle.flow_refusals.specs.declared.read_refusal.ReadRefusal.TheVariants as read
use Rattle.flow_refusals.specs.declared.sum_refusal.SumRefusal.{SumRefusal}
use Rattle.flow_refusals.specs.declared.sum_refusal.SumRefusal.TheVariants as sum
use Rattle.flow_refusals.specs.Table.{code_text}

-- with one number after it, as a place or a domain
abbrev pub text_with : RefusalCode → ℕ → List ℕ
text_with refusal number = code_text refusal ++ (32 ∷ decimal number)

-- a file, and a place in it
abbrev pub damage_text : ℕ → ℕ → List ℕ
damage_text file at = code_text code.Damaged ++ (32 ∷ (decimal file ++ (32 ∷ decimal at)))

abbrev pub read_code : ReadRefusal → RefusalCode
read_code (read.Damaged file at) = code.Damaged
read_code read.Fault = code.Fault
read_code read.OutOfMemory = code.OutOfMemory

abbrev pub read_text : ReadRefusal → List ℕ
read_text (read.Damaged file at) = damage_text file at
read_text e = code_text (read_code e)

abbrev pub sum_text : SumRefusal → List ℕ
sum_text (sum.Damaged file at) = damage_text file at
sum_text sum.SumSpent = code_text code.SumSpent
sum_text sum.Fault = code_text code.Fault
sum_text sum.OutOfMemory = code_text code.OutOfMemory

-- why a file isn't read, as why its sums aren't made
abbrev pub sum_of_read : ReadRefusal → SumRefusal
sum_of_read (read.Damaged file at) = sum.Damaged file at
sum_of_read read.Fault = sum.Fault
sum_of_read read.OutOfMemory = sum.OutOfMemory
