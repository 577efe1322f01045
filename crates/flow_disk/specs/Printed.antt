-- How a disk's refusals are printed, and what they are to whoever reads a file.
use Rattle.std.specs.Prelude.{ℕ, List}
use Rattle.flow_refusals.specs.Table.{code_text}
use Rattle.flow_refusals.specs.declared.code.RefusalCode.TheVariants as code
use Rattle.flow_refusals.specs.declared.read_refusal.ReadRefusal.{ReadRefusal}
use Rattle.flow_refusals.specs.declared.read_refusal.ReadRefusal.TheVariants as read
use Rattle.flow_disk.specs.declared.error.DiskError.{DiskError}
use Rattle.flow_disk.specs.declared.error.DiskError.TheVariants.{Fault, OutOfMemory}

-- the number and the name
abbrev pub printed : DiskError → List ℕ
printed Fault = code_text code.Fault
printed OutOfMemory = code_text code.OutOfMemory

-- why a file isn't read
abbrev pub read_refusal : DiskError → ReadRefusal
read_refusal Fault = read.Fault
read_refusal OutOfMemory = read.OutOfMemory
