use Rattle.std.proofs.Common.{◌≡◌, refl, Err}
use Rattle.flow_measure.specs.Sums.{Table}
use Rattle.flow_rolled.specs.Reading.{IsDecoded}
use Rattle.flow_rolled.specs.declared.error.RolledError.{RolledError}
use Rattle.flow_rolled.specs.declared.error.RolledError.TheVariants.{NotRolled, OutOfMemory}
use Rattle.flow_recover.proofs.chaining.read_rolled.Goals as goal

memory_only : (e : RolledError) (table : Table) → IsDecoded (Err e) table → e ≡ OutOfMemory
memory_only (NotRolled at) table is = absurd is
memory_only OutOfMemory table is = refl

pub returns-in-Err-clause-refused : goal.returns-in-Err-clause-refused
returns-in-Err-clause-refused c table is =
    c.told.ensures.memory (memory_only c.in-Err.fault table (c.in-Err.ensures.only table is))

pub returns-in-Ok-clause-found : goal.returns-in-Ok-clause-found
returns-in-Ok-clause-found c = (c.in-Ok.rows, c.in-Ok.ensures.found, c.span.ensures)
