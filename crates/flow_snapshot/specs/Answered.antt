-- What queries answer.
use Rattle.std.specs.Prelude.{⊤, ℕ, List, Vec, Option, Some, None, Result, Ok, Err}
use Rattle.std.specs.declared.alloc.Global.{Global}
use Rattle.flow_refusals.specs.declared.read_refusal.ReadRefusal.{ReadRefusal}
use Rattle.flow_refusals.specs.declared.read_refusal.ReadRefusal.TheVariants.{Damaged, Fault, OutOfMemory}

-- no fault of the archive's files
abbrev pub IsNoDamage : ReadRefusal → Type 0
IsNoDamage (Damaged file at) = ⊥
IsNoDamage Fault = ⊤
IsNoDamage OutOfMemory = ⊤

-- What is answered is right, unless a read fails or memory runs out: damage is never reported.
abbrev pub IsAnswered : {X : Type 0} → (X → Type 0) → Result X ReadRefusal → Type 0
IsAnswered right (Ok x) = right x
IsAnswered right (Err e) = IsNoDamage e

-- the octets of a message, if there is one
abbrev pub octets_in : Option (Vec ℕ Global) → Option (List ℕ)
octets_in None = None
octets_in (Some message) = Some message.items
