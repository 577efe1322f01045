-- The room of a list that grew inside it, and why a call with room or without answers so.
use Rattle.std.proofs.Common.{◌≡◌, ℕ, ◌≤◌, refl, arith}
use Rattle.std.specs.Prelude.{Result, Ok, Err}
use Rattle.flow_disk.specs.declared.error.DiskError.{DiskError}
use Rattle.flow_disk.specs.declared.error.DiskError.TheVariants.{Fault, OutOfMemory}
use Rattle.flow_disk.specs.Cause.{FailsOnlyByFault, HasRisen}

pub at_least : {a b c : ℕ} → a ≤ b → b ≤ c → a ≤ c
at_least first second = omega (arith, first, second)

pub as_large : {a b c : ℕ} → a ≤ b → c ≡ b → a ≤ c
as_large first same = omega (arith, first, same)

pub failed : {T : Type 0} (was now : ℕ) (error : DiskError) → error ≡ Fault → was ≤ now → HasRisen was now
    → FailsOnlyByFault {T = T} was now (Err error)
failed was now error is later risen = record { later = later; done = tt; risen = risen; memory = λ other. cc }

pub done : {T : Type 0} (was now : ℕ) (value : T) → now ≡ was → FailsOnlyByFault was now (Ok value)
done was now value same =
    record { later = omega (arith, same); done = same; risen = tt; memory = λ other. cc }
