use Rattle.std.proofs.Common.{◌≡◌, ℕ, ◌≤◌, Bool, true, false, refl, sym, ◌∙◌, arith}
use Rattle.std.specs.Prelude.{Result, Ok, Err}
use Rattle.std.specs.Result.{result_eq}
use Rattle.std.proofs.lemmas.Bool.{false≢true}
use Rattle.flow_disk.specs.declared.error.DiskError.{DiskError}
use Rattle.flow_disk.specs.declared.error.DiskError.TheVariants.{Fault, OutOfMemory}
use Rattle.flow_disk.specs.Cause.{HasCause, HasRisen}
use Rattle.flow_disk.specs.contracts.error.DiskErrorPartialEq.TheImpl.{eq-value}
use Rattle.flow_memory_disk.proofs.bad_reads.FusedFileSealedFile.read_into.Goals as goal

counted : {T : Type 0} (alike : T → T → Bool) (was now : ℕ) (got : Result T DiskError)
    → result_eq alike eq-value.it got (Err Fault) ≡ true → was ≤ now → HasRisen was now → HasCause Fault was now got
counted alike was now (Ok octets) is later risen = absurd (false≢true is)
counted alike was now (Err Fault) is later risen =
    record { later = later; done = tt; risen = λ fault. risen; other = λ differs. absurd (differs refl) }
counted alike was now (Err OutOfMemory) is later risen = absurd (false≢true is)

quiet : {T : Type 0} (alike : T → T → Bool) (was : ℕ) (got : Result T DiskError)
    → result_eq alike eq-value.it got (Err Fault) ≡ false → HasCause Fault was was got
quiet alike was (Ok octets) is = record { later = omega arith; done = refl; risen = λ fault. cc; other = tt }
quiet alike was (Err Fault) is = absurd (false≢true (sym is))
quiet alike was (Err OutOfMemory) is =
    record { later = omega arith; done = tt; risen = λ fault. cc; other = λ differs. refl }

pub returns-then-eq-clause-cause : goal.returns-then-eq-clause-cause
returns-then-eq-clause-cause g c =
    counted _ _ _ _ (sym c.eq.ensures ∙ c.if-eq.true) c.raise.ensures.later c.raise.ensures.risen

pub returns-else-eq-clause-cause : goal.returns-else-eq-clause-cause
returns-else-eq-clause-cause g c = quiet _ _ _ (sym c.eq.ensures ∙ c.if-eq.false)
