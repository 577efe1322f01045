-- What a call adds to its turn: a fault where the turn fails, else what the disk below answers.
use Rattle.std.proofs.Common.{◌≡◌, ℕ, ◌+◌, ◌≤◌, ◌⊎◌, inl, inr, ⊎_elim, Bool, true, false, List, sym, ◌∙◌, refl, arith, []}
use Rattle.std.specs.Prelude.{Result, Ok, Err, IsTrue}
use Rattle.std.proofs.lemmas.Bool.{false≢true}
use Rattle.flow_disk.specs.declared.error.DiskError.{DiskError}
use Rattle.flow_disk.specs.declared.error.DiskError.TheVariants.{Fault, OutOfMemory}
use Rattle.flow_disk.specs.Cause.{HasCause, FailsOnlyByFault, HasRisen}
use Rattle.flow_disk.specs.Disk.{Held, Marks, IsWithin, settled_at, given_up}
use Rattle.flow_disk.specs.Files.{Makes, Marked, Removes}
use Rattle.flow_disk.specs.Moments.{Elapses}
use Rattle.flow_memory_disk.specs.declared.failing.FailingDisk.{FailingDisk}
use Rattle.flow_memory_disk.specs.Failing.{TakesTurn, raised}
use Rattle.flow_memory_disk.proofs.Told.{anything_within}

-- counts of failures
more_risen : (was now below : ℕ) → HasRisen was now → HasRisen (was + below) (now + below)
more_risen was now below risen =
    ⊎_elim (λ less. inl (omega (arith, less))) (λ full. inr (omega (arith, full))) risen

no_fault : OutOfMemory ≡ Fault → ⊥
no_fault is = cc

pub refused : {T : Type 0} (was now below : ℕ) → was ≤ now → HasRisen was now
    → FailsOnlyByFault {T = T} (was + below) (now + below) (Err Fault)
refused was now below later risen = record {
  later = omega (arith, later);
  done = tt;
  risen = more_risen was now below risen;
  memory = λ is. cc;
}

pub refused_by : {T : Type 0} (was now below : ℕ) (error : DiskError) → error ≡ Fault → was ≤ now → HasRisen was now
    → FailsOnlyByFault {T = T} (was + below) (now + below) (Err error)
refused_by was now below Fault is later risen = refused was now below later risen
refused_by was now below OutOfMemory is later risen = absurd (no_fault is)

pub refused_cause : {T : Type 0} (was now below : ℕ) → was ≤ now → HasRisen was now
    → HasCause {T = T} Fault (was + below) (now + below) (Err Fault)
refused_cause was now below later risen = record {
  later = omega (arith, later);
  done = tt;
  risen = λ is. more_risen was now below risen;
  other = λ differs. absurd (differs refl);
}

pub refused_too : {S T : Type 0} (was now before after : ℕ) (below : Result S DiskError) → was ≤ now → HasRisen was now
    → FailsOnlyByFault before after below → FailsOnlyByFault {T = T} (was + before) (now + after) (Err Fault)
refused_too was now before after below later risen cause = record {
  later = omega (arith, later, cause.later);
  done = tt;
  risen = ⊎_elim (λ less. inl (omega (arith, less, cause.later))) (λ full. inr (omega (arith, full))) risen;
  memory = λ is. cc;
}

-- the call of the disk below
below_risen : (was now before after : ℕ) → now ≡ was → HasRisen before after → HasRisen (was + before) (now + after)
below_risen was now before after same risen =
    ⊎_elim (λ less. inl (omega (arith, less, same))) (λ full. inr (omega (arith, full))) risen

pub passed : {T : Type 0} (was now before after : ℕ) (result : Result T DiskError) → now ≡ was
    → FailsOnlyByFault before after result → FailsOnlyByFault (was + before) (now + after) result
passed was now before after (Ok v) same cause = record {
  later = omega (arith, cause.later, same);
  done = omega (arith, cause.done, same);
  risen = tt;
  memory = cause.memory;
}
passed was now before after (Err e) same cause = record {
  later = omega (arith, cause.later, same);
  done = tt;
  risen = below_risen was now before after same cause.risen;
  memory = cause.memory;
}

pub passed_cause : {T : Type 0} (was now before after : ℕ) (result : Result T DiskError) → now ≡ was
    → HasCause Fault before after result → HasCause Fault (was + before) (now + after) result
passed_cause was now before after (Ok v) same cause = record {
  later = omega (arith, cause.later, same);
  done = omega (arith, cause.done, same);
  risen = λ is. below_risen was now before after same (cause.risen is);
  other = tt;
}
passed_cause was now before after (Err e) same cause = record {
  later = omega (arith, cause.later, same);
  done = tt;
  risen = λ is. below_risen was now before after same (cause.risen is);
  other = λ differs. omega (arith, cause.other differs, same);
}

pub any_cause : {T : Type 0} (before after : ℕ) (result : Result T DiskError) → FailsOnlyByFault before after result
    → HasCause Fault before after result
any_cause before after (Ok v) cause =
    record { later = cause.later; done = cause.done; risen = λ is. cc; other = tt }
any_cause before after (Err Fault) cause =
    record { later = cause.later; done = tt; risen = λ is. cause.risen; other = λ differs. absurd (differs refl) }
any_cause before after (Err OutOfMemory) cause = absurd (cause.memory refl)

-- the turn itself
pub failing : {D W S F T : Type 0} (fails : W → Bool) (next : W → W) (faults : D → ℕ) (old new : FailingDisk D W S F)
    → new.when ≡ next old.when → new.bad ≡ old.bad → new.disk ≡ old.disk → new.failed ≡ raised old.failed
    → true ≡ fails old.when → TakesTurn {T = T} fails next faults old new (Err Fault)
failing fails next faults old new once bad disk failed is = record {
  once = once;
  bad = bad;
  failing = λ fail. (disk, failed, refl);
  passing = λ pass. absurd (false≢true (sym pass ∙ sym is));
}

pub passing : {D W S F T : Type 0} (fails : W → Bool) (next : W → W) (faults : D → ℕ) (old new : FailingDisk D W S F)
    (result : Result T DiskError) → new.when ≡ next old.when → new.bad ≡ old.bad → new.failed ≡ old.failed
    → false ≡ fails old.when → HasCause Fault (faults old.disk) (faults new.disk) result
    → TakesTurn fails next faults old new result
passing fails next faults old new result once bad failed is cause = record {
  once = once;
  bad = bad;
  failing = λ fail. absurd (false≢true (is ∙ fail));
  passing = λ pass. (failed, cause);
}

-- a failed call that left the files as they were
pub kept_marks : {T E : Type 0} (files : ℕ → Marks) (file : ℕ) (made : Marks) (still : Bool) (error : E)
    → (files file).frozen ≡ still → Marked {T = T} files files file made still (Err error)
kept_marks files file made still error frozen =
    record { done = tt; frozen = frozen; others = λ n differs. refl }

pub kept_files : {T E : Type 0} (files : ℕ → Held) (file : ℕ) (made left : Held) (error : E)
    → IsWithin (files file) left → Makes {T = T} files files file made left (Err error)
kept_files files file made left error within =
    record { done = tt; failed = within; others = λ n differs. refl }

pub no_time : (now : ℕ) (since : ℕ → (ℕ → List ℕ) → Type 0) (during : ℕ → Held) → Elapses now now since since during
no_time now since during =
    record { later = omega arith; nothing_else = λ t image le left. inl left; keeps = λ t image le left. left }

pub kept_removed : {T E : Type 0} (files : ℕ → Held) (file : ℕ) (error : E)
    → Removes {T = T} files files file (Err error)
kept_removed files file error =
    kept_files files file (settled_at []) (given_up (files file) (files file).reads) error
    (anything_within (files file) (files file) (files file).reads)

-- an answer of another kind
pub ok_too : {S T : Type 0} (before after : ℕ) (one : S) (other : T) → FailsOnlyByFault before after (Ok one)
    → FailsOnlyByFault before after (Ok other)
ok_too before after one other cause =
    record { later = cause.later; done = cause.done; risen = tt; memory = λ is. cc }

pub err_too : {S T : Type 0} (before after : ℕ) (error : DiskError)
    → FailsOnlyByFault {T = S} before after (Err error) → FailsOnlyByFault {T = T} before after (Err error)
err_too before after Fault cause =
    record { later = cause.later; done = tt; risen = cause.risen; memory = λ is. cc }
err_too before after OutOfMemory cause = absurd (cause.memory refl)
