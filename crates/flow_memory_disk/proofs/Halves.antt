-- A write of the first of some octets, as a failed write of all of them.
use Rattle.std.proofs.Common.{◌≡◌, ◌≢◌, ℕ, ◌+◌, ◌<◌, ◌≤◌, ◌/◌, ap, subst, ⊎_elim, inl, inr, Bool, true, false, List, length, take, length-take, refl}
use Rattle.std.proofs.Common.{arith, if◌then◌else◌, ◌==◌}
use Rattle.std.specs.Prelude.{Result, Ok, Err, IsTrue, ◌||◌, nat_lt, max}
use Rattle.std.proofs.lemmas.Bool.Decides.{nat_tests}
use Rattle.std.proofs.lemmas.List.{length-take-le}
use Rattle.flow_disk.specs.declared.error.DiskError.{DiskError}
use Rattle.flow_disk.specs.declared.error.DiskError.TheVariants.{Fault}
use Rattle.flow_disk.specs.Cause.{FailsOnlyByFault}
use Rattle.flow_disk.specs.Disk.{Held, Marks, IsImage, IsDiskImage, IsWithin, IsOutside, changed, touched_at, put_at}
use Rattle.flow_disk.specs.Files.{Makes, Marked, Writes, MarkedByWrite, while_writing}
use Rattle.flow_disk.specs.Moments.{Elapses}
use Rattle.flow_memory_disk.specs.Failing.{WroteAt, half}

pub fewer : (k : ℕ) (octets : List ℕ) → length (take k octets) ≤ length octets
fewer k octets = omega (arith, length-take k octets)

-- a shorter touched range leaves no more
shut : (loose : Bool) (fast at few count : ℕ) → few ≤ count → (loose || nat_lt fast (at + count)) ≡ false
    → (loose || nat_lt fast (at + few)) ≡ false
shut true fast at few count le is = is
shut false fast at few count le is = grind (arith, nat_tests)

pub within : (h : Held) (at few count : ℕ) (one other : List ℕ) → few ≤ count
    → IsWithin (touched_at h at few one) (touched_at h at count other)
within h at few count one other le octets is = record {
  long = is.long;
  end = λ tight. is.end (shut h.loose h.fast at few count le tight);
  same = λ place lt out. is.same place lt (
    ⊎_elim (λ before. inl before) (λ behind. inr (omega (arith, behind, le))) out.0,
    out.1,
  );
}

pub marked : {T E : Type 0} (old new : ℕ → Marks) (file few count : ℕ) (result : Result T E) (error : E)
    → MarkedByWrite old new file few result → MarkedByWrite {T = T} old new file count (Err error)
marked old new file few count (Ok v) error is =
    record { done = tt; frozen = ap (λ (m : Marks). m.frozen) is.done; others = is.others }
marked old new file few count (Err e) error is = record { done = tt; frozen = is.frozen; others = is.others }

pub written : {T E : Type 0} (old new : ℕ → Held) (file at : ℕ) (few octets : List ℕ) (result : Result T E) (error : E)
    → length few ≤ length octets → Writes old new file at few result
    → Writes {T = T} old new file at octets (Err error)
written old new file at few octets (Ok v) error le is = record {
  done = tt;
  failed = λ image of. within (old file) at (length few) (length octets) (put_at (old file).reads at few)
      (old file).reads le image (subst (λ (h : Held). IsImage h image) is.done of);
  others = is.others;
}
written old new file at few octets (Err e) error le is = record {
  done = tt;
  failed = λ image of. within (old file) at (length few) (length octets) (old file).reads (old file).reads le image
      (is.failed image of);
  others = is.others;
}

-- inside the call
wider : (files : ℕ → Held) (file : ℕ) (few more : Held) → IsWithin few more → (image : ℕ → List ℕ)
    → IsDiskImage (changed files file few) image → IsDiskImage (changed files file more) image
wider files file few more le image is n = either (n == file) (is n)
  where
    either : (b : Bool) → IsImage (if b then few else files n) (image n) → IsImage (if b then more else files n) (image n)
    either true of = le (image n) of
    either false of = of

pub elapsed : (before now : ℕ) (past since : ℕ → (ℕ → List ℕ) → Type 0) (old : ℕ → Held) (file at : ℕ)
    (few octets : List ℕ) → length few ≤ length octets → Elapses before now past since (while_writing old file at few)
    → Elapses before now past since (while_writing old file at octets)
elapsed before now past since old file at few octets le time = record {
  later = time.later;
  nothing_else = λ t image early left. ⊎_elim (λ past. inl past)
      (λ inside. inr (wider old file (touched_at (old file) at (length few) (old file).reads)
      (touched_at (old file) at (length octets) (old file).reads)
      (within (old file) at (length few) (length octets) (old file).reads (old file).reads le) image inside))
      (time.nothing_else t image early left);
  keeps = time.keeps;
}
