-- What a disk does of which some calls fail.
use Rattle.std.specs.Prelude.{◌≡◌, ℕ, ◌+◌, ◌/◌, ◌<◌, ◌≤◌, ◌==◌, max, min, Bool, false, IsTrue, Option, Some, None, List}
use Rattle.std.specs.Prelude.{length, take}
use Rattle.std.specs.Prelude.{Result, IsErrOf, if◌then◌else◌}
use Rattle.flow_disk.specs.declared.error.DiskError.{DiskError}
use Rattle.flow_disk.specs.declared.error.DiskError.TheVariants.{Fault}
use Rattle.flow_disk.specs.Cause.{HasCause, FailsOnlyByFault}
use Rattle.flow_disk.specs.Disk.{Held, Marks}
use Rattle.flow_disk.specs.Files.{Writes, MarkedByWrite}
use Rattle.flow_memory_disk.specs.declared.bad_reads.BadReads.{BadReads}
use Rattle.flow_memory_disk.specs.declared.failing.FailingDisk.{FailingDisk}

-- a count of failures after one more, up to its last value
abbrev pub raised : ℕ → ℕ
raised count = min (count + 1) 18446744073709551615

-- a read reaches the first bad octet
abbrev pub Reaches : Option ℕ → ℕ → ℕ → Type 0
Reaches None at count = ⊥
Reaches (Some from) at count = (1 ≤ count) × (from < at + count)

-- from where the octets of this file are bad once it is frozen
abbrev pub bad_from : Option BadReads → ℕ → Option ℕ
bad_from None file = None
bad_from (Some bad) file = if bad.file == file then Some bad.from else None

-- Each call asks its turn once. Where it fails, the answer is a fault, which is counted, and the disk below is left
-- alone; else it is the call of the disk below, and fails where that one does.
pub record TakesTurn {D W S F T : Type 0} (fails : W → Bool) (next : W → W) (faults : D → ℕ)
    (old new : FailingDisk D W S F) (result : Result T DiskError) : Type 0 where
  pub once : new.when ≡ next old.when
  pub bad : new.bad ≡ old.bad
  pub failing : IsTrue (fails old.when) → (new.disk ≡ old.disk) × (new.failed ≡ raised old.failed)
      × IsErrOf result Fault
  pub passing : fails old.when ≡ false → (new.failed ≡ old.failed)
      × HasCause Fault (faults old.disk) (faults new.disk) result

-- the first half of these octets, rounded down
abbrev pub half : List ℕ → List ℕ
half octets = take (length octets / 2) octets

-- what a disk made of a write that it answered so
pub record WroteAt {D : Type 0} (honest : D → Bool) (marks : D → ℕ → Marks) (held : D → ℕ → Held) (faults : D → ℕ)
    (old new : D) (file at : ℕ) (octets : List ℕ) (answer : Result (Unit {0}) DiskError) : Type 0 where
  pub kept : MarkedByWrite (marks old) (marks new) file (max (marks old file).size (at + length octets)) answer
  pub written : IsTrue (honest old) → Writes (held old) (held new) file at octets answer
  pub cause : FailsOnlyByFault (faults old) (faults new) answer
