-- The octets of the file that a job makes.
use Rattle.std.specs.Prelude.{◌≡◌, ◌⊎◌, ℕ, ◌+◌, ◌<◌, ◌≤◌, ◌^◌, List, Option, Some, None}
use Rattle.flow_rolled.specs.Rollup.{IsRollup}
use Rattle.flow_archive.specs.declared.refusal.ArchiveError.{ArchiveError}
use Rattle.flow_archive.specs.declared.refusal.ArchiveError.TheVariants.{OutOfMemory, NumbersSpent, NoRoll, RollNotDone}
use Rattle.flow_archive.specs.UnderWay.{FrozenStaged, RunningJob}

-- All sources are read, and there is a number for the file, and one for the manifest that will name it.
pub record MayStage (next generation : ℕ) (r : RunningJob) : Type 0 where
  pub all : r.sources ≤ r.read
  pub file : next + 1 < 2 ^ 64
  pub manifest : generation + 1 < 2 ^ 64

-- the octets of a job's file: the rolled file of its sums, with its Export Time
abbrev pub AreJobOctets : Option RunningJob → ℕ → ℕ → List ℕ → Type 0
AreJobOctets job next generation octets =
    (r : RunningJob) × (job ≡ Some r) × MayStage next generation r
    × (rollup : IsRollup r.rows.width octets r.rows) × (rollup.time ≡ r.time)

-- why there are none: the first of the refusals 44, 46, 25 that holds, or 11
abbrev pub HasNoOctets : Option RunningJob → ℕ → ℕ → ArchiveError → Type 0
HasNoOctets job next generation NoRoll = job ≡ None
HasNoOctets job next generation RollNotDone = (r : RunningJob) × (job ≡ Some r) × (r.read < r.sources)
HasNoOctets job next generation NumbersSpent =
    (r : RunningJob) × (job ≡ Some r) × (r.sources ≤ r.read) × ((2 ^ 64 ≤ next + 1) ⊎ (2 ^ 64 ≤ generation + 1))
HasNoOctets job next generation OutOfMemory = (r : RunningJob) × (job ≡ Some r) × MayStage next generation r
HasNoOctets job next generation e = ⊥

-- a job with the file that it has made
abbrev pub job_with_staged : FrozenStaged → Option RunningJob → Option RunningJob
job_with_staged f None = None
job_with_staged f (Some r) = Some (record r { staged = Some f })
