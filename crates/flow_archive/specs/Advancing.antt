-- A job takes one source more.
use Rattle.std.specs.Prelude.{◌≡◌, ⊤, ◌⊎◌, ℕ, ◌+◌, max, List, Result, Ok, Err}
use Rattle.flow_manifest.specs.declared.following.JobKind.{JobKind}
use Rattle.flow_manifest.specs.declared.manifest.Manifest.{Manifest}
use Rattle.flow_measure.specs.Sums.{merged, AllFit, Table}
use Rattle.flow_model.specs.Jobs.{IsJobSum}
use Rattle.flow_model.specs.State.{Part}
use Rattle.flow_archive.specs.declared.sources.Source.{Source}
use Rattle.flow_refusals.specs.declared.sum_refusal.SumRefusal.{SumRefusal}
use Rattle.flow_refusals.specs.declared.sum_refusal.SumRefusal.TheVariants.{Damaged, SumSpent, Fault, OutOfMemory}
use Rattle.flow_archive.specs.Frozen.{Frozen}
use Rattle.flow_archive.specs.Sources.{IsJobTime, IsNotRead, IsNotTakenUp, IsReadWhole}
use Rattle.flow_archive.specs.UnderWay.{RunningJob}

-- only its count of sources, its sums and its greatest Export Time are others
abbrev pub IsTaken : RunningJob → RunningJob → Type 0
IsTaken old new = (new ≡ record old { read = old.read + 1; rows = new.rows; time = new.time })
    × (new.rows.width ≡ old.rows.width)

-- It has the sums and the greatest Export Time of these parts; or their sums pass their types, a read fails, or memory
-- runs out.
abbrev pub IsTakenIn : {X : Type 0} → JobKind → Manifest → List Part → Result X SumRefusal → RunningJob → Type 0
IsTakenIn kind m parts (Ok x) new = IsJobSum kind m parts new.rows × IsJobTime kind parts new.time
IsTakenIn kind m parts (Err (Damaged file at)) new = ⊥
IsTakenIn kind m parts (Err SumSpent) new = (table : Table) × IsJobSum kind m parts table × (AllFit table → ⊥)
IsTakenIn kind m parts (Err Fault) new = ⊤
IsTakenIn kind m parts (Err OutOfMemory) new = ⊤

-- The sums of a file that was read whole are merged into the job's, and its greatest Export Time counts.
abbrev pub HasTaken : ℕ → Frozen → RunningJob → RunningJob → Type 0
HasTaken width f old new =
    (read : Source) × IsReadWhole f.entry.kind width old.rows.width f read
    × (new.rows ≡ merged old.rows read.rows) × (new.time ≡ max old.time read.time)

-- Why a file isn't taken: it isn't read, or its sums and those of the job would pass their types together.
abbrev pub IsNotTaken : ℕ → Frozen → Table → SumRefusal → Type 0
IsNotTaken width f rows =
    IsNotTakenUp (IsReadWhole f.entry.kind width rows.width f) (IsNotRead f.entry.kind width rows.width f) rows
