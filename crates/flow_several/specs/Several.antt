-- What is answered of several archives, and what is written.
use Rattle.std.specs.Prelude.{◌≡◌, ◌⊎◌, ⊤, ℕ, ◌+◌, ◌≤◌, List, ◌∷◌, [], ◌++◌, length, map, Option, Result, OnOk, IfErr}
use Rattle.std.specs.Prelude.{IsTrue, MatchResult}
use Rattle.std.specs.Io.KnownBytes.{Appends, Keeps}
use Rattle.std.specs.List.{AllZip}
use Rattle.flow_disk.specs.Calls.{LeavesOnly}
use Rattle.flow_disk.specs.Cause.{HasRisen}
use Rattle.flow_disk.specs.declared.disk.Disk.{Ghosts}
use Rattle.flow_disk.specs.Disk.{AllImages}
use Rattle.flow_manifest.specs.Slots.{reads_of}
use Rattle.flow_measure.specs.View.{View}
use Rattle.flow_model.specs.Shelved.{shelf_of}
use Rattle.flow_model.specs.Standing.{StandsFor, StandsForEither}
use Rattle.flow_model.specs.State.{State}
use Rattle.flow_model.specs.Views.{IsViewOf}
use Rattle.flow_recover.specs.Opening.{IsDeviceOrMemory, StandsForNone}
use Rattle.flow_refusals.specs.declared.read_refusal.ReadRefusal.TheVariants as query
use Rattle.flow_report.specs.declared.format.Format.{Format}
use Rattle.flow_report.specs.ArchiveLines.{rows_text}
use Rattle.flow_report.specs.Writing.{AppendsFront}
use Rattle.flow_snapshot.specs.declared.shares.PartSums.{PartSums}
use Rattle.flow_snapshot.specs.Totals.{first_file, IsTotalsRefusal}
use Rattle.flow_several.specs.declared.error.TogetherError.TheVariants as together
use Rattle.flow_several.specs.declared.together.Together.{Together}
use Rattle.flow_several.specs.Together.{first_width, rows_of_sums, totals_in_views, width_of_sums, AreSumsOf}
use Rattle.flow_several.specs.Together.{BothFitTogether, FitTogether, IsAddingRefused}
use Rattle.flow_several.specs.declared.refusal.SeveralRefusal.{SeveralRefusal}
use Rattle.flow_several.specs.declared.refusal.SeveralRefusal.TheVariants.{Archive, OutOfMemory, SumSpent, Write}
use Rattle.flow_several.specs.declared.refusal.SummingRefusal.{SummingRefusal}
use Rattle.flow_several.specs.declared.refusal.SummingRefusal.TheVariants.{Opening, Sums}

-- what is read of a file, by its number
abbrev pub DiskReading : Type 0
DiskReading = ℕ → List ℕ

-- what is read of each disk
abbrev pub readings : {D S X : Type 0} → Ghosts D S X → List D → List DiskReading
readings g disks = map (λ d. reads_of (g.held d)) disks

-- ---- one archive

-- What was read is that of a state, whose view this is.
abbrev pub IsViewRead : DiskReading → View → Type 0
IsViewRead reads v = (s : State) × StandsFor reads s × IsViewOf (shelf_of s) v

-- these are the sums of the archive that was read, by itself
abbrev pub IsSummedAlone : DiskReading → Option PartSums → Type 0
IsSummedAlone reads sums = (v : View) × IsViewRead reads v × AreSumsOf sums (v ∷ [])

-- Why an archive isn't summed by itself: the device failed, or memory ran out; what is read represents none; or a read
-- failed, memory ran out, or its sums don't fit their types.
abbrev pub IsNotSummedAlone : DiskReading → SummingRefusal → Type 0
IsNotSummedAlone reads (Opening e) = IsDeviceOrMemory e ⊎ StandsForNone reads
IsNotSummedAlone reads (Sums (together.Query e)) =
    (s : State) × (v : View) × StandsFor reads s × IsViewOf (shelf_of s) v
    × IsTotalsRefusal (first_file (shelf_of s)) (FitTogether (v ∷ [])) e
IsNotSummedAlone reads (Sums together.OtherWidths) = ⊥
IsNotSummedAlone reads (Sums together.SumSpent) = ⊥

-- what is answered of the archive that was read, by itself
abbrev pub IsOwnAnswer : DiskReading → Result Together SummingRefusal → Type 0
IsOwnAnswer reads result = MatchResult result (λ one. IsSummedAlone reads one.sums) (IsNotSummedAlone reads)

-- these are the sums of the archives of these views, and of the one whose view was read
abbrev pub IsSummedWith : DiskReading → List View → Option PartSums → Type 0
IsSummedWith reads vs sums = (v : View) × IsViewRead reads v × AreSumsOf sums (vs ++ v ∷ [])

-- Why an archive isn't summed with others: the device failed, or memory ran out; what is read represents none; or it
-- isn't added, whose view was read.
abbrev pub IsNotSummed : DiskReading → List View → SummingRefusal → Type 0
IsNotSummed reads vs (Opening e) = IsDeviceOrMemory e ⊎ StandsForNone reads
IsNotSummed reads vs (Sums e) =
    (s : State) × (v : View) × StandsFor reads s × IsViewOf (shelf_of s) v
    × IsAddingRefused (first_file (shelf_of s)) vs v e

-- On an honest disk a stop at any moment leaves what represents the archive that was there: where a stop had left one
-- of two states, one of these.
abbrev pub KeepsArchive : {D S X : Type 0} → Ghosts D S X → D → D → Type 0
KeepsArchive g old new =
    IsTrue (g.honest old) → (a b : State) → AllImages (g.held old) (StandsForEither a b)
    → LeavesOnly g old new (StandsForEither a b)

-- ---- all archives

-- these are the sums of all that was read
abbrev pub AreSummed : List DiskReading → Option PartSums → Type 0
AreSummed reads sums = (vs : List View) × AllZip IsViewRead reads vs × AreSumsOf sums vs

-- The archive with this number, from 1 on, is the first that isn't summed: all before it are.
pub record IsFirstNotSummed (reads : List DiskReading) (number : ℕ) (e : SummingRefusal) : Type 0 where
  pub before : List DiskReading
  pub own : DiskReading
  pub after : List DiskReading
  pub views : List View
  pub all : reads ≡ before ++ own ∷ after
  pub place : number ≡ length before + 1
  pub summed : AllZip IsViewRead before views
  pub refused : IsNotSummed own views e

-- a refusal of an archive, by its number
abbrev pub IsOfAnArchive : SeveralRefusal → Type 0
IsOfAnArchive (Archive number e) = ⊤
IsOfAnArchive SumSpent = ⊥
IsOfAnArchive OutOfMemory = ⊥
IsOfAnArchive (Write failed) = ⊥

abbrev pub IsFirstRefused : List DiskReading → SeveralRefusal → Type 0
IsFirstRefused reads (Archive number e) = IsFirstNotSummed reads number e
IsFirstRefused reads SumSpent = ⊥
IsFirstRefused reads OutOfMemory = ⊥
IsFirstRefused reads (Write failed) = ⊥

-- ---- totals

-- the lines of the sums of several views, of the intervals that start in a span
abbrev pub totals_text : Format → ℕ → ℕ → List View → List ℕ
totals_text format from to vs = rows_text format (first_width vs) (totals_in_views from to vs)

-- these are the lines of all that was read
abbrev pub AreTotalsOfAll : Format → ℕ → ℕ → List DiskReading → List ℕ → Type 0
AreTotalsOfAll format from to reads text =
    (vs : List View) × AllZip IsViewRead reads vs × (text ≡ totals_text format from to vs)

-- just these lines are written
abbrev pub WritesTotals : Format → ℕ → ℕ → List DiskReading → Option (List ℕ) → Option (List ℕ) → Type 0
WritesTotals format from to reads old new =
    (text : List ℕ) × AreTotalsOfAll format from to reads text × Appends old new text

-- All archives are summed, and their lines aren't made, or aren't written whole.
abbrev pub AreTotalsUnwritten : Format → ℕ → ℕ → List DiskReading → Option (List ℕ) → Option (List ℕ)
    → SeveralRefusal → Type 0
AreTotalsUnwritten format from to reads old new (Archive number e) = ⊥
AreTotalsUnwritten format from to reads old new SumSpent =
    ((vs : List View) × AllZip IsViewRead reads vs × (BothFitTogether vs → ⊥)) × Keeps old new
AreTotalsUnwritten format from to reads old new OutOfMemory = Keeps old new
AreTotalsUnwritten format from to reads old new (Write failed) =
    (text : List ℕ) × AreTotalsOfAll format from to reads text × AppendsFront old new text

-- A refusal names the first archive that isn't summed, and nothing is written; or all are summed.
abbrev pub IsRefusedOf : Format → ℕ → ℕ → List DiskReading → Option (List ℕ) → Option (List ℕ) → SeveralRefusal → Type 0
IsRefusedOf format from to reads old new (Archive number e) = IsFirstNotSummed reads number e × Keeps old new
IsRefusedOf format from to reads old new SumSpent = AreTotalsUnwritten format from to reads old new SumSpent
IsRefusedOf format from to reads old new OutOfMemory = AreTotalsUnwritten format from to reads old new OutOfMemory
IsRefusedOf format from to reads old new (Write failed) = AreTotalsUnwritten format from to reads old new (Write failed)

-- ---- on every disk

-- lines of the rows of some sums, of the intervals that start in a span
abbrev pub AreRowsOfSpan : Format → ℕ → ℕ → List ℕ → Type 0
AreRowsOfSpan format from to text =
    (sums : Option PartSums) × (text ≡ rows_text format (width_of_sums sums) (rows_of_sums from to sums))

-- such lines are written
abbrev pub WritesRows : Format → ℕ → ℕ → Option (List ℕ) → Option (List ℕ) → Type 0
WritesRows format from to old new = (text : List ℕ) × AreRowsOfSpan format from to text × Appends old new text

-- a prefix of such lines, where writing failed; else nothing
abbrev pub WritesNoRows : Format → ℕ → ℕ → Option (List ℕ) → Option (List ℕ) → SeveralRefusal → Type 0
WritesNoRows format from to old new (Archive number e) = Keeps old new
WritesNoRows format from to old new SumSpent = Keeps old new
WritesNoRows format from to old new OutOfMemory = Keeps old new
WritesNoRows format from to old new (Write failed) =
    (text : List ℕ) × AreRowsOfSpan format from to text × AppendsFront old new text

-- ---- the cause of a fault

-- a read of an archive's file failed
abbrev pub IsReadFault : SeveralRefusal → Type 0
IsReadFault (Archive number (Sums (together.Query query.Fault))) = ⊤
IsReadFault e = ⊥

-- The count of failed reads rises exactly where the answer is such a fault.
pub record HasReadCause {X : Type 0} (before now : ℕ) (result : Result X SeveralRefusal) : Type 0 where
  pub later : before ≤ now
  pub done : OnOk result (now ≡ before)
  pub risen : IfErr result (λ e. IsReadFault e → HasRisen before now)
  pub other : IfErr result (λ e. (IsReadFault e → ⊥) → now ≡ before)
