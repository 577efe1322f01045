-- What is asked of several archives, and what is written of it.
use Rattle.std.specs.Prelude.{ℕ, List, Option}
use Rattle.flow_report.specs.declared.format.Format.{Format}
use Rattle.flow_several.specs.declared.refusal.SeveralRefusal.{SeveralRefusal}
use Rattle.flow_several.specs.Each.{IsEachRefused, WritesEach, WritesEachRows, WritesSomeRows}
use Rattle.flow_several.specs.Flows.{AreFlowsRefused, WritesFlows, WritesFlowsOf, WritesSomeFlows}
use Rattle.flow_several.specs.Several.{DiskReading, IsRefusedOf, WritesNoRows, WritesRows, WritesTotals}
use Rattle.flow_several.specs.declared.asking.Question.{Question}
use Rattle.flow_several.specs.declared.asking.Wanted.{Wanted}
use Rattle.flow_several.specs.declared.asking.Wanted.TheVariants.{Totals, TotalsOfEach, FlowsOfEach}

-- ---- on honest disks

-- just the lines of what was read: of all archives together, or of each
abbrev pub WritesWanted : Wanted → Format → ℕ → ℕ → List DiskReading → Option (List ℕ) → Option (List ℕ) → Type 0
WritesWanted Totals format from to reads old new = WritesTotals format from to reads old new
WritesWanted TotalsOfEach format from to reads old new = WritesEach format from to reads old new
WritesWanted FlowsOfEach format from to reads old new = WritesFlows format from to reads old new

abbrev pub Answers : Question → List DiskReading → Option (List ℕ) → Option (List ℕ) → Type 0
Answers q reads old new = WritesWanted q.wanted q.format q.from q.to reads old new

-- why there is no such answer, and what is written then
abbrev pub IsWantedRefused : Wanted → Format → ℕ → ℕ → List DiskReading → Option (List ℕ) → Option (List ℕ)
    → SeveralRefusal → Type 0
IsWantedRefused Totals format from to reads old new e = IsRefusedOf format from to reads old new e
IsWantedRefused TotalsOfEach format from to reads old new e = IsEachRefused format from to reads old new e
IsWantedRefused FlowsOfEach format from to reads old new e = AreFlowsRefused format from to reads old new e

abbrev pub IsUnanswered : Question → List DiskReading → Option (List ℕ) → Option (List ℕ) → SeveralRefusal → Type 0
IsUnanswered q reads old new e = IsWantedRefused q.wanted q.format q.from q.to reads old new e

-- ---- on every disk

-- lines of rows, or flows, of the span, of so many archives: of each with its number, or of all together
abbrev pub WritesWantedRows : Wanted → Format → ℕ → ℕ → ℕ → Option (List ℕ) → Option (List ℕ) → Type 0
WritesWantedRows Totals format from to count old new = WritesRows format from to old new
WritesWantedRows TotalsOfEach format from to count old new = WritesEachRows format from to count old new
WritesWantedRows FlowsOfEach format from to count old new = WritesFlowsOf format from to count old new

abbrev pub AnswersRows : Question → ℕ → Option (List ℕ) → Option (List ℕ) → Type 0
AnswersRows q count old new = WritesWantedRows q.wanted q.format q.from q.to count old new

-- of some archives, or a prefix of such lines, where there is no answer
abbrev pub WritesSomeWanted : Wanted → Format → ℕ → ℕ → Option (List ℕ) → Option (List ℕ) → SeveralRefusal → Type 0
WritesSomeWanted Totals format from to old new e = WritesNoRows format from to old new e
WritesSomeWanted TotalsOfEach format from to old new e = WritesSomeRows format from to old new e
WritesSomeWanted FlowsOfEach format from to old new e = WritesSomeFlows format from to old new e

abbrev pub AnswersSomeRows : Question → Option (List ℕ) → Option (List ℕ) → SeveralRefusal → Type 0
AnswersSomeRows q old new e = WritesSomeWanted q.wanted q.format q.from q.to old new e
