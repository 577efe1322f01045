-- The table of refusals: the number, the name and the exit status of each.
use Rattle.std.specs.Prelude.{ℕ, Bool, nat_le, ◌&&◌, ◌||◌, List, ◌∷◌, ◌++◌, codes}
use Rattle.std.specs.Fmt.{decimal}
use Rattle.flow_refusals.specs.declared.code.RefusalCode.{RefusalCode}
use Rattle.flow_refusals.specs.declared.code.RefusalCode.TheVariants as code

pub record Row : Type 0 where
  pub number : ℕ
  pub name : List ℕ
  pub status : ℕ

abbrev pub listed : ℕ → List ℕ → ℕ → Row
listed number name status = record { number = number; name = name; status = status }

-- statuses: 1 for what is refused, 3 for a device or a reader's place, 4 for memory, 5 for damage
abbrev pub row_of : RefusalCode → Row
row_of code.Short = listed 1 (codes "Short") 1
row_of code.Version = listed 2 (codes "Version") 1
row_of code.Length = listed 3 (codes "Length") 1
row_of code.SetLength = listed 4 (codes "SetLength") 1
row_of code.TemplateCut = listed 5 (codes "TemplateCut") 1
row_of code.TemplateId = listed 6 (codes "TemplateId") 1
row_of code.ScopeCount = listed 7 (codes "ScopeCount") 1
row_of code.RecordCut = listed 8 (codes "RecordCut") 1
row_of code.TemplatesFull = listed 9 (codes "TemplatesFull") 1
row_of code.DomainsFull = listed 10 (codes "DomainsFull") 1
row_of code.OutOfMemory = listed 11 (codes "OutOfMemory") 4
row_of code.SumSpent = listed 14 (codes "SumSpent") 1
row_of code.FileCut = listed 15 (codes "Cut") 1
row_of code.FileVersion = listed 16 (codes "Version") 1
row_of code.FileLength = listed 17 (codes "Length") 1
row_of code.Damaged = listed 20 (codes "Damaged") 5
row_of code.Format = listed 21 (codes "Format") 5
row_of code.Entries = listed 22 (codes "Entries") 5
row_of code.SlotCut = listed 23 (codes "Cut") 5
row_of code.NoArchive = listed 24 (codes "NoArchive") 5
row_of code.NumbersSpent = listed 25 (codes "NumbersSpent") 1
row_of code.NotRolled = listed 26 (codes "NotRolled") 1
row_of code.NotEmpty = listed 27 (codes "NotEmpty") 1
row_of code.Fault = listed 30 (codes "Fault") 3
row_of code.Read = listed 31 (codes "Read") 3
row_of code.Write = listed 32 (codes "Write") 3
row_of code.NoRoom = listed 40 (codes "NoRoom") 1
row_of code.ManifestFull = listed 41 (codes "ManifestFull") 1
row_of code.NothingToSeal = listed 42 (codes "NothingToSeal") 1
row_of code.RollBusy = listed 43 (codes "RollBusy") 1
row_of code.NoRoll = listed 44 (codes "NoRoll") 1
row_of code.RollCount = listed 45 (codes "RollCount") 1
row_of code.RollNotDone = listed 46 (codes "RollNotDone") 1
row_of code.Pinned = listed 47 (codes "Pinned") 1
row_of code.NothingToRetire = listed 48 (codes "NothingToRetire") 1
row_of code.Closed = listed 49 (codes "Closed") 3
row_of code.Away = listed 50 (codes "Away") 3
row_of code.Widths = listed 51 (codes "Widths") 1
row_of code.Rolled = listed 52 (codes "Rolled") 1

abbrev pub is_between : ℕ → ℕ → ℕ → Bool
is_between least most number = nat_le least number && nat_le number most

-- the numbers of refusals: of messages and memory; of Files and sums; of archives that aren't opened or made; of
-- devices; of open archives, readers and several archives
abbrev pub is_refusal : ℕ → Bool
is_refusal number =
    is_between 1 11 number || is_between 14 17 number || is_between 20 27 number || is_between 30 32 number
    || is_between 40 52 number

-- the number and the name
unfoldable pub code_text : RefusalCode → List ℕ
code_text refusal = decimal (row_of refusal).number ++ (32 ∷ (row_of refusal).name)
