-- Rolled files on a disk, and how far one has been read.
use Rattle.std.specs.Prelude.{◌≡◌, ◌⊎◌, ℕ, ◌+◌, ◌<◌, Bool, List, [], ◌∷◌, ◌++◌, length, take, drop, Option, Some}
use Rattle.std.specs.Prelude.{None, nat_lt, if◌then◌else◌}
use Rattle.std.specs.Int.{w32, from_be_bytes}
use Rattle.std.specs.Prelude.{Vec, Result, Ok, Err}
use Rattle.std.specs.declared.alloc.Global.{Global}
use Rattle.std.specs.FinMap.{entries, get}
use Rattle.flow_measure.specs.Sums.{Table, AllFit, with_sums, with_entries, widened_key}
use Rattle.flow_rolled.specs.declared.cursor.Cursor.{Cursor}
use Rattle.flow_rolled.specs.declared.row.RolledRow.{RolledRow}
use Rattle.flow_rolled.specs.declared.row_span.RowSpan.{RowSpan}
use Rattle.flow_rolled.specs.declared.message.State.{State}
use Rattle.flow_refusals.specs.declared.read_refusal.ReadRefusal.{ReadRefusal}
use Rattle.flow_refusals.specs.declared.read_refusal.ReadRefusal.TheVariants.{Damaged, Fault, OutOfMemory}
use Rattle.flow_refusals.specs.declared.sum_refusal.SumRefusal.{SumRefusal}
use Rattle.flow_refusals.specs.declared.sum_refusal.SumRefusal.TheVariants as sum
use Rattle.flow_rolled.specs.Rows.{sums_in, sums_of, entries_in}
use Rattle.flow_rolled.specs.Messages.{RolledMessage, Follows, AllFollow, last_message, rows_within}
use Rattle.flow_rolled.specs.Octets.{message_octets, messages_octets, IsRolledMessage}
use Rattle.flow_rolled.specs.Rollup.{IsRollup, IsBroken}
use Rattle.flow_rolled.specs.Reading.{Stands, IsStuck}

-- a rolled file on a disk: its number, how many messages were rolled into it, how many octets it has, whether the disk
-- is honest, what it then reads as, and when its intervals start, where that is known
pub record Rollup : Type 0 where
  pub file : ℕ
  pub messages : ℕ
  pub length : ℕ
  pub honest : Bool
  pub octets : List ℕ
  pub span : Option RowSpan

-- the Export Time of its first message, after Version and Length, in network byte order; 0 where there is none
abbrev pub export_time : List ℕ → ℕ
export_time octets = if nat_lt (length octets) 8 then 0 else from_be_bytes w32 (take 4 (drop 4 octets))

-- how far a rolled file has been read: the place of the next message, and what is known of the one before it
pub record Reader : Type 0 where
  pub part : Rollup
  pub width : ℕ
  pub place : ℕ
  pub before : Option State

-- these messages follow one another and have these rows, and this is known of the last of them
pub record IsBehind (width : ℕ) (before : Option State) (rows : List RolledRow) (front : List RolledMessage) : Type 0
  where
    pub follow : AllFollow width None front
    pub stands : Stands before (last_message None front)
    pub rows_are : rows ≡ rows_within front

-- the reader has given these rows, of messages that follow one another
abbrev pub HasGiven : Reader → List RolledRow → Type 0
HasGiven r rows = (front : List RolledMessage) × IsBehind r.width r.before rows front

-- and the file has these messages up to the reader's place
pub record HasRead (r : Reader) (rows : List RolledRow) : Type 0 where
  pub front : List RolledMessage
  pub behind : IsBehind r.width r.before rows front
  pub is : r.part.octets ≡ messages_octets r.width front ++ drop r.place r.part.octets
  pub place : r.place ≡ length (messages_octets r.width front)

-- the sums of rows
abbrev pub table_of : ℕ → List RolledRow → Table
table_of width rows = record { width = width; sums = sums_of rows }

-- What a reader that has read these rows gives: the rows of the next message, so that it has read these too; or no
-- more, and the file is the rolled file of the rows it has read; or damage at the place where the octets break off.
abbrev pub Gives : Reader → List RolledRow → Result (Option (Vec RolledRow Global)) ReadRefusal → Reader → Type 0
Gives old rows (Ok (Some more)) new = HasRead new (rows ++ more.items)
Gives old rows (Ok None) new = IsRollup old.width old.part.octets (table_of old.width rows)
Gives old rows (Err (Damaged file at)) new = (file ≡ old.part.file) × IsBroken old.width old.part.octets at
Gives old rows (Err Fault) new = Unit {0}
Gives old rows (Err OutOfMemory) new = Unit {0}

-- Damage is reported of this file, at the next message.
abbrev pub IsTold : Reader → ReadRefusal → Type 0
IsTold r (Damaged file at) = (file ≡ r.part.file) × (at ≡ r.place)
IsTold r Fault = Unit {0}
IsTold r OutOfMemory = Unit {0}

-- ---- a file's rows, added to sums

-- with these rows, each under the key of the interval that holds its start
abbrev pub with_rows : List RolledRow → Table → Table
with_rows rows t = with_entries (entries_in rows) t

-- with one row
abbrev pub with_row : RolledRow → Table → Table
with_row r t = with_sums (widened_key t.width r.key) (sums_in r) t

-- the first row of a key has flows
abbrev pub AreCounted : Table → List RolledRow → Type 0
AreCounted t [] = Unit {0}
AreCounted t (r ∷ rs) =
    (get t.sums (widened_key t.width r.key) ≡ None → 0 < r.flows) × AreCounted (with_row r t) rs

-- the octets are the rolled file of a table, and its sums were added
pub record IsAdded (width : ℕ) (octets : List ℕ) (old new : Table) : Type 0 where
  pub table : Table
  pub rollup : IsRollup width octets table
  pub sums : new ≡ with_entries (entries table.sums) old

-- What a refusal says: damage of this file where its octets break off; or that a sum would pass its type.
abbrev pub IsNotAdded : Rollup → ℕ → Table → SumRefusal → Type 0
IsNotAdded part width old (sum.Damaged file at) = (file ≡ part.file) × IsBroken width part.octets at
IsNotAdded part width old sum.SumSpent =
    (t : Table) → IsRollup width part.octets t → AllFit (with_entries (entries t.sums) old) → ⊥
IsNotAdded part width old sum.Fault = Unit {0}
IsNotAdded part width old sum.OutOfMemory = Unit {0}

-- With the rows of messages with which the octets begin, a sum would pass its type.
pub record AreSpent (width : ℕ) (octets : List ℕ) (old : Table) : Type 0 where
  pub front : List RolledMessage
  pub follow : AllFollow width None front
  pub rest : List ℕ
  pub is : octets ≡ messages_octets width front ++ rest
  pub spent : AllFit (with_rows (rows_within front) old) → ⊥

-- a sum that is reported as spent is spent by rows of this file
abbrev pub IsSpentBy : Rollup → ℕ → Table → SumRefusal → Type 0
IsSpentBy part width old (sum.Damaged file at) = Unit {0}
IsSpentBy part width old sum.SumSpent = AreSpent width part.octets old
IsSpentBy part width old sum.Fault = Unit {0}
IsSpentBy part width old sum.OutOfMemory = Unit {0}

-- damage names this file
abbrev pub NamesFile : Rollup → SumRefusal → Type 0
NamesFile part (sum.Damaged file at) = file ≡ part.file
NamesFile part sum.SumSpent = Unit {0}
NamesFile part sum.Fault = Unit {0}
NamesFile part sum.OutOfMemory = Unit {0}

-- ---- a reader's octets, some of them ahead

-- the message before has rows, or there is none
abbrev pub IsEnd : Option State → Type 0
IsEnd None = Unit {0}
IsEnd (Some s) = 0 < s.count

-- the message before is a head
abbrev pub IsBare : Option State → Type 0
IsBare None = ⊥
IsBare (Some s) = s.count ≡ 0

-- a step over the next message, which has these rows
pub record IsOver (old : Cursor) (rows : List RolledRow) (new : Cursor) : Type 0 where
  pub message : RolledMessage
  pub is : old.window.ahead ≡ message_octets old.width message ++ new.window.ahead
  pub whole : IsRolledMessage old.width message
  pub follows : (b : Option RolledMessage) → Stands old.before b → Follows old.width b message
  pub rows_are : rows ≡ message.rows
  pub known : Stands new.before (Some message)
  pub place : new.window.place ≡ old.window.place + length (message_octets old.width message)
  pub width : new.width ≡ old.width
  pub end : new.window.end ≡ old.window.end

-- the octets ahead don't begin with a message that may follow, or the file ends after a head
abbrev pub IsBlocked : Cursor → Type 0
IsBlocked c =
    ((c.window.place < c.window.end) × ((b : Option RolledMessage) → Stands c.before b
    → IsStuck c.width b c.window.ahead))
    ⊎ ((c.window.place ≡ c.window.end) × IsBare c.before)

-- one step over the octets ahead, of the file with this number
abbrev pub Steps : ℕ → Cursor → Result (Option (Vec RolledRow Global)) ReadRefusal → Cursor → Type 0
Steps file old (Ok (Some rows)) new = IsOver old rows.items new
Steps file old (Ok None) new = (old.window.place ≡ old.window.end) × IsEnd old.before × (new ≡ old)
Steps file old (Err (Damaged f at)) new = (f ≡ file) × (at ≡ old.window.place) × IsBlocked old × (new ≡ old)
Steps file old (Err Fault) new = ⊥
Steps file old (Err OutOfMemory) new = new ≡ old
