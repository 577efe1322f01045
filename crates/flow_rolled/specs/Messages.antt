-- The messages of a rolled file, as data.
use Rattle.std.specs.Prelude.{◌≡◌, ℕ, zero, suc, ◌+◌, ◌*◌, ◌%◌, ◌<◌, ◌≤◌, ◌^◌, ◌==◌, ◌⊎◌}
use Rattle.std.specs.Prelude.{List, [], ◌∷◌, ◌++◌, length, drop, Option, Some, None, if◌then◌else◌}
use Rattle.std.specs.List.{AllByRecursion}
use Rattle.flow_rolled.specs.declared.row.RolledRow.{RolledRow}
use Rattle.flow_rolled.specs.Rows.{AreRows}

-- a message: the head of its domain, where it has no rows
pub record RolledMessage : Type 0 where
  pub time : ℕ
  pub sequence : ℕ
  pub domain : ℕ
  pub rows : List RolledRow

-- the data records of a message: a head has two
abbrev pub record_count : List RolledRow → ℕ
record_count [] = 2
record_count (r ∷ rs) = length (r ∷ rs)

-- the sequence number that the next message of its domain has
abbrev pub due : RolledMessage → ℕ
due p = (p.sequence + record_count p.rows) % 2 ^ 32

-- the first rows, as long as they are of this domain, up to so many
unfoldable pub group : ℕ → ℕ → List RolledRow → List RolledRow
group zero domain rows = []
group (suc n) domain [] = []
group (suc n) domain (r ∷ rs) = if r.key.domain == domain then r ∷ group n domain rs else []

abbrev pub head : ℕ → ℕ → RolledMessage
head time domain = record { time = time; sequence = 0; domain = domain; rows = [] }

-- after a message of the next row's domain, up to 1,000 rows of this domain; else its head
abbrev pub message_after : ℕ → Option RolledMessage → RolledRow → List RolledRow → RolledMessage
message_after time None r rs = head time r.key.domain
message_after time (Some before) r rs = if r.key.domain ==
    before.domain then record {
      time = time;
      sequence = due before;
      domain = before.domain;
      rows =
          group 1000 before.domain (r ∷ rs);
    } else head time r.key.domain

-- message by message, as long as rows are left
unfoldable pub messages_from : ℕ → ℕ → Option RolledMessage → List RolledRow → List RolledMessage
messages_from zero time before rows = []
messages_from (suc n) time before [] = []
messages_from (suc n) time before (r ∷ rs) = let p = message_after time before r rs in
    p ∷ messages_from n time (Some p) (drop (length p.rows) (r ∷ rs))

-- the messages of rows: a head and a message for each row at most
abbrev pub messages_with : ℕ → List RolledRow → List RolledMessage
messages_with time rows = messages_from (2 * length rows) time None rows

-- ---- how one message follows another

abbrev pub last_from : Option RolledRow → List RolledRow → Option RolledRow
last_from before [] = before
last_from before (r ∷ rs) = last_from (Some r) rs

pub record IsHead (p : RolledMessage) : Type 0 where
  pub rows : p.rows ≡ []
  pub sequence : p.sequence ≡ 0
  pub time : p.time < 2 ^ 32
  pub domain : p.domain < 2 ^ 32

-- the head of another domain, after rows
pub record HeadFollows (before p : RolledMessage) : Type 0 where
  pub head : IsHead p
  pub time : p.time ≡ before.time
  pub rows : 0 < length before.rows
  pub domain : before.domain < p.domain

-- rows of the domain, after its head or a full message
pub record RowsFollow (width : ℕ) (before p : RolledMessage) : Type 0 where
  pub time : p.time ≡ before.time
  pub room : (length before.rows ≡ 0) ⊎ (length before.rows ≡ 1000)
  pub sequence : p.sequence ≡ due before
  pub domain : p.domain ≡ before.domain
  pub some : 0 < length p.rows
  pub few : length p.rows ≤ 1000
  pub own : AllByRecursion (λ r. r.key.domain ≡ p.domain) p.rows
  pub order : AreRows width (last_from None before.rows) p.rows

abbrev pub Follows : ℕ → Option RolledMessage → RolledMessage → Type 0
Follows width None p = IsHead p
Follows width (Some before) p = HeadFollows before p ⊎ RowsFollow width before p

abbrev pub AllFollow : ℕ → Option RolledMessage → List RolledMessage → Type 0
AllFollow width before [] = Unit {0}
AllFollow width before (p ∷ ps) = Follows width before p × AllFollow width (Some p) ps

-- the last message isn't a head
abbrev pub IsDone : Option RolledMessage → Type 0
IsDone None = Unit {0}
IsDone (Some p) = 0 < length p.rows

abbrev pub EndsWell : Option RolledMessage → List RolledMessage → Type 0
EndsWell before [] = IsDone before
EndsWell before (p ∷ ps) = EndsWell (Some p) ps

-- the last of further messages, if there are any
abbrev pub last_message : Option RolledMessage → List RolledMessage → Option RolledMessage
last_message before [] = before
last_message before (p ∷ ps) = last_message (Some p) ps

-- all rows of messages
abbrev pub rows_within : List RolledMessage → List RolledRow
rows_within [] = []
rows_within (p ∷ ps) = p.rows ++ rows_within ps
