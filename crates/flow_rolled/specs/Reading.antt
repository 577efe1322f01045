-- Messages as they are read.
use Rattle.std.specs.Prelude.{◌≡◌, ◌≢◌, ℕ, ◌<◌, ◌^◌, List, ◌++◌, length, Option, Some, None, Result, Ok, Err}
use Rattle.flow_measure.specs.Sums.{Table}
use Rattle.flow_rolled.specs.declared.message.Message.{Message}
use Rattle.flow_rolled.specs.declared.message.State.{State}
use Rattle.flow_rolled.specs.declared.error.RolledError.{RolledError}
use Rattle.flow_rolled.specs.declared.error.RolledError.TheVariants.{NotRolled, OutOfMemory}
use Rattle.flow_rolled.specs.Messages.{RolledMessage, due, last_from, Follows}
use Rattle.flow_rolled.specs.Octets.{message_octets}
use Rattle.flow_rolled.specs.Rollup.{IsBroken}

-- a message as data
abbrev pub data_of : Message → RolledMessage
data_of m = record { time = m.time; sequence = m.sequence; domain = m.domain; rows = m.rows.items }

-- what is known of the message before
pub record Knows (s : State) (p : RolledMessage) : Type 0 where
  pub time : s.time ≡ p.time
  pub domain : s.domain ≡ p.domain
  pub due_is : s.due ≡ due p
  pub count : s.count ≡ length p.rows
  pub last : s.last ≡ last_from None p.rows
  pub small_time : p.time < 2 ^ 32
  pub small_domain : p.domain < 2 ^ 32

abbrev pub Stands : Option State → Option RolledMessage → Type 0
Stands None None = Unit {0}
Stands None (Some p) = ⊥
Stands (Some s) None = ⊥
Stands (Some s) (Some p) = Knows s p

-- the octets don't begin with a message that may follow
abbrev pub IsStuck : ℕ → Option RolledMessage → List ℕ → Type 0
IsStuck w b rest = (p : RolledMessage) (more : List ℕ) → Follows w b p → rest ≢ message_octets w p ++ more

-- what a refusal says
abbrev pub IsRefused : RolledError → ℕ → List ℕ → Type 0
IsRefused (NotRolled at) width octets = IsBroken width octets at
IsRefused OutOfMemory width octets = Unit {0}

-- this table is read, unless memory ran out
abbrev pub IsDecoded : Result Table RolledError → Table → Type 0
IsDecoded (Ok rows) table = rows ≡ table
IsDecoded (Err (NotRolled at)) table = ⊥
IsDecoded (Err OutOfMemory) table = Unit {0}
