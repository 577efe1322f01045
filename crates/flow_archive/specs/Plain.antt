-- The history of a plain archive, and what its calls answer.
use Rattle.std.specs.Prelude.{◌≡◌, ℕ, ◌*◌, ◌-◌, ◌<◌, ◌≤◌, List, [], ◌∷◌, ◌++◌, length}
use Rattle.std.specs.List.{AllByRecursion}
use Rattle.flow_manifest.specs.Limits.{too_many_messages}
use Rattle.flow_codec.specs.declared.error.MessageError.{MessageError}
use Rattle.flow_codec.specs.declared.error.MessageError.TheVariants as message
use Rattle.flow_codec.specs.Fault.{IsFault}
use Rattle.flow_codec.specs.Message.{IsAccepted}
use Rattle.flow_codec.specs.Raw.{RawMessage}
use Rattle.flow_codec.specs.Templates.{AllTemplates}
use Rattle.flow_measure.specs.Flows.{FlowFits}
use Rattle.flow_measure.specs.History.{Accepted, AreAcceptedFrom, History, flows_in, read_from, templates_of}
use Rattle.flow_measure.specs.Sums.{Table, table_of}
use Rattle.flow_archive.specs.declared.error.PlainError.{PlainError}
use Rattle.flow_archive.specs.declared.error.PlainError.TheVariants.{Message, NumbersSpent, OutOfMemory}

-- ---- its history

-- an archive without messages: nothing is cut off, and all sums have one width
abbrev pub no_messages : ℕ → History
no_messages width = record { all = []; second = 0; cut = 0; width = width; wide = width }

abbrev pub with_message : Accepted → History → History
with_message a h = record h { all = h.all ++ a ∷ [] }

abbrev pub history_of : ℕ → List (List ℕ) → History
history_of width messages = record (no_messages width) { all = read_from [] messages }

-- Each of these messages is accepted; beside them are the templates after them and the sums of all their flows.
pub record IsKept (messages : List (List ℕ)) (here : AllTemplates) (rows : Table) : Type 0 where
  pub read : length (read_from [] messages) ≡ length messages
  pub accepted : AreAcceptedFrom [] (read_from [] messages)
  pub numbers : length messages ≤ too_many_messages - 1
  pub templates : here ≡ templates_of (read_from [] messages)
  pub width : 0 < rows.width
  pub sums : rows ≡ table_of rows.width (flows_in (read_from [] messages))
  pub few : length (flows_in (read_from [] messages)) ≤ 65536 * length messages
  pub fit : AllByRecursion FlowFits (flows_in (read_from [] messages))

-- ---- what an append answers

-- the octets are an accepted message after those of the history, which now ends with it and has so many
abbrev pub IsAppended : ℕ → List ℕ → History → History → Type 0
IsAppended position octets old new =
    (a : Accepted) × (a.octets ≡ octets) × IsAccepted octets (templates_of old.all) a.message a.after
    × (new ≡ with_message a old) × (position ≡ length new.all)

-- what a refusal says of octets after a history
abbrev pub IsRefusal : PlainError → List ℕ → History → Type 0
IsRefusal (Message fault) octets h = IsFault octets (templates_of h.all) fault
IsRefusal NumbersSpent octets h =
    (length h.all ≡ too_many_messages - 1)
    × ((m : RawMessage) × (after : AllTemplates) × IsAccepted octets (templates_of h.all) m after)
IsRefusal OutOfMemory octets h = Unit {0}

-- ---- the fault of a message, as a refusal

abbrev pub fault_refusal : MessageError → PlainError
fault_refusal message.OutOfMemory = OutOfMemory
fault_refusal fault = Message fault
