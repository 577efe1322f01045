-- What a segment passes to the next one, and the messages that restate it.
use Rattle.std.specs.Prelude.{◌≡◌, ◌≢◌, ℕ, ◌+◌, ◌%◌, ◌<◌, ◌^◌, List, [], ◌∷◌, ◌++◌, length, map, nat_eq, Bool, true}
use Rattle.std.specs.Prelude.{false, Some}
use Rattle.std.specs.Prelude.{if◌then◌else◌, Result, Ok, Err}
use Rattle.std.specs.List.{AllByRecursion}
use Rattle.std.specs.Map.{lookup}
use Rattle.flow_codec.specs.declared.error.MessageError.{MessageError}
use Rattle.flow_codec.specs.declared.error.MessageError.TheVariants.{OutOfMemory}
use Rattle.flow_codec.specs.declared.message.Header.{Header}
use Rattle.flow_codec.specs.declared.templates.DomainTemplates.{DomainTemplates}
use Rattle.flow_codec.specs.Templates.{AllTemplates, AreTemplatesInForce}
use Rattle.flow_codec.specs.Raw.{RawMessage, RawRecord}
use Rattle.flow_codec.specs.Message.{joined, IsAccepted}
use Rattle.flow_codec.specs.Prefix.{due_in, prefix_message, prefix_read, prefix_messages, prefix_octets, AreDomains}
use Rattle.flow_codec.specs.Prefix.{AreNumbers}
use Rattle.flow_measure.specs.History.{Accepted, AreAcceptedFrom, templates_from}

-- The templates in force, the next sequence number of each domain that has some, in their order, and the Export Time of
-- the last message.
pub record Carry : Type 0 where
  pub templates : AllTemplates
  pub due : List (ℕ × ℕ)
  pub time : ℕ

-- numbers for the domains of these templates, in their order
abbrev pub numbered : (ℕ → ℕ) → AllTemplates → List (ℕ × ℕ)
numbered number all = map (λ e. (e.0, number e.0)) all

-- a carry of templates, and of numbers in whatever order
abbrev pub kept_as : AllTemplates → List (ℕ × ℕ) → ℕ → Carry
kept_as all due time = record { templates = all; due = numbered (due_in due) all; time = time }

abbrev pub no_carry : ℕ → Carry
no_carry time = record { templates = []; due = []; time = time }

-- the next sequence number after a message (RFC 7011, section 3.1): it counts data records, those of Options Templates
-- too
abbrev pub due_after : RawMessage → ℕ
due_after m = (m.header.sequence + length m.records) % 2 ^ 32

-- One accepted message more: its own domain's number is the one after it, other domains keep theirs, and those without
-- definitions have none.
abbrev pub carry_with : Carry → Accepted → Carry
carry_with c a = record {
  templates = a.after;
  due = numbered (λ d. if nat_eq d a.message.header.domain then due_after a.message else due_in c.due d) a.after;
  time = a.message.header.time;
}

abbrev pub carry_from : Carry → List Accepted → Carry
carry_from c [] = c
carry_from c (a ∷ more) = carry_from (carry_with c a) more

-- what messages pass on, read from nothing
abbrev pub carry_of : List Accepted → Carry
carry_of messages = carry_from (no_carry 0) messages

-- the prefix of the next segment
abbrev pub prefix_of : Carry → List ℕ
prefix_of c = prefix_octets c.time c.due c.templates

-- what holds of a carry after accepted messages
pub record IsCarry (c : Carry) : Type 0 where
  pub templates : AreTemplatesInForce c.templates
  pub domains : AreDomains c.templates
  pub due : map (λ e. e.0) c.due ≡ map (λ e. e.0) c.templates
  pub numbers : AreNumbers c.due
  pub time : c.time < 2 ^ 32

-- ---- a prefix that is read

-- the messages of the prefix that restate these templates, one for each domain, after those of `front`
abbrev pub restated_from : ℕ → List (ℕ × ℕ) → AllTemplates → AllTemplates → List Accepted
restated_from time due front [] = []
restated_from time due front (e ∷ es) =
    record {
      octets = prefix_message time (due_in due e.0) e;
      message = prefix_read time (due_in due e.0) e;
      after = front ++ e ∷ [];
    } ∷ restated_from time due (front ++ e ∷ []) es

abbrev pub restated : Carry → List Accepted
restated c = restated_from c.time c.due [] c.templates

-- The prefix, read from no templates, is accepted messages without data records that leave just these templates and
-- pass on the same again.
pub record IsReadBack (c : Carry) (messages : List Accepted) : Type 0 where
  pub octets : map (λ a. a.octets) messages ≡ prefix_messages c.time c.due c.templates
  pub accepted : AreAcceptedFrom [] messages
  pub none : AllByRecursion (λ a. a.message.records ≡ []) messages
  pub templates : templates_from [] messages ≡ c.templates
  pub again : carry_from (no_carry c.time) messages ≡ c

abbrev pub octets_of : List Accepted → List (List ℕ)
octets_of messages = map (λ a. a.octets) messages

-- the octets of a sealed segment: its prefix, and the messages that were appended
abbrev pub segment_octets : Carry → List Accepted → List ℕ
segment_octets c messages = prefix_of c ++ joined (octets_of messages)

-- ---- what `take` answers

-- The octets are a message accepted after the old carry, and the new one is that after it.
abbrev pub IsTaken : List ℕ → Carry → Carry → Type 0
IsTaken octets old new =
    (a : Accepted) × (a.octets ≡ octets) × IsAccepted octets old.templates a.message a.after × (new ≡ carry_with old a)

-- the same, and whether the message has no data records
abbrev pub IsTakenAs : Bool → List ℕ → Carry → Carry → Type 0
IsTakenAs true octets old new = (a : Accepted) × (a.octets ≡ octets)
    × IsAccepted octets old.templates a.message a.after × (new ≡ carry_with old a) × (a.message.records ≡ [])
IsTakenAs false octets old new = (a : Accepted) × (a.octets ≡ octets)
    × IsAccepted octets old.templates a.message a.after × (new ≡ carry_with old a) × (a.message.records ≢ [])

-- this message is taken in, unless memory runs out
abbrev pub TakesOnly : {X : Type 0} → Accepted → Carry → Carry → Result X MessageError → Type 0
TakesOnly a old new (Ok x) = new ≡ carry_with old a
TakesOnly a old new (Err e) = e ≡ OutOfMemory

-- A walk that counts data records: an accepted message with this header, and so many records modulo 2^32.
abbrev pub IsCounted : List ℕ → AllTemplates → AllTemplates → Header → ℕ → Type 0
IsCounted octets before after header count =
    (records : List RawRecord) × IsAccepted octets before (record { header = header; records = records }) after
    × ((sequence : ℕ) → (sequence + count) % 2 ^ 32 ≡ (sequence + length records) % 2 ^ 32)

-- the numbers that are kept after a message: those of before, but for its own domain's
pub record AreNext (domain number : ℕ) (after : AllTemplates) (old new : List (ℕ × ℕ)) : Type 0 where
  pub own : (v : DomainTemplates) → lookup (nat_eq domain) after ≡ Some v → due_in new domain ≡ number
  pub others : (q : ℕ) → nat_eq q domain ≡ false → due_in new q ≡ due_in old q
