-- What the messages of a File show of records that aren't read.
use Rattle.std.specs.Prelude.{◌≡◌, ℕ, ◌+◌, ◌%◌, ◌^◌, List, [], ◌∷◌, ◌++◌, length, Option, Some, None, nat_eq}
use Rattle.std.specs.Prelude.{if◌then◌else◌}
use Rattle.flow_codec.specs.declared.losses.Losses.{Losses}
use Rattle.flow_codec.specs.declared.walk.UnreadSets.{UnreadSets}
use Rattle.flow_codec.specs.Cutting.{IsCutOff}
use Rattle.flow_codec.specs.Losses.{both_losses, losses_of, no_losses}
use Rattle.flow_codec.specs.Message.{IsAccepted}
use Rattle.flow_codec.specs.Raw.{RawMessage}
use Rattle.flow_codec.specs.Templates.{AllTemplates}
use Rattle.flow_codec.specs.Unread.{counted, unread_of}

-- a message, and its data Sets without a definition in force
pub record Passed : Type 0 where
  pub message : RawMessage
  pub unread : UnreadSets

-- ---- of messages, the last one first

-- the Sequence Number that is due in a domain after them (RFC 7011, section 3.1): none before its first message
abbrev pub due_after : ℕ → List Passed → Option ℕ
due_after domain [] = None
due_after domain (p ∷ ps) =
    if nat_eq domain p.message.header.domain
    then Some ((p.message.header.sequence + length p.message.records) % 2 ^ 32) else due_after domain ps

-- those of one message, at which a Sequence Number was due
abbrev pub lost_in : Passed → Option ℕ → Losses
lost_in p due = losses_of (record { header = p.message.header; unread = p.unread; replaced = 0 }) due

abbrev pub losses_after : List Passed → Losses
losses_after [] = no_losses
losses_after (p ∷ ps) = both_losses (losses_after ps) (lost_in p (due_after p.message.header.domain ps))

-- their octets, joined in their own order
abbrev pub joined_back : List (List ℕ) → List ℕ
joined_back [] = []
joined_back (o ∷ os) = joined_back os ++ o

-- These octets are these messages, each accepted under the templates of those before it; `here` are those after all.
abbrev pub ArePassed : List (List ℕ) → List Passed → AllTemplates → Type 0
ArePassed [] [] here = here ≡ []
ArePassed [] (p ∷ ps) here = ⊥
ArePassed (o ∷ os) [] here = ⊥
ArePassed (o ∷ os) (p ∷ ps) here =
    (before : AllTemplates) × ArePassed os ps before × IsCutOff o × IsAccepted o before p.message here
    × (p.unread ≡ counted (unread_of before o))

-- ---- of a File

-- the octets are a whole File of accepted messages, and this is what they show
abbrev pub HasLosses : List ℕ → Losses → Type 0
HasLosses octets losses = (parts : List (List ℕ)) × (passed : List Passed) × (here : AllTemplates)
    × (octets ≡ joined_back parts) × ArePassed parts passed here × (losses ≡ losses_after passed)
