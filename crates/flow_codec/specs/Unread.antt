-- Data Sets without a definition in force, which are passed over.
use Rattle.std.specs.Prelude.{◌≡◌, ℕ, zero, suc, ◌-◌, Bool, nat_le, ◌&&◌, not, List, [], ◌∷◌, ◌++◌, length, is_some}
use Rattle.std.specs.Prelude.{Result, Ok, Err, if◌then◌else◌}
use Rattle.std.specs.List.{flat_map}
use Rattle.flow_codec.specs.declared.error.MessageError.{MessageError}
use Rattle.flow_codec.specs.declared.message.Header.{Header}
use Rattle.flow_codec.specs.declared.walk.UnreadSets.{UnreadSets}
use Rattle.flow_codec.specs.declared.walk.Walked.{Walked}
use Rattle.flow_codec.specs.Raw.{RawRecord}
use Rattle.flow_codec.specs.Templates.{AllTemplates, definition_of, definitions_of}
use Rattle.flow_codec.specs.Message.{Division, set_octets, content, IsSet}
use Rattle.flow_codec.specs.Reading.{set_at, content_at, header_at}

-- of what a walk gives, the header
abbrev pub header_in : {E : Type 0} → Result Walked E → Result Header E
header_in (Ok walked) = Ok walked.header
header_in (Err e) = Err e

-- how many Sets, and their octets, with their headers
abbrev pub counted : List Division → UnreadSets
counted sets = record { sets = length sets; octets = length (flat_map set_octets sets) }

-- whether Sets of this ID are data Sets without a definition in force
abbrev pub is_unread : ℕ → AllTemplates → ℕ → Bool
is_unread domain all id = nat_le 256 id && not (is_some (definition_of id (definitions_of domain all)))

-- the Set of this ID and content, where it is one
abbrev pub unread_in : ℕ → AllTemplates → ℕ → List ℕ → List Division
unread_in domain all id content =
    if is_unread domain all id then record { id = id; records = []; rest = content } ∷ [] else []

-- ---- by reading

-- what comes of what was read; nothing where reading failed
abbrev pub or_none : {A : Type 0} → Result A MessageError → (A → List Division) → List Division
or_none (Ok x) next = next x
or_none (Err e) next = []

-- of Sets one after the other, each under the templates of those before; the last one ends at `end`
unfoldable pub unread_at : ℕ → ℕ → ℕ → AllTemplates → List ℕ → List Division
unread_at zero end domain all octets = []
unread_at (suc n) end domain all octets = or_none (set_at (end - length octets) octets) λ set. or_none
    (content_at (end - length set.2) domain set.0 all set.1) λ first.
    unread_in domain all set.0 set.1 ++ unread_at n end domain first.1 set.2

-- the data Sets of a message without a definition in force
unfoldable pub unread_of : AllTemplates → List ℕ → List Division
unread_of before octets = or_none (header_at octets) λ header.
    unread_at (length header.1) (length octets) header.0.domain before header.1

-- ---- by the Sets of a division

-- those of these Sets, each under the templates of the Sets before it
abbrev pub AreUnread : ℕ → AllTemplates → List Division → List Division → Type 0
AreUnread domain before [] unread = unread ≡ []
AreUnread domain before (s ∷ ss) unread =
    (records : List RawRecord) × (next : AllTemplates) × (others : List Division) × IsSet domain before s records next
    × AreUnread domain next ss others × (unread ≡ unread_in domain before s.id (content s) ++ others)
