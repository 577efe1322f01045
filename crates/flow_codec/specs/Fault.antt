-- The first fault of octets that aren't an accepted message: it is in the header, or after the header and whole Sets,
-- or is a limit.
use Rattle.std.specs.Prelude.{◌≡◌, ◌≢◌, ℕ, ◌+◌, ◌<◌, ◌≤◌, ◌^◌, ◌⊎◌, List, [], ◌∷◌, ◌++◌, length, take, Some}
use Rattle.std.specs.Prelude.{slice_index_or}
use Rattle.std.specs.List.{AllByRecursion}
use Rattle.std.specs.Int.{w16, to_be_bytes, from_be_bytes}
use Rattle.flow_elements.specs.declared.element.ElementId.{ElementId}
use Rattle.flow_codec.specs.declared.error.MessageError.{MessageError}
use Rattle.flow_codec.specs.declared.error.MessageError.TheVariants.{Short, Version, Length, SetLength, TemplateCut}
use Rattle.flow_codec.specs.declared.error.MessageError.TheVariants.{TemplateId, ScopeCount, RecordCut, TemplatesFull}
use Rattle.flow_codec.specs.declared.error.MessageError.TheVariants.{DomainsFull}
use Rattle.flow_codec.specs.declared.kind.TemplateKind.{TemplateKind}
use Rattle.flow_codec.specs.declared.kind.TemplateKind.TheVariants.{Plain, Options}
use Rattle.flow_codec.specs.declared.message.Header.{Header}
use Rattle.flow_codec.specs.declared.message.Field.{Field}
use Rattle.flow_codec.specs.Layout.{Layout, IsSpecifier, specifiers, set_id, smallest}
use Rattle.flow_codec.specs.Templates.{AllTemplates, scope_octets, definition_of, definitions_of, domain_size}
use Rattle.flow_codec.specs.Fields.{AreFields}
use Rattle.flow_codec.specs.Raw.{RawRecord, RawMessage}
use Rattle.flow_codec.specs.Message.{AreRecords, AreTemplates, IsEnd, Division, joined, content, set_octets, Front}
use Rattle.flow_codec.specs.Message.{IsMessage, IsAccepted}

-- what is wrong with the header
abbrev pub IsHeaderFault : List ℕ → MessageError → Type 0
IsHeaderFault octets fault =
    ((length octets < 16) × (fault ≡ Short))
    ⊎ ((16 ≤ length octets) × ((rest : List ℕ) → octets ≢ to_be_bytes w16 10 ++ rest) × (fault ≡ Version))
    ⊎ ((16 ≤ length octets) × (len : ℕ) × (rest : List ℕ)
    × (octets ≡ to_be_bytes w16 10 ++ to_be_bytes w16 len ++ rest) × (len < 2 ^ 16) × (len ≢ length octets)
    × (fault ≡ Length))

-- a field specifier that passes the end of the octets
abbrev pub IsCutSpecifier : List ℕ → Type 0
IsCutSpecifier octets = (length octets < 4) ⊎ ((32768 ≤ from_be_bytes w16 (take 2 octets)) × (length octets < 8))

-- the Scope Field Counts that a template record of this kind and Field Count may have
abbrev pub IsScopeOf : TemplateKind → ℕ → ℕ → Type 0
IsScopeOf Plain scope count = scope ≡ 0
IsScopeOf Options scope count = (0 < scope) × (scope ≤ count) × (scope < 2 ^ 16)

-- what is wrong after the ID and the Field Count of a definition
abbrev pub IsDefinitionFault : TemplateKind → ℕ → ℕ → List ℕ → MessageError → Type 0
IsDefinitionFault kind at count rest fault =
    ((kind ≡ Options) × (length rest < 2) × (fault ≡ TemplateCut at))
    ⊎ ((kind ≡ Options) × (scope : ℕ) × (more : List ℕ) × (rest ≡ to_be_bytes w16 scope ++ more) × (scope < 2 ^ 16)
    × ((scope ≡ 0) ⊎ (count < scope)) × (fault ≡ ScopeCount at))
    ⊎ ((layout : Layout) × IsScopeOf kind layout.scope count × (tail : List ℕ)
    × (rest ≡ scope_octets kind layout ++ specifiers layout.fields ++ tail)
    × AllByRecursion IsSpecifier layout.fields × (length layout.fields < count) × IsCutSpecifier tail
    × (fault ≡ TemplateCut at))

-- what is wrong with the template record that these octets begin with; they end where their Set ends
abbrev pub IsTemplateFault : TemplateKind → ℕ → List ℕ → MessageError → Type 0
IsTemplateFault kind at octets fault =
    (id : ℕ) × (count : ℕ) × (rest : List ℕ) × (octets ≡ to_be_bytes w16 id ++ to_be_bytes w16 count ++ rest)
    × (id < 2 ^ 16) × (count < 2 ^ 16) × (0 < id)
    × (((id < 256) × ((id ≢ set_id kind) ⊎ (0 < count)) × (fault ≡ TemplateId at))
    ⊎ ((256 ≤ id) × (0 < count) × IsDefinitionFault kind at count rest fault))

-- a field that passes the end of its Set
abbrev pub IsCutField : ℕ → List ℕ → Type 0
IsCutField len tail =
    ((len ≢ 65535) × (length tail < len))
    ⊎ ((len ≡ 65535) × ((tail ≡ [])
    ⊎ ((n : ℕ) × (more : List ℕ) × (tail ≡ n ∷ more) × (n < 255) × (length more < n))
    ⊎ ((more : List ℕ) × (tail ≡ 255 ∷ more) × (length more < 2))
    ⊎ ((n : ℕ) × (more : List ℕ) × (tail ≡ 255 ∷ to_be_bytes w16 n ++ more) × (n < 2 ^ 16) × (length more < n))))

-- a data record of which a field is cut, where the smallest record would fit
abbrev pub IsCutRecord : Layout → List ℕ → Type 0
IsCutRecord layout octets =
    (smallest layout ≤ length octets) × (0 < smallest layout)
    × (front : List (ElementId × ℕ)) × (f : ElementId × ℕ) × (back : List (ElementId × ℕ))
    × (layout.fields ≡ front ++ f ∷ back)
    × (first : List ℕ) × (tail : List ℕ) × (fields : List Field) × (octets ≡ first ++ tail)
    × AreFields front first fields × IsCutField f.1 tail

-- what is wrong with the Set that begins at `at`: its Length, or the first record that isn't whole
abbrev pub IsSetFault : ℕ → AllTemplates → ℕ → List ℕ → MessageError → Type 0
IsSetFault domain before at octets fault =
    ((0 < length octets)
    × ((length octets < 4)
    ⊎ ((id : ℕ) × (len : ℕ) × (rest : List ℕ) × (octets ≡ to_be_bytes w16 id ++ to_be_bytes w16 len ++ rest)
    × (id < 2 ^ 16) × (len < 2 ^ 16) × ((len < 4) ⊎ (length octets < len))))
    × (fault ≡ SetLength at))
    ⊎ ((set : Division) × (more : List ℕ) × (octets ≡ set_octets set ++ more) × (set.id < 2 ^ 16)
    × (4 + length (content set) < 2 ^ 16)
    × (((kind : TemplateKind) × (set.id ≡ set_id kind) × (next : AllTemplates)
    × AreTemplates domain kind before set.records next × (IsEnd set.rest → ⊥)
    × IsTemplateFault kind (at + 4 + length (joined set.records)) set.rest fault)
    ⊎ ((256 ≤ set.id) × (layout : Layout) × (definition_of set.id (definitions_of domain before) ≡ Some layout)
    × (records : List RawRecord)
    × AreRecords set.id layout set.records records × IsCutRecord layout set.rest
    × (fault ≡ RecordCut (at + 4 + length (joined set.records))))))

-- a message whose templates pass a limit: that of its own domain first, then that on domains
abbrev pub IsTooMuch : List ℕ → AllTemplates → MessageError → Type 0
IsTooMuch octets before fault =
    (message : RawMessage) × (after : AllTemplates) × IsMessage octets before message after
    × (((60000 < domain_size (definitions_of message.header.domain after))
    × (fault ≡ TemplatesFull message.header.domain))
    ⊎ ((domain_size (definitions_of message.header.domain after) ≤ 60000) × (64 < length after)
    × (fault ≡ DomainsFull)))

-- the first fault of these octets
abbrev pub IsFault : List ℕ → AllTemplates → MessageError → Type 0
IsFault octets before fault =
    IsHeaderFault octets fault
    ⊎ ((header : Header) × (records : List RawRecord) × (here : AllTemplates) × (at : ℕ) × (tail : List ℕ)
    × Front octets before header records here at tail × IsSetFault header.domain here at tail fault)
    ⊎ IsTooMuch octets before fault

abbrev pub IsOctets : List ℕ → Type 0
IsOctets octets = (i : ℕ) → slice_index_or octets i 0 < 256

-- the octets are accepted, or have a fault
abbrev pub IsAnswered : List ℕ → AllTemplates → Type 0
IsAnswered octets before = ((m : RawMessage) × (after : AllTemplates) × IsAccepted octets before m after)
    ⊎ ((fault : MessageError) × IsFault octets before fault)
