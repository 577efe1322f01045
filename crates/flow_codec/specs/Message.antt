-- Which octets are a message (RFC 7011, section 3): by whole divisions, and not by reading.
use Rattle.std.specs.Prelude.{◌≡◌, ◌≢◌, ℕ, ◌+◌, ◌<◌, ◌≤◌, ◌^◌, ◌⊎◌, List, [], ◌∷◌, ◌++◌, length, Option, Some, None}
use Rattle.std.specs.Prelude.{map, Result, Ok, Err}
use Rattle.std.specs.List.{flat_map}
use Rattle.std.specs.Int.{w16, w32, to_be_bytes}
use Rattle.flow_codec.specs.declared.error.MessageError.{MessageError}
use Rattle.flow_codec.specs.declared.error.MessageError.TheVariants.{OutOfMemory}
use Rattle.flow_codec.specs.declared.kind.TemplateKind.{TemplateKind}
use Rattle.flow_codec.specs.declared.templates.TemplateRecord.{TemplateRecord}
use Rattle.flow_codec.specs.declared.message.Header.{Header}
use Rattle.flow_codec.specs.declared.message.Message.{Message}
use Rattle.flow_codec.specs.declared.message.DataRecord.{DataRecord}
use Rattle.flow_codec.specs.Layout.{Layout, smallest, set_id}
use Rattle.flow_codec.specs.Templates.{AllTemplates, applied, definition_of, definitions_of, template, IsTemplateRecord}
use Rattle.flow_codec.specs.Templates.{IsWithinTemplateLimits}
use Rattle.flow_codec.specs.Fields.{fields_in}
use Rattle.flow_codec.specs.Raw.{RawRecord, RawMessage, raw, IsWholeRecord}

-- ---- data records

-- Whole records one after the other, in these octets each. A definition whose smallest record has no octets gives none.
abbrev pub AreRecords : ℕ → Layout → List (List ℕ) → List RawRecord → Type 0
AreRecords id layout [] [] = Unit {0}
AreRecords id layout [] (x ∷ xs) = ⊥
AreRecords id layout (r ∷ rs) [] = ⊥
AreRecords id layout (r ∷ rs) (x ∷ xs) = (0 < smallest layout) × (x ≡ raw id layout r) × IsWholeRecord layout r
    × AreRecords id layout rs xs

-- fewer octets than the smallest record has
abbrev pub IsPadding : Layout → List ℕ → Type 0
IsPadding layout rest = (smallest layout ≡ 0) ⊎ (length rest < smallest layout)

-- ---- template records

-- template records one after the other, in these octets each, and the templates in force after them
abbrev pub AreTemplates : ℕ → TemplateKind → AllTemplates → List (List ℕ) → AllTemplates → Type 0
AreTemplates domain kind before [] after = after ≡ before
AreTemplates domain kind before (r ∷ rs) after =
    (change : TemplateRecord) × IsTemplateRecord kind change × (r ≡ template kind change)
    × AreTemplates domain kind (applied domain kind change before) rs after

-- where a Set of template records ends: fewer than 4 octets are left, or the next ID is 0
abbrev pub IsEnd : List ℕ → Type 0
IsEnd rest = (length rest < 4) ⊎ ((more : List ℕ) × (rest ≡ 0 ∷ 0 ∷ more))

-- ---- Sets

-- a Set divided into its records, each in its octets, and the rest
pub record Division : Type 0 where
  pub id : ℕ
  pub records : List (List ℕ)
  pub rest : List ℕ

abbrev pub joined : List (List ℕ) → List ℕ
joined rs = flat_map (λ r. r) rs

abbrev pub content : Division → List ℕ
content set = joined set.records ++ set.rest

abbrev pub set_octets : Division → List ℕ
set_octets set = to_be_bytes w16 set.id ++ to_be_bytes w16 (4 + length (content set)) ++ content set

-- what the records of a data Set are, under the definition in force; without one there are none
abbrev pub IsData : ℕ → Option Layout → Division → List RawRecord → Type 0
IsData id None set records = (set.records ≡ []) × (records ≡ [])
IsData id (Some layout) set records = AreRecords id layout set.records records × IsPadding layout set.rest

-- what a Set holds, by its ID
pub record IsSet (domain : ℕ) (before : AllTemplates) (set : Division) (records : List RawRecord)
    (after : AllTemplates) : Type 0 where
  pub id : set.id < 2 ^ 16
  pub fits : 4 + length (content set) < 2 ^ 16
  pub templates : (kind : TemplateKind) → set.id ≡ set_id kind
      → (records ≡ []) × AreTemplates domain kind before set.records after × IsEnd set.rest
  pub other : set.id ≢ 2 → set.id ≢ 3 → set.id < 256 → (records ≡ []) × (set.records ≡ []) × (after ≡ before)
  pub «data» : 256 ≤ set.id → IsData set.id (definition_of set.id (definitions_of domain before)) set records
      × (after ≡ before)

-- Sets one after the other, each under the templates of those before
abbrev pub AreSets : ℕ → AllTemplates → List Division → List RawRecord → AllTemplates → Type 0
AreSets domain before [] records after = (records ≡ []) × (after ≡ before)
AreSets domain before (s ∷ ss) records after =
    (first : List RawRecord) × (others : List RawRecord) × (next : AllTemplates) × IsSet domain before s first next
    × AreSets domain next ss others after × (records ≡ first ++ others)

-- ---- the message

abbrev pub header_octets : Header → List ℕ
header_octets h = to_be_bytes w16 10 ++ to_be_bytes w16 h.length ++ to_be_bytes w32 h.time ++ to_be_bytes w32
    h.sequence ++ to_be_bytes w32 h.domain

pub record HeaderFits (h : Header) : Type 0 where
  pub len : h.length < 2 ^ 16
  pub time : h.time < 2 ^ 32
  pub sequence : h.sequence < 2 ^ 32
  pub domain : h.domain < 2 ^ 32

-- the octets are this header, whose Length counts them all, then Sets, then `tail` at the place `at`
pub record Front (octets : List ℕ) (before : AllTemplates) (header : Header) (records : List RawRecord)
    (here : AllTemplates) (at : ℕ) (tail : List ℕ) : Type 0 where
  pub sets : List Division
  pub parts : octets ≡ header_octets header ++ flat_map set_octets sets ++ tail
  pub len : header.length ≡ length octets
  pub place : at + length tail ≡ length octets
  pub fits : HeaderFits header
  pub hold : AreSets header.domain before sets records here

-- a message: a header and Sets that fill its Length
abbrev pub IsMessage : List ℕ → AllTemplates → RawMessage → AllTemplates → Type 0
IsMessage octets before message after = Front octets before message.header message.records after (length octets) []

-- a message that leaves the templates within their limits: what is accepted
abbrev pub IsAccepted : List ℕ → AllTemplates → RawMessage → AllTemplates → Type 0
IsAccepted octets before message after =
    IsMessage octets before message after × IsWithinTemplateLimits message.header.domain after

-- ---- a message in fields

abbrev pub interpreted : RawRecord → DataRecord
interpreted r = record { template = r.id; options = r.layout.options; fields = fields_in r.layout.fields r.octets }

abbrev pub in_fields : RawMessage → Message
in_fields m = record { header = m.header; records = map interpreted m.records }

-- ---- what the calls answer

-- The call answered this message in fields and left these templates, unless memory ran out.
abbrev pub IsRead : Result Message MessageError → AllTemplates → RawMessage → AllTemplates → Type 0
IsRead (Ok n) now m after = (n ≡ in_fields m) × (now ≡ after)
IsRead (Err e) now m after = e ≡ OutOfMemory
