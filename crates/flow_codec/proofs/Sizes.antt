-- A message has fewer data records than octets, and changes the templates of its own domain alone.
use Rattle.std.proofs.Common.{◌≡◌, ◌≢◌, ℕ, ◌+◌, ◌^◌, ◌<◌, ◌≤◌, List, [], ◌∷◌, ◌++◌, length, Option, Some, None, ap, ◌∙◌}
use Rattle.std.proofs.Common.{arith, inl, inr}
use Rattle.std.proofs.lemmas.Bool.{cases_lt}
use Rattle.std.proofs.lemmas.List.{length-append}
use Rattle.std.proofs.lemmas.List.Concat.{flat_map-cons}
use Rattle.flow_codec.specs.declared.kind.TemplateKind.{TemplateKind}
use Rattle.flow_codec.specs.Layout.{Layout}
use Rattle.flow_codec.specs.Templates.{AllTemplates, applied, definition_of, definitions_of}
use Rattle.flow_codec.specs.Raw.{RawRecord, RawMessage}
use Rattle.flow_codec.specs.Message.{AreRecords, AreTemplates, IsData, Division, content, set_octets, joined, IsSet}
use Rattle.flow_codec.specs.Message.{AreSets, header_octets, IsMessage}
use Rattle.flow_codec.proofs.RecordLaws.{whole_long}
use Rattle.flow_codec.proofs.SetLaws.{all_octets, by_kind}
use Rattle.flow_codec.proofs.ChangeLaws.{other_domain}

-- ---- records

few : (id : ℕ) (layout : Layout) (rs : List (List ℕ)) (xs : List RawRecord) → AreRecords id layout rs xs
    → length xs ≤ length (joined rs)
few id layout [] [] h = omega arith
few id layout [] (x ∷ xs) h = absurd h
few id layout (r ∷ rs) [] h = absurd h
few id layout (r ∷ rs) (x ∷ xs) h =
    let more = few id layout rs xs h.3 in
    let size : length (joined (r ∷ rs)) ≡ length r + length (joined rs) = ap length (flat_map-cons (λ r. r) r rs)
    ∙ length-append r (joined rs) in
    omega (arith, h.0, whole_long layout r h.2)

few_of : (id : ℕ) (definition : Option Layout) (set : Division) (xs : List RawRecord) → IsData id definition set xs
    → length xs ≤ length (content set)
few_of id None set xs h = rw h.1 (omega arith)
few_of id (Some layout) set xs h =
    omega (arith, few id layout set.records xs h.0, length-append (joined set.records) set.rest)

none_in : (set : Division) (xs : List RawRecord) → xs ≡ [] → length xs ≤ length (content set)
none_in set xs none = rw none (omega arith)

few_in : (domain : ℕ) (before : AllTemplates) (set : Division) (xs : List RawRecord) (after : AllTemplates)
    → IsSet domain before set xs after → length xs ≤ length (content set)
few_in domain before set xs after h = elim (by_kind set.id) [
  | inl k ↦ none_in set xs (h.templates k.0 k.1).0
  | inr k ↦ elim (cases_lt set.id 256) [
    | inl small ↦ none_in set xs (h.other k.0 k.1 small).0
    | inr large ↦ few_of set.id (definition_of set.id (definitions_of domain before)) set xs (h.«data» large).0
  ]
]

few_in_sets : (domain : ℕ) (before : AllTemplates) (sets : List Division) (xs : List RawRecord) (after : AllTemplates)
    → AreSets domain before sets xs after → length xs ≤ length (all_octets sets)
few_in_sets domain before [] xs after h = rw h.0 (omega arith)
few_in_sets domain before (s ∷ ss) xs after h =
    let first = few_in domain before s h.0 h.2 h.3 in
    let more = few_in_sets domain h.2 ss h.1 after h.4 in
    let size : length (all_octets (s ∷ ss)) ≡ length (set_octets s) + length (all_octets ss) =
    ap length (flat_map-cons set_octets s ss) ∙ length-append (set_octets s) (all_octets ss) in
    let both : length xs ≡ length h.0 + length h.1 = ap length h.5 ∙ length-append h.0 h.1 in
    omega arith

pub few_records : (octets : List ℕ) (before : AllTemplates) (message : RawMessage) (after : AllTemplates)
    → IsMessage octets before message after → 16 + length message.records ≤ length octets
few_records octets before message after h =
    let few = few_in_sets message.header.domain before h.sets message.records after h.hold in
    let size : length octets ≡ length (header_octets message.header ++ all_octets h.sets) + 0 = ap length h.parts
    ∙ length-append (header_octets message.header ++ all_octets h.sets) [] in
    omega (arith, length-append (header_octets message.header) (all_octets h.sets))

pub short_enough : (octets : List ℕ) (before : AllTemplates) (message : RawMessage) (after : AllTemplates)
    → IsMessage octets before message after → (message.header.length ≡ length octets) × (length octets < 2 ^ 16)
short_enough octets before message after h = (h.len, omega (arith, h.len, h.fits.len))

-- ---- other domains

templates_leave : (domain other : ℕ) (kind : TemplateKind) (before : AllTemplates) (rs : List (List ℕ))
    (after : AllTemplates) → other ≢ domain → AreTemplates domain kind before rs after
    → definitions_of other after ≡ definitions_of other before
templates_leave domain other kind before [] after differ h = ap (definitions_of other) h
templates_leave domain other kind before (r ∷ rs) after differ h =
    templates_leave domain other kind (applied domain kind h.0 before) rs after differ h.3
    ∙ other_domain domain other kind h.0 before differ

set_leaves : (domain other : ℕ) (before : AllTemplates) (set : Division) (xs : List RawRecord) (after : AllTemplates)
    → other ≢ domain → IsSet domain before set xs after → definitions_of other after ≡ definitions_of other before
set_leaves domain other before set xs after differ h = elim (by_kind set.id) [
  | inl k ↦ templates_leave domain other k.0 before set.records after differ (h.templates k.0 k.1).1
  | inr k ↦ elim (cases_lt set.id 256) [
    | inl small ↦ ap (definitions_of other) (h.other k.0 k.1 small).2
    | inr large ↦ ap (definitions_of other) (h.«data» large).1
  ]
]

sets_leave : (domain other : ℕ) (before : AllTemplates) (sets : List Division) (xs : List RawRecord)
    (after : AllTemplates) → other ≢ domain → AreSets domain before sets xs after
    → definitions_of other after ≡ definitions_of other before
sets_leave domain other before [] xs after differ h = ap (definitions_of other) h.1
sets_leave domain other before (s ∷ ss) xs after differ h = sets_leave domain other h.2 ss h.1 after differ h.4
    ∙ set_leaves domain other before s h.0 h.2 differ h.3

pub others_left : (octets : List ℕ) (before : AllTemplates) (message : RawMessage) (after : AllTemplates) (other : ℕ)
    → other ≢ message.header.domain → IsMessage octets before message after
    → definitions_of other after ≡ definitions_of other before
others_left octets before message after other differ h =
    sets_leave message.header.domain other before h.sets message.records after differ h.hold
