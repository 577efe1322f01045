-- What is exported of a span of time: the messages of which some flow starts in it, and those between that define or
-- withdraw templates.
use Rattle.std.specs.Prelude.{◌≡◌, ◌⊎◌, ◌==◌, ◌++◌, ◌&&◌, ◌||◌, ℕ, zero, suc, nat_le, nat_lt, Bool, List, [], ◌∷◌}
use Rattle.std.specs.Prelude.{length, drop, filter, if◌then◌else◌, true, false, Option, Some, None, ◌+◌, take, min, max}
use Rattle.std.specs.FinMap.{FinMap, entries}
use Rattle.std.specs.List.{list_any, AllByRecursion}
use Rattle.flow_codec.specs.Cutting.{length_of, IsCutOff}
use Rattle.flow_codec.specs.Message.{in_fields, joined, IsAccepted}
use Rattle.flow_codec.specs.Templates.{AllTemplates}
use Rattle.flow_export.specs.declared.finding.Found.{Found}
use Rattle.flow_export.specs.Export.{IsCarryBefore}
use Rattle.flow_measure.specs.declared.flow.Flow.{Flow}
use Rattle.flow_measure.specs.declared.rows.Key.{Key}
use Rattle.flow_measure.specs.declared.rows.Sums.{Sums}
use Rattle.flow_measure.specs.Flows.{flows_of}
use Rattle.flow_measure.specs.History.{templates_from, Accepted, AreAcceptedFrom}
use Rattle.flow_measure.specs.Sums.{key_cmp}
use Rattle.flow_measure.specs.View.{View}
use Rattle.flow_model.specs.Shelf.{Shelf}
use Rattle.flow_segment.specs.Batch.{id_of}
use Rattle.flow_segment.specs.Carry.{octets_of, prefix_of, Carry, IsCarry}
use Rattle.flow_snapshot.specs.Found.{kept_by_file}

-- ---- messages with Sets of template records

-- The IDs of Sets, one after the other, as their headers say: of at most so many. Fewer than 4 octets are none.
abbrev pub set_ids : ℕ → List ℕ → List ℕ
set_ids zero octets = []
set_ids (suc most) octets =
    if nat_lt (length octets) 4 then [] else id_of octets ∷ set_ids most (drop (length_of octets) octets)

-- whether a Set with this ID is a Template Set or an Options Template Set (RFC 7011, section 3.3.2)
abbrev pub is_of_templates : ℕ → Bool
is_of_templates id = (id == 2) || (id == 3)

-- Whether one of the Sets after a message's header is of template records. There are no more Sets than octets.
abbrev pub holds_templates : List ℕ → Bool
holds_templates message = list_any is_of_templates (set_ids (length message) (drop 16 message))

-- ---- messages of a span

abbrev pub starts_within : ℕ → ℕ → Flow → Bool
starts_within from to f = nat_le from f.start && nat_lt f.start to

-- whether some flow of a message starts from one moment on and before another
abbrev pub has_flow : ℕ → ℕ → Accepted → Bool
has_flow from to a = list_any (starts_within from to) (flows_of (in_fields a.message))

-- how many messages come before the first that has such a flow: all, where none has
abbrev pub before_first : ℕ → ℕ → List Accepted → ℕ
before_first from to [] = 0
before_first from to (a ∷ more) = if has_flow from to a then 0 else suc (before_first from to more)

-- the messages up to the last one that has such a flow: none, where none has
abbrev pub up_to_last : ℕ → ℕ → List Accepted → List Accepted
up_to_last from to [] = []
up_to_last from to (a ∷ more) =
    if list_any (has_flow from to) (a ∷ more) then a ∷ up_to_last from to more else []

-- whether a message between these two is exported
abbrev pub is_of_span : ℕ → ℕ → Accepted → Bool
is_of_span from to a = has_flow from to a || holds_templates a.octets

-- those of a list that are exported, of the ones after the first `skip` and among the first `end`, as they are
abbrev pub text_between : ℕ → ℕ → ℕ → ℕ → List Accepted → List ℕ
text_between from to skip end list =
    joined (octets_of (filter (is_of_span from to) (drop skip (take end list))))

-- From the first message that has a flow of the span up to the last one: those that have one, and those that hold Sets
-- of template records.
abbrev pub span_messages : ℕ → ℕ → List Accepted → List Accepted
span_messages from to kept =
    filter (is_of_span from to) (up_to_last from to (drop (before_first from to kept) kept))

-- The messages that restate what is passed on to the first message that has a flow of the span, or else after all
-- messages, and then the messages of the span, as they are.
abbrev pub IsSpanExportOf : Shelf → View → ℕ → ℕ → List ℕ → Type 0
IsSpanExportOf s v from to text =
    (carry : Carry) × IsCarryBefore (kept_by_file s) (before_first from to v.kept) carry
    × (text ≡ prefix_of carry ++ joined (octets_of (span_messages from to v.kept)))

-- ---- messages that are in sums alone

-- whether an interval of this width and a span, from one moment on and before another, have a moment in common
abbrev pub meets : ℕ → ℕ → ℕ → Key → Bool
meets from to width key = nat_lt (max from key.start) (min to (key.start + width))

-- whether there are sums over such an interval
abbrev pub has_row : ℕ → ℕ → ℕ → FinMap key_cmp Sums → Bool
has_row from to width sums = list_any (λ e. meets from to width e.0) (entries sums)

-- Whether messages that are in sums alone may have flows of the span: there are sums over an interval that has a moment
-- of it, by the wide width or by the other.
abbrev pub meets_sums : ℕ → ℕ → View → Bool
meets_sums from to v = has_row from to v.wide v.merged || list_any (has_row from to v.width) v.rolled

-- ---- where the messages of a span are

-- What is found of messages: nothing, where none has a flow of the span; else how many come before the first one that
-- has one, and how many there are up to the last one.
abbrev pub IsFound : ℕ → ℕ → List Accepted → Option Found → Type 0
IsFound from to messages None = list_any (has_flow from to) messages ≡ false
IsFound from to messages (Some found) =
    (list_any (has_flow from to) messages ≡ true) × (found.before ≡ before_first from to messages)
    × (found.upto ≡ length (up_to_last from to messages))

-- These octets are messages accepted after such templates, these are in force after them, and this is found of them.
abbrev pub FindsIn : ℕ → ℕ → List (List ℕ) → AllTemplates → AllTemplates → Option Found → Type 0
FindsIn from to octets before now found =
    (messages : List Accepted) × (octets_of messages ≡ octets) × AreAcceptedFrom before messages
    × (now ≡ templates_from before messages) × IsFound from to messages found

-- ---- on every disk

-- A message that holds Sets of template records; or that is accepted under some templates, and has a flow that starts
-- in the span.
abbrev pub IsMessageOfSpan : ℕ → ℕ → List ℕ → Type 0
IsMessageOfSpan from to octets =
    (holds_templates octets ≡ true)
    ⊎ ((before : AllTemplates) × (a : Accepted) × (a.octets ≡ octets) × IsAccepted octets before a.message a.after
    × (has_flow from to a ≡ true))

-- such a message, cut off by its own header
abbrev pub IsWholeOfSpan : ℕ → ℕ → List ℕ → Type 0
IsWholeOfSpan from to octets = IsCutOff octets × IsMessageOfSpan from to octets

-- whole messages of a span, one after the other
abbrev pub AreSpanMessages : ℕ → ℕ → List ℕ → Type 0
AreSpanMessages from to text =
    (messages : List (List ℕ)) × AllByRecursion (IsWholeOfSpan from to) messages × (text ≡ joined messages)

-- messages that restate some templates in force, and then whole messages of a span
abbrev pub IsSomeSpanExport : ℕ → ℕ → List ℕ → Type 0
IsSomeSpanExport from to text =
    (carry : Carry) × (more : List ℕ) × IsCarry carry × AreSpanMessages from to more × (text ≡ prefix_of carry ++ more)
