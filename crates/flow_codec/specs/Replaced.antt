-- Definitions that replace a different one of their ID, which no withdrawal took out of force (RFC 7011, section 8.1).
use Rattle.std.specs.Prelude.{◌≡◌, ◌≢◌, ℕ, zero, suc, ◌+◌, ◌-◌, Bool, false, ◌&&◌, not, List, [], ◌∷◌, length}
use Rattle.std.specs.Prelude.{Option, Some, None, nat_eq, Result, Ok, Err, if◌then◌else◌}
use Rattle.std.specs.Bool.{beq}
use Rattle.std.specs.Cmp.Lexicographic.{pointwise}
use Rattle.std.specs.Option.{option_eq}
use Rattle.flow_elements.specs.declared.element.ElementId.{ElementId}
use Rattle.flow_codec.specs.declared.error.MessageError.{MessageError}
use Rattle.flow_codec.specs.declared.kind.TemplateKind.{TemplateKind}
use Rattle.flow_codec.specs.declared.templates.TemplateRecord.{TemplateRecord}
use Rattle.flow_codec.specs.declared.templates.TemplateRecord.TheVariants.{Define, Withdraw, WithdrawAll}
use Rattle.flow_codec.specs.Layout.{Layout, set_id}
use Rattle.flow_codec.specs.Raw.{RawRecord}
use Rattle.flow_codec.specs.Templates.{AllTemplates, applied, definition_of, definitions_of, template}
use Rattle.flow_codec.specs.Templates.{IsTemplateRecord}
use Rattle.flow_codec.specs.Message.{Division, IsSet}
use Rattle.flow_codec.specs.Reading.{is_ended, template_at, kind_of, set_at, content_at, header_at}

-- the same element and Field Length
abbrev pub same_field : ElementId × ℕ → ElementId × ℕ → Bool
same_field a b = (option_eq nat_eq a.0.enterprise b.0.enterprise && nat_eq a.0.number b.0.number) && nat_eq a.1 b.1

-- the same kind, scope fields, and fields in the same order
abbrev pub same_layout : Layout → Layout → Bool
same_layout a b = (beq a.options b.options && nat_eq a.scope b.scope) && pointwise same_field a.fields b.fields

-- a definition is in force, and it is another one than this
abbrev pub differs : Layout → Option Layout → Bool
differs layout None = false
differs layout (Some other) = not (same_layout other layout)

-- a template record defines its ID otherwise than the definition that is in force under it
abbrev pub replaces : ℕ → AllTemplates → TemplateRecord → Bool
replaces domain all (Define id layout) = differs layout (definition_of id (definitions_of domain all))
replaces domain all (Withdraw id) = false
replaces domain all WithdrawAll = false

-- one, where this holds
abbrev pub one_if : Bool → ℕ
one_if b = if b then 1 else 0

-- ---- by reading

-- what comes of what was read; 0 where reading failed
abbrev pub or_zero : {A : Type 0} → Result A MessageError → (A → ℕ) → ℕ
or_zero (Ok x) next = next x
or_zero (Err e) next = 0

-- of template records one after the other, each under the templates of those before; their Set ends at `end`
unfoldable pub replacing_at : ℕ → ℕ → ℕ → TemplateKind → AllTemplates → List ℕ → ℕ
replacing_at zero end domain kind all octets = 0
replacing_at (suc n) end domain kind all octets = if is_ended octets then 0 else or_zero
    (template_at kind (end - length octets) octets) λ change.
    one_if (replaces domain all change.0) + replacing_at n end domain kind (applied domain kind change.0 all) change.1

-- of a Set of this kind, where it holds template records
abbrev pub replacing_by : Option TemplateKind → ℕ → ℕ → AllTemplates → List ℕ → ℕ
replacing_by None end domain all content = 0
replacing_by (Some kind) end domain all content = replacing_at (length content) end domain kind all content

-- of the Set of this ID and content, which ends at `end`
unfoldable pub replacing_in : ℕ → ℕ → ℕ → AllTemplates → List ℕ → ℕ
replacing_in end domain id all content = replacing_by (kind_of id) end domain all content

-- of Sets one after the other, each under the templates of those before; the last one ends at `end`
unfoldable pub replaced_at : ℕ → ℕ → ℕ → AllTemplates → List ℕ → ℕ
replaced_at zero end domain all octets = 0
replaced_at (suc n) end domain all octets = or_zero (set_at (end - length octets) octets) λ set. or_zero
    (content_at (end - length set.2) domain set.0 all set.1) λ first.
    replacing_in (end - length set.2) domain set.0 all set.1 + replaced_at n end domain first.1 set.2

-- how many template records of a message replace a definition
unfoldable pub replaced_of : AllTemplates → List ℕ → ℕ
replaced_of before octets = or_zero (header_at octets) λ header.
    replaced_at (length header.1) (length octets) header.0.domain before header.1

-- ---- by the Sets of a division

-- so many of these template records, each under the templates of those before it
abbrev pub AreReplacing : ℕ → TemplateKind → AllTemplates → List (List ℕ) → ℕ → Type 0
AreReplacing domain kind before [] count = count ≡ 0
AreReplacing domain kind before (r ∷ rs) count =
    (change : TemplateRecord) × (others : ℕ) × IsTemplateRecord kind change × (r ≡ template kind change)
    × AreReplacing domain kind (applied domain kind change before) rs others
    × (count ≡ one_if (replaces domain before change) + others)

-- so many template records of a Set; a Set of another kind has none
pub record IsReplacing (domain : ℕ) (before : AllTemplates) (set : Division) (count : ℕ) : Type 0 where
  pub templates : (kind : TemplateKind) → set.id ≡ set_id kind → AreReplacing domain kind before set.records count
  pub other : set.id ≢ 2 → set.id ≢ 3 → count ≡ 0

-- so many of these Sets, each under the templates of the Sets before it
abbrev pub AreReplaced : ℕ → AllTemplates → List Division → ℕ → Type 0
AreReplaced domain before [] count = count ≡ 0
AreReplaced domain before (s ∷ ss) count =
    (records : List RawRecord) × (next : AllTemplates) × (first : ℕ) × (others : ℕ)
    × IsSet domain before s records next × IsReplacing domain before s first × AreReplaced domain next ss others
    × (count ≡ first + others)
