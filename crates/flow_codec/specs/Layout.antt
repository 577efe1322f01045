-- Definitions: what the records of one template ID hold (RFC 7011, sections 3.2 and 3.4).
use Rattle.std.specs.Prelude.{◌≡◌, ℕ, ◌+◌, ◌<◌, ◌≤◌, ◌^◌, Bool, true, false, List, ◌++◌, Option, Some, None, IfSome}
use Rattle.std.specs.Prelude.{length, sum_by, ◌==◌, if◌then◌else◌}
use Rattle.std.specs.List.{flat_map, AllByRecursion}
use Rattle.std.specs.Int.{w16, w32, to_be_bytes}
use Rattle.flow_elements.specs.declared.element.ElementId.{ElementId}
use Rattle.flow_codec.specs.declared.kind.TemplateKind.{TemplateKind}
use Rattle.flow_codec.specs.declared.kind.TemplateKind.TheVariants.{Plain, Options}

-- whether it is an Options Template, its count of scope fields (0 in a Template), and each field's element and Field
-- Length
pub record Layout : Type 0 where
  pub options : Bool
  pub scope : ℕ
  pub fields : List (ElementId × ℕ)

-- ---- the octets of a definition

-- an element in at most 15 bits, a Field Length in 16, an enterprise number in 32
pub record IsSpecifier (f : ElementId × ℕ) : Type 0 where
  pub number : f.0.number < 32768
  pub len : f.1 < 2 ^ 16
  pub enterprise : IfSome f.0.enterprise (λ e. e < 2 ^ 32)

-- the enterprise bit is set exactly where an enterprise number follows
abbrev pub specifier_of : Option ℕ → ℕ → ℕ → List ℕ
specifier_of None number len = to_be_bytes w16 number ++ to_be_bytes w16 len
specifier_of (Some enterprise) number len =
    to_be_bytes w16 (number + 32768) ++ to_be_bytes w16 len ++ to_be_bytes w32 enterprise

abbrev pub specifier : ElementId × ℕ → List ℕ
specifier f = specifier_of f.0.enterprise f.0.number f.1

abbrev pub specifiers : List (ElementId × ℕ) → List ℕ
specifiers fs = flat_map specifier fs

-- ---- which definitions there are

-- the ID of the Sets that hold template records of a kind
abbrev pub set_id : TemplateKind → ℕ
set_id Plain = 2
set_id Options = 3

abbrev pub is_options : TemplateKind → Bool
is_options Plain = false
is_options Options = true

-- a Template has no scope fields; an Options Template has at least one, and no more than fields
abbrev pub IsScope : TemplateKind → Layout → Type 0
IsScope Plain layout = layout.scope ≡ 0
IsScope Options layout = (0 < layout.scope) × (layout.scope ≤ length layout.fields)

-- a definition that a template record of this kind can give
pub record IsLayout (kind : TemplateKind) (layout : Layout) : Type 0 where
  pub some : 0 < length layout.fields
  pub count : length layout.fields < 2 ^ 16
  pub fields : AllByRecursion IsSpecifier layout.fields
  pub options : layout.options ≡ is_options kind
  pub scope : IsScope kind layout

-- ---- the records of a definition

-- a field of variable length has at least its one length octet
abbrev pub least_length : ℕ → ℕ
least_length len = if len == 65535 then 1 else len

-- the octets of the smallest record
abbrev pub smallest : Layout → ℕ
smallest layout = sum_by (λ f. least_length f.1) layout.fields

-- the octets of the template record
abbrev pub specifier_size : ElementId × ℕ → ℕ
specifier_size f = length (specifier f)

abbrev pub definition_size : Layout → ℕ
definition_size layout = (if layout.options then 6 else 4) + sum_by specifier_size layout.fields
