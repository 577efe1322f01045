-- The templates in force, as lists of domains and of definitions, and what a template record changes.
pub use Rattle.flow_codec.specs.Entries.{IsOnce, entries_size}
use Rattle.std.specs.Prelude.{◌≡◌, ℕ, ◌+◌, ◌<◌, ◌≤◌, ◌^◌, List, [], ◌++◌, Option, Some, None, nat_eq, unwrap_or}
use Rattle.std.specs.Prelude.{Bool, false, not, ◌&&◌, ◌==◌, length, if◌then◌else◌}
use Rattle.std.specs.List.{AllByRecursion}
use Rattle.std.specs.Int.{w16, to_be_bytes}
use Rattle.std.specs.Map.{lookup}
use Rattle.indexmap.specs.IndexMap.{insert_entry, shift_remove_entry}
use Rattle.flow_codec.specs.declared.kind.TemplateKind.{TemplateKind}
use Rattle.flow_codec.specs.declared.kind.TemplateKind.TheVariants.{Plain, Options}
use Rattle.flow_codec.specs.declared.templates.DomainTemplates.{DomainTemplates}
use Rattle.flow_codec.specs.declared.templates.TemplateRecord.{TemplateRecord}
use Rattle.flow_codec.specs.declared.templates.TemplateRecord.TheVariants.{Define, Withdraw, WithdrawAll}
use Rattle.flow_codec.specs.Layout.{Layout, IsLayout, set_id, specifiers}

-- the domains in order, each with its definitions
abbrev pub AllTemplates : Type 0
AllTemplates = List (ℕ × DomainTemplates)

abbrev pub no_definitions : DomainTemplates
no_definitions = record { templates = []; options = [] }

-- the definitions in force in a domain
abbrev pub definitions_of : ℕ → AllTemplates → DomainTemplates
definitions_of domain all = unwrap_or (lookup (nat_eq domain) all) no_definitions

-- the definition in force under an ID
abbrev pub definition_of : ℕ → DomainTemplates → Option Layout
definition_of id here = lookup (nat_eq id) (here.templates ++ here.options)

abbrev pub is_empty : DomainTemplates → Bool
is_empty here = (length here.templates == 0) && (length here.options == 0)

-- ---- what a template record changes

abbrev pub without : ℕ → List (ℕ × Layout) → List (ℕ × Layout)
without id entries = shift_remove_entry (nat_eq id) entries

-- A new ID goes to the end of its list; one that is in it is redefined in its place; the other kind's is taken out.
-- A withdrawal takes out a definition of its own kind, where there is one.
abbrev pub changed : TemplateKind → TemplateRecord → DomainTemplates → DomainTemplates
changed Plain (Define id layout) here =
    record { templates = insert_entry nat_eq here.templates id layout; options = without id here.options }
changed Plain (Withdraw id) here = record { templates = without id here.templates; options = here.options }
changed Plain WithdrawAll here = record { templates = []; options = here.options }
changed Options (Define id layout) here =
    record { templates = without id here.templates; options = insert_entry nat_eq here.options id layout }
changed Options (Withdraw id) here = record { templates = here.templates; options = without id here.options }
changed Options WithdrawAll here = record { templates = here.templates; options = [] }

-- a definition of this kind
abbrev pub is_own : TemplateKind → Layout → Bool
is_own Plain layout = not layout.options
is_own Options layout = layout.options

-- what a withdrawal leaves: a definition of the other kind stays
abbrev pub unless_own : TemplateKind → Option Layout → Option Layout
unless_own kind None = None
unless_own kind (Some layout) = if is_own kind layout then None else Some layout

-- A domain without definitions leaves the list at once; one with its first goes to the end.
abbrev pub with_domain : ℕ → DomainTemplates → AllTemplates → AllTemplates
with_domain domain here all =
    if is_empty here then shift_remove_entry (nat_eq domain) all else insert_entry nat_eq all domain here

-- one template record, in its place
abbrev pub applied : ℕ → TemplateKind → TemplateRecord → AllTemplates → AllTemplates
applied domain kind change all = with_domain domain (changed kind change (definitions_of domain all)) all

-- ---- the octets of a template record (RFC 7011, sections 3.4.1, 3.4.2.2 and 8.1)

abbrev pub scope_octets : TemplateKind → Layout → List ℕ
scope_octets Plain layout = []
scope_octets Options layout = to_be_bytes w16 layout.scope

abbrev pub template : TemplateKind → TemplateRecord → List ℕ
template kind (Define id layout) =
    to_be_bytes w16 id ++ to_be_bytes w16 (length layout.fields) ++ scope_octets kind layout ++ specifiers layout.fields
template kind (Withdraw id) = to_be_bytes w16 id ++ to_be_bytes w16 0
template kind WithdrawAll = to_be_bytes w16 (set_id kind) ++ to_be_bytes w16 0

-- the ID of a template
pub record IsTemplateId (id : ℕ) : Type 0 where
  pub least_id : 256 ≤ id
  pub below : id < 2 ^ 16

abbrev pub IsTemplateRecord : TemplateKind → TemplateRecord → Type 0
IsTemplateRecord kind (Define id layout) = IsTemplateId id × IsLayout kind layout
IsTemplateRecord kind (Withdraw id) = IsTemplateId id
IsTemplateRecord kind WithdrawAll = Unit {0}

-- ---- limits, and what holds of the templates after every message

-- the octets of all template records in force in a domain
abbrev pub domain_size : DomainTemplates → ℕ
domain_size here = entries_size here.templates + entries_size here.options

-- at most 60,000 octets of template records in a domain, and at most 64 domains
pub record IsWithinTemplateLimits (domain : ℕ) (all : AllTemplates) : Type 0 where
  pub size : domain_size (definitions_of domain all) ≤ 60000
  pub domains : length all ≤ 64

pub record IsEntry (kind : TemplateKind) (entry : ℕ × Layout) : Type 0 where
  pub id : IsTemplateId entry.0
  pub layout : IsLayout kind entry.1

-- the definitions of a domain: each ID once, in one of the two lists
pub record AreDefinitions (here : DomainTemplates) : Type 0 where
  pub once : IsOnce (here.templates ++ here.options)
  pub templates : AllByRecursion (IsEntry Plain) here.templates
  pub options : AllByRecursion (IsEntry Options) here.options

pub record IsDomain (entry : ℕ × DomainTemplates) : Type 0 where
  pub some : is_empty entry.1 ≡ false
  pub definitions : AreDefinitions entry.1
  pub size : domain_size entry.1 ≤ 60000

-- what holds of the templates after every message
pub record AreTemplatesInForce (all : AllTemplates) : Type 0 where
  pub once : IsOnce all
  pub domains : AllByRecursion IsDomain all
  pub count : length all ≤ 64
