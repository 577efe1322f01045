-- The messages that restate templates in force: read from no templates, they leave just these.
use Rattle.std.specs.Prelude.{ℕ, ◌+◌, List, [], ◌∷◌, ◌++◌, length, map, nat_eq, unwrap_or, ◌<◌, ◌^◌}
use Rattle.std.specs.List.{flat_map, AllByRecursion}
use Rattle.std.specs.Map.{lookup}
use Rattle.flow_codec.specs.declared.kind.TemplateKind.{TemplateKind}
use Rattle.flow_codec.specs.declared.kind.TemplateKind.TheVariants.{Plain, Options}
use Rattle.flow_codec.specs.declared.message.Header.{Header}
use Rattle.flow_codec.specs.declared.templates.DomainTemplates.{DomainTemplates}
use Rattle.flow_codec.specs.declared.templates.TemplateRecord.TheVariants.{Define}
use Rattle.flow_codec.specs.Layout.{Layout, set_id}
use Rattle.flow_codec.specs.Templates.{AllTemplates, template}
use Rattle.flow_codec.specs.Raw.{RawMessage}
use Rattle.flow_codec.specs.Message.{Division, set_octets, header_octets, joined}

-- the template records that give these definitions, in order
abbrev pub defining_records : TemplateKind → List (ℕ × Layout) → List (List ℕ)
defining_records kind entries = map (λ e. template kind (Define e.0 e.1)) entries

-- one Set of them, without padding, where there are any
abbrev pub template_set : TemplateKind → List (ℕ × Layout) → List Division
template_set kind [] = []
template_set kind (e ∷ es) = record { id = set_id kind; records = defining_records kind (e ∷ es); rest = [] } ∷ []

-- Templates first, Options Templates after them
abbrev pub template_sets : DomainTemplates → List Division
template_sets here = template_set Plain here.templates ++ template_set Options here.options

-- the message that restates a domain's definitions
abbrev pub prefix_header : ℕ → ℕ → ℕ × DomainTemplates → Header
prefix_header time due e = record {
  length = 16 + length (flat_map set_octets (template_sets e.1));
  time =
      time;
  sequence = due;
  domain = e.0;
}

abbrev pub prefix_message : ℕ → ℕ → ℕ × DomainTemplates → List ℕ
prefix_message time due e = header_octets (prefix_header time due e) ++ flat_map set_octets (template_sets e.1)

-- that message as it is read: no data records
abbrev pub prefix_read : ℕ → ℕ → ℕ × DomainTemplates → RawMessage
prefix_read time due e = record { header = prefix_header time due e; records = [] }

-- the next sequence number of a domain
abbrev pub due_in : List (ℕ × ℕ) → ℕ → ℕ
due_in due domain = unwrap_or (lookup (nat_eq domain) due) 0

-- for each domain in order
abbrev pub prefix_messages : ℕ → List (ℕ × ℕ) → AllTemplates → List (List ℕ)
prefix_messages time due all = map (λ e. prefix_message time (due_in due e.0) e) all

abbrev pub prefix_octets : ℕ → List (ℕ × ℕ) → AllTemplates → List ℕ
prefix_octets time due all = joined (prefix_messages time due all)

-- the messages as they are read
abbrev pub prefix_reads : ℕ → List (ℕ × ℕ) → AllTemplates → List RawMessage
prefix_reads time due all = map (λ e. prefix_read time (due_in due e.0) e) all

-- numbers that fit in a header
abbrev pub AreDomains : AllTemplates → Type 0
AreDomains all = AllByRecursion (λ e. e.0 < 2 ^ 32) all

abbrev pub AreNumbers : List (ℕ × ℕ) → Type 0
AreNumbers due = AllByRecursion (λ e. e.1 < 2 ^ 32) due
