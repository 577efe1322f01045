-- What a reader of CSV (RFC 4180) finds in a line.
use Rattle.std.specs.Prelude.{◌≢◌, ℕ, ◌≤◌, ⊤, List, Option, Some, None}
use Rattle.std.specs.List.{All}
use Rattle.flow_elements.specs.declared.element.ElementId.{ElementId}

-- no comma, no quote, and no end of a line: such a value is never in quotes
abbrev pub IsPlain : List ℕ → Type 0
IsPlain text = All (λ octet. (octet ≢ 44) × (octet ≢ 34) × (octet ≢ 10) × (octet ≢ 13)) text

-- the number of an enterprise, where there is one, has 32 bits
abbrev pub IsEnterprise : Option ℕ → Type 0
IsEnterprise None = ⊤
IsEnterprise (Some enterprise) = enterprise ≤ 4294967295

-- the numbers that a template can have (RFC 7011, section 3.2): 15 bits for an element, 32 for an enterprise
abbrev pub IsElement : ElementId → Type 0
IsElement id = (id.number ≤ 32767) × IsEnterprise id.enterprise
