-- Entries under numbers, and the octets of definitions.
use Rattle.std.specs.Prelude.{◌≡◌, ℕ, List, [], ◌∷◌, Option, Some, None, nat_eq, sum_by}
use Rattle.std.specs.Map.{lookup}
use Rattle.flow_codec.specs.Layout.{Layout, definition_size}

-- no key is listed twice
abbrev pub IsOnce : {V : Type 0} → List (ℕ × V) → Type 0
IsOnce [] = Unit {0}
IsOnce (e ∷ es) = (lookup (nat_eq e.0) es ≡ None) × IsOnce es

-- the octets of a definition's template record, where there is one
abbrev pub size_in : Option Layout → ℕ
size_in None = 0
size_in (Some layout) = definition_size layout

abbrev pub entries_size : List (ℕ × Layout) → ℕ
entries_size entries = sum_by (λ e. definition_size e.1) entries
