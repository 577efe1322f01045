-- Laws of gated lists.
use Rattle.std.specs.Prelude.{◌≡◌, ◌⊎◌, ℕ, ◌+◌, ◌≤◌, List, take, drop}
use Rattle.std.specs.List.{concat}
use Rattle.flow_gate.specs.Gate.{StandInRow, IsGated, IsDamaged, octet_sum}

-- At most one gated list fits.
abbrev pub OneListFits : Type 0
OneListFits = (octets : List ℕ) (from : ℕ) (a b : List (List ℕ)) → IsGated octets from a → IsGated octets from b → a ≡ b

-- Octets have a gated list from a place on, or damage,
abbrev pub ListOrDamage : Type 0
ListOrDamage = (octets : List ℕ) (from : ℕ) → ((list : List (List ℕ)) × IsGated octets from list)
    ⊎ ((at : ℕ) × IsDamaged octets from at)

-- never both,
abbrev pub NeverBoth : Type 0
NeverBoth = (octets : List ℕ) (from at : ℕ) (list : List (List ℕ)) → IsGated octets from list
    → IsDamaged octets from at → ⊥

-- and damage has one place.
abbrev pub OnePlaceDamaged : Type 0
OnePlaceDamaged = (octets : List ℕ) (from a b : ℕ) → IsDamaged octets from a → IsDamaged octets from b → a ≡ b

-- A row is its messages' octets,
abbrev pub RowIsItsOctets : Type 0
RowIsItsOctets = (octets : List ℕ) (from : ℕ) (list : List (List ℕ)) → StandInRow octets from list
    → take (octet_sum list) (drop from octets) ≡ concat list

-- stays where the file is cut after it,
abbrev pub RowStaysInCut : Type 0
RowStaysInCut = (octets : List ℕ) (from count : ℕ) (list : List (List ℕ)) → from + octet_sum list ≤ count
    → StandInRow octets from list → StandInRow (take count octets) from list

-- and no other one has as many octets.
abbrev pub OneRowFits : Type 0
OneRowFits = (octets : List ℕ) (from : ℕ) (a b : List (List ℕ)) → StandInRow octets from a → StandInRow octets from b
    → octet_sum a ≡ octet_sum b → a ≡ b

-- A gated list stays where the file is cut after its gate.
abbrev pub ListStaysInCut : Type 0
ListStaysInCut = (octets : List ℕ) (from count : ℕ) (list : List (List ℕ)) → from + octet_sum list + 2 ≤ count
    → IsGated octets from list → IsGated (take count octets) from list
