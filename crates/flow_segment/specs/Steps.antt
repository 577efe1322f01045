-- What calls make of the octets of one file.
use Rattle.std.specs.Prelude.{◌≡◌, ℕ, ◌≤◌, min, List, [], ◌∷◌, length, take}

-- the closed gate after the messages of a segment that isn't sealed
abbrev pub trailer : List ℕ
trailer = 0 ∷ 0 ∷ []

abbrev pub IsAnything : List ℕ → List ℕ → Type 0
IsAnything before after = Unit {0}

abbrev pub Becomes : List ℕ → List ℕ → List ℕ → Type 0
Becomes octets before after = after ≡ octets

-- the first octets, and nothing else
abbrev pub BecomesFront : ℕ → List ℕ → List ℕ → Type 0
BecomesFront count before after = after ≡ take count before

-- the first octets stay, as far as there are so many
pub record KeepsFront (count : ℕ) (before after : List ℕ) : Type 0 where
  pub front : take count after ≡ take count before
  pub long : min count (length before) ≤ length after
