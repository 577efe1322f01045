-- The answers of several, taken in their order.
use Rattle.std.specs.Prelude.{◌≡◌, List, ◌∷◌, ◌++◌}
use Rattle.std.specs.List.{AllZip}

-- Of all these the answers of the first are there, and the others are still to be asked.
abbrev pub Awaits : {J X : Type 0} → (J → X → Type 0) → List X → List J → List J → Type 0
Awaits {J} is answers left all = (first : List J) × AllZip is first answers × (all ≡ first ++ left)

-- This is the answer of the first of all these, and of the others the answers of the first are there.
abbrev pub IsNext : {J X : Type 0} → (J → X → Type 0) → List X → List J → List J → X → Type 0
IsNext {J} is answers left all x =
    (own : J) × (rest : List J) × (all ≡ own ∷ rest) × is own x × Awaits is answers left rest
