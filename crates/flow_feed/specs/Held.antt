-- Messages in one piece of memory.
use Rattle.std.specs.Prelude.{◌≡◌, ◌≤◌, ℕ, List, [], ◌∷◌, slice_range}

-- the messages that end at these places of the octets, one after the other; the first of them begins at `start`
abbrev pub cut_at : ℕ → List ℕ → List ℕ → List (List ℕ)
cut_at start octets [] = []
cut_at start octets (end ∷ ends) = slice_range octets start end ∷ cut_at end octets ends

-- the places where messages end of which the first one begins at `start`: the last of them ends at `last`
abbrev pub AreEnds : ℕ → List ℕ → ℕ → Type 0
AreEnds start [] last = start ≡ last
AreEnds start (end ∷ ends) last = (start ≤ end) × AreEnds end ends last
