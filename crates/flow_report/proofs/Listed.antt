-- Lines of a list, one after the other.
use Rattle.std.proofs.Common.{◌≡◌, ℕ, ◌+◌, ◌<◌, ◌≤◌, List, [], ◌∷◌, ◌++◌, length, drop, get_or, ap, drop-cons, add-one}
use Rattle.std.proofs.lemmas.List.{drop_all}
use Rattle.std.specs.List.{flat_map}

-- the line of one of many
pub next_line : {A : Type 0} (line : A → List ℕ) (xs : List A) (i : ℕ) (d : A) → i < length xs
    → flat_map line (drop i xs) ≡ line (get_or xs i d) ++ flat_map line (drop (i + 1) xs)
next_line {A} line xs i d lt =
    let split : drop i xs ≡ get_or xs i d ∷ drop (i + 1) xs = rw add-one (drop-cons xs i d lt) in
    ap (λ (l : List A). flat_map line l) split

pub no_line : {A : Type 0} (line : A → List ℕ) (xs : List A) (i : ℕ) → length xs ≤ i → flat_map line (drop i xs) ≡ []
no_line {A} line xs i le = ap (λ (l : List A). flat_map line l) (drop_all i xs le)
