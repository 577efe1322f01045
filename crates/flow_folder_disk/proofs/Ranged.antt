-- Numbers one after the other.
use Rattle.std.proofs.Common.{◌≡◌, ℕ, suc, ◌+◌, ◌-◌, ◌<◌, List, [], ◌∷◌, ◌++◌, ap, sym, ◌∙◌, arith}
use Rattle.std.proofs.lemmas.List.{append_assoc}
use Rattle.flow_folder_disk.specs.Numbers.{counted_from, numbers_from}

-- the first of them, and those after it
first_of : (n to : ℕ) → n < to → numbers_from n to ≡ n ∷ numbers_from (n + 1) to
first_of n to lt =
    let steps : to - n ≡ suc (to - (n + 1)) = omega (arith, lt) in
    ap (λ (k : ℕ). counted_from k n) steps

pub one_more : (list : List ℕ) (n to : ℕ) → n < to
    → (list ++ n ∷ []) ++ numbers_from (n + 1) to ≡ list ++ numbers_from n to
one_more list n to lt = append_assoc list (n ∷ []) (numbers_from (n + 1) to) ∙ ap (λ (l : List ℕ). list ++ l) (sym (first_of n to lt))
