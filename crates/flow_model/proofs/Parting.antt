-- Lists cut into parts.
use Rattle.std.proofs.Common.{◌≡◌, ℕ, zero, suc, ◌+◌, ◌≤◌, List, [], ◌∷◌, ◌++◌, length, take, drop, refl, sym, ap, ◌∙◌}
use Rattle.std.proofs.Common.{arith}
use Rattle.std.specs.Prelude.{sum}
use Rattle.std.proofs.lemmas.List.{take-append-le, drop-append-le, take-take, drop-take, drop-drop, length-drop}
use Rattle.std.proofs.lemmas.List.Sums.{sum_by-cons}
use Rattle.std.proofs.Math.Seq.{take-length}
use Rattle.flow_measure.specs.View.{parted}

sum_first : (c : ℕ) (cs : List ℕ) → sum (c ∷ cs) ≡ c + sum cs
sum_first c cs = sum_by-cons (λ (k : ℕ). k) c cs

-- a part more
pub parted_then : {A : Type 0} (cs : List ℕ) (xs ys : List A) → length xs ≡ sum cs
    → parted (cs ++ length ys ∷ []) (xs ++ ys) ≡ parted cs xs ++ ys ∷ []
parted_then [] [] ys h = ap (λ t. t ∷ []) (take-length ys)
parted_then [] (x ∷ xs) ys h = absurd (omega (arith, h))
parted_then {A} (c ∷ cs) xs ys h =
    let whole : c ≤ length xs = omega (arith, h, sum_first c cs) in
    let rest : length (drop c xs) ≡ sum cs = omega (arith, h, sum_first c cs, length-drop c xs) in
    ap (λ (t : List A). t ∷ parted (cs ++ length ys ∷ []) (drop c (xs ++ ys))) (take-append-le c xs ys whole)
    ∙ ap (λ (t : List A). take c xs ∷ parted (cs ++ length ys ∷ []) t) (drop-append-le c xs ys whole)
    ∙ ap (λ (t : List (List A)). take c xs ∷ t) (parted_then cs (drop c xs) ys rest)

-- the first parts
pub parted_front : {A : Type 0} (k : ℕ) (cs : List ℕ) (xs : List A)
    → take k (parted cs xs) ≡ parted (take k cs) (take (sum (take k cs)) xs)
parted_front zero cs xs = refl
parted_front (suc k) [] xs = refl
parted_front {A} (suc k) (c ∷ cs) xs =
    let n = sum (take k cs) in
    let all : sum (c ∷ take k cs) ≡ c + n = sum_first c (take k cs) in
    ap (λ (t : List (List A)). take c xs ∷ t) (parted_front k cs (drop c xs))
    ∙ ap (λ (t : List A). take c xs ∷ parted (take k cs) t) (sym (drop-take c n xs))
    ∙ ap (λ (t : List A). t ∷ parted (take k cs) (drop c (take (c + n) xs)))
    (sym (take-take c (c + n) xs (omega arith)))
    ∙ ap (λ (i : ℕ). take c (take i xs) ∷ parted (take k cs) (drop c (take i xs))) (sym all)

-- the parts after them
pub parted_rest : {A : Type 0} (k : ℕ) (cs : List ℕ) (xs : List A)
    → drop k (parted cs xs) ≡ parted (drop k cs) (drop (sum (take k cs)) xs)
parted_rest zero cs xs = refl
parted_rest (suc k) [] xs = refl
parted_rest {A} (suc k) (c ∷ cs) xs =
    parted_rest k cs (drop c xs)
    ∙ ap (parted (drop k cs)) (drop-drop (sum (take k cs)) c xs
    ∙ ap (λ (i : ℕ). drop i xs) (sym (sum_first c (take k cs))))
