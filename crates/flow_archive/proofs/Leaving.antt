-- First elements that leave a list, and the places of entries.
use Rattle.std.proofs.Common.{◌≡◌, ℕ, ◌+◌, ◌<◌, List, [], ◌∷◌, ◌++◌, length, take, drop, get_or, refl, subst, sym, ◌∙◌, ap, arith}
use Rattle.std.specs.Prelude.{◌==◌, cond, nat_lt, Bool}
use Rattle.std.proofs.lemmas.Bool.Decides.{nat_tests}
use Rattle.std.proofs.lemmas.List.Sums.{sum_by-cons}
use Rattle.flow_manifest.specs.declared.manifest.Entry.{Entry}
use Rattle.flow_manifest.specs.declared.manifest.Kind.TheVariants.{Rolled, Sealed, Wide}
use Rattle.flow_manifest.specs.Following.{count_before, count_of}
use Rattle.flow_manifest.specs.Manifest.{rank}
use Rattle.std.proofs.lemmas.List.{drop_more, length-drop, take_more}

module _ {X : Type 0} (xs : List X) (i : ℕ) (x : X) (rest : List X) (at : drop i xs ≡ x ∷ rest) where
  within : i < length xs
  within = omega (arith, length-drop i xs, ap (λ (l : List X). length l) at)

  both : x ∷ rest ≡ get_or xs i x ∷ drop (i + 1) xs
  both = sym at ∙ drop_more xs i x within

  pub one_taken : take (i + 1) xs ≡ take i xs ++ x ∷ []
  one_taken =
      let eq : x ∷ rest ≡ get_or xs i x ∷ drop (i + 1) xs = both in
      let same : x ≡ get_or xs i x = cc in
      take_more xs i x within ∙ ap (λ (y : X). take i xs ++ y ∷ []) (sym same)

  pub one_dropped : drop (i + 1) xs ≡ rest
  one_dropped =
      let eq : x ∷ rest ≡ get_or xs i x ∷ drop (i + 1) xs = both in
      let same : rest ≡ drop (i + 1) xs = cc in sym same

-- ---- entries

abbrev counted : Bool → ℕ
counted test = cond test 1 0

-- before the sealed ones are the wide and the rolled ones
pub before_sealed : (es : List Entry) → count_of Wide es + count_of Rolled es ≡ count_before Sealed es
before_sealed [] = refl
before_sealed (e ∷ es) =
    omega (
      arith,
      sum_by-cons (λ (e : Entry). counted (rank e.kind == 0)) e es,
      sum_by-cons (λ (e : Entry). counted (rank e.kind == 1)) e es,
      sum_by-cons (λ (e : Entry). counted (nat_lt (rank e.kind) 2)) e es,
      split (rank e.kind),
      before_sealed es,
    )
  where
    split : (a : ℕ) → counted (a == 0) + counted (a == 1) ≡ counted (nat_lt a 2)
    split a = grind (arith, nat_tests)

seam : {X : Type 0} (xs ys : List X) (x d : X) → get_or (xs ++ x ∷ ys) (length xs) d ≡ x
seam [] ys x d = refl
seam (y ∷ xs) ys x d = seam xs ys x d

-- what comes after so many
pub stands_behind : {X : Type 0} (xs ys : List X) (x d : X) (n : ℕ) → length xs ≡ n
    → get_or (xs ++ x ∷ ys) n d ≡ x
stands_behind xs ys x d n long = subst (λ (k : ℕ). get_or (xs ++ x ∷ ys) k d ≡ x) long (seam xs ys x d)
