-- Files of an archive, with their entries and their parts, joined, taken and dropped.
use Rattle.std.proofs.Common.{◌≡◌, ℕ, zero, suc, ◌+◌, Bool, List, [], ◌∷◌, ◌++◌, length, map, take, drop, refl, sym}
use Rattle.std.proofs.Common.{◌∙◌, ap, subst, arith}
use Rattle.std.specs.List.{AllByRecursion}
use Rattle.std.proofs.lemmas.List.{drop-drop, take-append-drop}
use Rattle.flow_manifest.specs.declared.manifest.Entry.{Entry}
use Rattle.flow_model.specs.State.{Part}
use Rattle.flow_recover.specs.Opening.{FrozenStand}
use Rattle.flow_archive.specs.Frozen.{AreHeldAs, Frozen}
use Rattle.flow_archive.specs.Parts.{part_at, parts_at}
use Rattle.flow_archive.specs.UnderWay.{numbers_of}

module _ {S : Type 0} (octets : S → List ℕ) where
  pub parts_join : (es fs : List Entry) (xs ys : List S) → length xs ≡ length es
      → parts_at octets (es ++ fs) (xs ++ ys) ≡ parts_at octets es xs ++ parts_at octets fs ys
  parts_join [] fs [] ys long = refl
  parts_join [] fs (x ∷ xs) ys long = absurd (omega (arith, long))
  parts_join (e ∷ es) fs [] ys long = absurd (omega (arith, long))
  parts_join (e ∷ es) fs (x ∷ xs) ys long =
      ap (λ (l : List Part). part_at e.kind e (octets x) ∷ l) (parts_join es fs xs ys (omega (arith, long)))

  no_parts : (es : List Entry) → parts_at octets es [] ≡ []
  no_parts [] = refl
  no_parts (e ∷ es) = refl

  pub parts_take : (n : ℕ) (es : List Entry) (xs : List S)
      → parts_at octets (take n es) (take n xs) ≡ take n (parts_at octets es xs)
  parts_take zero es xs = refl
  parts_take (suc n) [] xs = refl
  parts_take (suc n) (e ∷ es) [] = refl
  parts_take (suc n) (e ∷ es) (x ∷ xs) =
      ap (λ (l : List Part). part_at e.kind e (octets x) ∷ l) (parts_take n es xs)

  pub parts_drop : (n : ℕ) (es : List Entry) (xs : List S)
      → parts_at octets (drop n es) (drop n xs) ≡ drop n (parts_at octets es xs)
  parts_drop zero es xs = refl
  parts_drop (suc n) [] xs = refl
  parts_drop (suc n) (e ∷ es) [] = no_parts (drop n es)
  parts_drop (suc n) (e ∷ es) (x ∷ xs) = parts_drop n es xs

  pub frozen_join : (es fs : List Entry) (ps qs : List Part) (xs ys : List S) → FrozenStand octets es ps xs
      → FrozenStand octets fs qs ys → FrozenStand octets (es ++ fs) (ps ++ qs) (xs ++ ys)
  frozen_join [] fs [] qs [] ys here there = there
  frozen_join [] fs [] qs (x ∷ xs) ys here there = absurd here
  frozen_join [] fs (p ∷ ps) qs xs ys here there = absurd here
  frozen_join (e ∷ es) fs [] qs xs ys here there = absurd here
  frozen_join (e ∷ es) fs (p ∷ ps) qs [] ys here there = absurd here
  frozen_join (e ∷ es) fs (p ∷ ps) qs (x ∷ xs) ys here there =
      (here.0, frozen_join es fs ps qs xs ys here.1 there)

  pub frozen_take : (n : ℕ) (es : List Entry) (ps : List Part) (xs : List S) → FrozenStand octets es ps xs
      → FrozenStand octets (take n es) (take n ps) (take n xs)
  frozen_take zero es ps xs is = tt
  frozen_take (suc n) [] [] [] is = tt
  frozen_take (suc n) [] [] (x ∷ xs) is = absurd is
  frozen_take (suc n) [] (p ∷ ps) xs is = absurd is
  frozen_take (suc n) (e ∷ es) [] xs is = absurd is
  frozen_take (suc n) (e ∷ es) (p ∷ ps) [] is = absurd is
  frozen_take (suc n) (e ∷ es) (p ∷ ps) (x ∷ xs) is = (is.0, frozen_take n es ps xs is.1)

  pub frozen_drop : (n : ℕ) (es : List Entry) (ps : List Part) (xs : List S) → FrozenStand octets es ps xs
      → FrozenStand octets (drop n es) (drop n ps) (drop n xs)
  frozen_drop zero es ps xs is = is
  frozen_drop (suc n) [] [] [] is = tt
  frozen_drop (suc n) [] [] (x ∷ xs) is = absurd is
  frozen_drop (suc n) [] (p ∷ ps) xs is = absurd is
  frozen_drop (suc n) (e ∷ es) [] xs is = absurd is
  frozen_drop (suc n) (e ∷ es) (p ∷ ps) [] is = absurd is
  frozen_drop (suc n) (e ∷ es) (p ∷ ps) (x ∷ xs) is = frozen_drop n es ps xs is.1

pub held_join : (h : Bool) (es fs : List Entry) (xs ys : List Frozen) → AreHeldAs h es xs → AreHeldAs h fs ys
    → AreHeldAs h (es ++ fs) (xs ++ ys)
held_join h [] fs [] ys here there = there
held_join h [] fs (x ∷ xs) ys here there = absurd here
held_join h (e ∷ es) fs [] ys here there = absurd here
held_join h (e ∷ es) fs (x ∷ xs) ys here there = (here.0, held_join h es fs xs ys here.1 there)

pub held_take : (h : Bool) (n : ℕ) (es : List Entry) (xs : List Frozen) → AreHeldAs h es xs
    → AreHeldAs h (take n es) (take n xs)
held_take h zero es xs is = tt
held_take h (suc n) [] [] is = tt
held_take h (suc n) [] (x ∷ xs) is = absurd is
held_take h (suc n) (e ∷ es) [] is = absurd is
held_take h (suc n) (e ∷ es) (x ∷ xs) is = (is.0, held_take h n es xs is.1)

pub held_drop : (h : Bool) (n : ℕ) (es : List Entry) (xs : List Frozen) → AreHeldAs h es xs
    → AreHeldAs h (drop n es) (drop n xs)
held_drop h zero es xs is = is
held_drop h (suc n) [] [] is = tt
held_drop h (suc n) [] (x ∷ xs) is = absurd is
held_drop h (suc n) (e ∷ es) [] is = absurd is
held_drop h (suc n) (e ∷ es) (x ∷ xs) is = held_drop h n es xs is.1

pub held_numbers : (h : Bool) (es : List Entry) (xs : List Frozen) → AreHeldAs h es xs
    → numbers_of xs ≡ map (λ e. e.file) es
held_numbers h [] [] is = refl
held_numbers h [] (x ∷ xs) is = absurd is
held_numbers h (e ∷ es) [] is = absurd is
held_numbers h (e ∷ es) (x ∷ xs) is =
    ap (λ (y : Entry). y.file ∷ numbers_of xs) is.0.entry_is
    ∙ ap (λ (l : List ℕ). e.file ∷ l) (held_numbers h es xs is.1)

-- what holds of entries holds of the files that they name
pub held_all : (h : Bool) (P : ℕ → Type 0) (es : List Entry) (xs : List Frozen) → AreHeldAs h es xs
    → AllByRecursion (λ e. P e.file) es → AllByRecursion (λ f. P f.entry.file) xs
held_all h P [] [] is all = tt
held_all h P [] (x ∷ xs) is all = absurd is
held_all h P (e ∷ es) [] is all = absurd is
held_all h P (e ∷ es) (x ∷ xs) is all =
    (subst (λ (y : Entry). P y.file) (sym is.0.entry_is) all.0, held_all h P es xs is.1 all.1)

-- what holds of the numbers of files
pub numbered : (P : ℕ → Type 0) (xs : List Frozen) → AllByRecursion P (numbers_of xs)
    → AllByRecursion (λ x. P x.entry.file) xs
numbered P [] all = tt
numbered P (x ∷ xs) all = (all.0, numbered P xs all.1)

pub in_three : (n k : ℕ) (xs : List Entry) → xs ≡ take n xs ++ (take k (drop n xs) ++ drop (n + k) xs)
in_three n k xs =
    sym (take-append-drop n xs)
    ∙ ap (λ (l : List Entry). take n xs ++ l) (sym (take-append-drop k (drop n xs))
    ∙ ap (λ (l : List Entry). take k (drop n xs) ++ l) (drop-drop k n xs))
