-- The messages of a span are those between two places.
use Rattle.std.proofs.Common.{◌≡◌, ◌∙◌, ℕ, zero, suc, List, [], ◌∷◌, length, Bool, true, false, refl, sym, ap, take, drop}
use Rattle.std.specs.Prelude.{◌||◌, filter, if◌then◌else◌}
use Rattle.std.specs.List.{list_any}
use Rattle.flow_measure.specs.History.{Accepted}
use Rattle.flow_export.specs.Span.{before_first, has_flow, is_of_span, span_messages, up_to_last}

later_false : (x y : Bool) → (x || y) ≡ false → y ≡ false
later_false true y e = absurd cc
later_false false y e = e

module _ (from to : ℕ) where
  last_none : (xs : List Accepted) → list_any (has_flow from to) xs ≡ false → up_to_last from to xs ≡ []
  last_none [] none = refl
  last_none (x ∷ xs) none = rw none refl

  rest_none : (n : ℕ) (xs : List Accepted) → list_any (has_flow from to) xs ≡ false
      → list_any (has_flow from to) (drop n xs) ≡ false
  rest_none zero xs none = none
  rest_none (suc n) [] none = none
  rest_none (suc n) (x ∷ xs) none =
      rest_none n xs (later_false (has_flow from to x) (list_any (has_flow from to) xs) none)

  -- the messages up to the last one are the first ones
  pub last_prefix : (xs : List Accepted) → take (length (up_to_last from to xs)) xs ≡ up_to_last from to xs
  last_prefix [] = refl
  last_prefix (x ∷ xs) = by (list_any (has_flow from to) (x ∷ xs)) (last_prefix xs)
    where
      by : (b : Bool) → take (length (up_to_last from to xs)) xs ≡ up_to_last from to xs
          → take (length (if b then x ∷ up_to_last from to xs else [])) (x ∷ xs)
          ≡ (if b then x ∷ up_to_last from to xs else [])
      by true others = ap (λ (l : List Accepted). x ∷ l) others
      by false others = refl

  -- those of the rest
  last_rest : (n : ℕ) (xs : List Accepted) → up_to_last from to (drop n xs) ≡ drop n (up_to_last from to xs)
  last_rest zero xs = refl
  last_rest (suc n) [] = refl
  last_rest (suc n) (x ∷ xs) = by (list_any (has_flow from to) (x ∷ xs)) refl (last_rest n xs)
    where
      by : (b : Bool) → list_any (has_flow from to) (x ∷ xs) ≡ b
          → up_to_last from to (drop n xs) ≡ drop n (up_to_last from to xs)
          → up_to_last from to (drop n xs) ≡ drop (suc n) (if b then x ∷ up_to_last from to xs else [])
      by true is others = others
      by false is others =
          last_none (drop n xs)
          (rest_none n xs (later_false (has_flow from to x) (list_any (has_flow from to) xs) is))

  pub span_is : (kept : List Accepted) → span_messages from to kept
      ≡ filter (is_of_span from to)
      (drop (before_first from to kept) (take (length (up_to_last from to kept)) kept))
  span_is kept =
      ap (filter (is_of_span from to))
      (last_rest (before_first from to kept) kept
      ∙ ap (drop (before_first from to kept)) (sym (last_prefix kept)))
