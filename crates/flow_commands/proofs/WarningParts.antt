-- The parts of a warning, one after the other.
use Rattle.std.proofs.Common.{◌≡◌, ◌∙◌, inl, inr, ℕ, zero, suc, ◌+◌, ◌<◌, List, [], ◌∷◌, ◌++◌, Option, Some, None}
use Rattle.std.proofs.Common.{append-nil, append_assoc, ap, arith, codes, get_or, length, refl, sym, take}
use Rattle.std.proofs.lemmas.Bool.{cases_lt}
use Rattle.std.proofs.lemmas.List.{take_all, take_more}
use Rattle.std.specs.List.{filter_map, flat_map, join_by}
use Rattle.flow_commands.specs.declared.warning.LackPart.{LackPart}
use Rattle.flow_commands.specs.Warnings.{part_text}

-- those that are there
abbrev there : List (Option LackPart) → List LackPart
there parts = filter_map (λ part. part) parts

abbrev joined : List LackPart → List ℕ
joined parts = join_by part_text (codes "; ") parts

abbrev pub parts_text : List (Option LackPart) → List ℕ
parts_text parts = joined (there parts)

abbrev separator_after : List LackPart → List ℕ
separator_after [] = []
separator_after (part ∷ parts) = codes "; "

-- what comes between these and one more
abbrev pub separator : List (Option LackPart) → List ℕ
separator parts = separator_after (there parts)

-- ---- one part more

there_more : (parts : List (Option LackPart)) (part : LackPart)
    → there (parts ++ Some part ∷ []) ≡ there parts ++ part ∷ []
there_more [] part = refl
there_more (None ∷ parts) part = there_more parts part
there_more (Some x ∷ parts) part = ap (λ (l : List LackPart). x ∷ l) (there_more parts part)

there_same : (parts : List (Option LackPart)) → there (parts ++ None ∷ []) ≡ there parts
there_same [] = refl
there_same (None ∷ parts) = there_same parts
there_same (Some x ∷ parts) = ap (λ (l : List LackPart). x ∷ l) (there_same parts)

rest_more : (parts : List LackPart) (part : LackPart)
    → flat_map (λ x. codes "; " ++ part_text x) (parts ++ part ∷ [])
    ≡ flat_map (λ x. codes "; " ++ part_text x) parts ++ (codes "; " ++ part_text part)
rest_more [] part = append-nil (codes "; " ++ part_text part)
rest_more (x ∷ xs) part =
    ap (λ (l : List ℕ). (codes "; " ++ part_text x) ++ l) (rest_more xs part)
    ∙ sym (append_assoc (codes "; " ++ part_text x) (flat_map (λ y. codes "; " ++ part_text y) xs)
    (codes "; " ++ part_text part))

joined_more : (parts : List LackPart) (part : LackPart)
    → joined parts ++ (separator_after parts ++ part_text part) ≡ joined (parts ++ part ∷ [])
joined_more [] part = sym (append-nil (part_text part))
joined_more (x ∷ xs) part =
    append_assoc (part_text x) (flat_map (λ y. codes "; " ++ part_text y) xs) (codes "; " ++ part_text part)
    ∙ ap (λ (l : List ℕ). part_text x ++ l) (sym (rest_more xs part))

-- after one part there are some
some_then : (parts : List LackPart) (part : LackPart) → codes "; " ≡ separator_after (parts ++ part ∷ [])
some_then [] part = refl
some_then (x ∷ xs) part = refl

-- ---- the next of all parts

within : (parts : List (Option LackPart)) (i : ℕ) (part : LackPart) → get_or parts i None ≡ Some part
    → i < length parts
within [] i part is = absurd cc
within (x ∷ xs) zero part is = omega arith
within (x ∷ xs) (suc i) part is = let less = within xs i part is in omega (arith, less)

next_there : (parts : List (Option LackPart)) (i : ℕ) (part : LackPart) → get_or parts i None ≡ Some part
    → there (take i parts) ++ part ∷ [] ≡ there (take (i + 1) parts)
next_there parts i part is =
    sym (ap there (take_more parts i None (within parts i part is)
    ∙ ap (λ (p : Option LackPart). take i parts ++ p ∷ []) is)
    ∙ there_more (take i parts) part)

next_same : (parts : List (Option LackPart)) (i : ℕ) → get_or parts i None ≡ None
    → there (take i parts) ≡ there (take (i + 1) parts)
next_same parts i is = elim (cases_lt i (length parts)) [
  | inl less ↦
      sym (ap there (take_more parts i None less ∙ ap (λ (p : Option LackPart). take i parts ++ p ∷ []) is)
      ∙ there_same (take i parts))
  | inr end ↦
      ap there (take_all i parts end ∙ sym (take_all (i + 1) parts (omega (arith, end))))
]

-- one that is there is written after the separator
pub text_more : (parts : List (Option LackPart)) (i : ℕ) (part : LackPart) (before : List ℕ)
    → get_or parts i None ≡ Some part → before ≡ separator (take i parts)
    → parts_text (take i parts) ++ (before ++ part_text part) ≡ parts_text (take (i + 1) parts)
text_more parts i part before is separates =
    ap (λ (b : List ℕ). parts_text (take i parts) ++ (b ++ part_text part)) separates
    ∙ joined_more (there (take i parts)) part ∙ ap joined (next_there parts i part is)

pub separator_more : (parts : List (Option LackPart)) (i : ℕ) (part : LackPart) → get_or parts i None ≡ Some part
    → codes "; " ≡ separator (take (i + 1) parts)
separator_more parts i part is =
    some_then (there (take i parts)) part ∙ ap separator_after (next_there parts i part is)

-- one that isn't there changes nothing
pub text_same : (parts : List (Option LackPart)) (i : ℕ) → get_or parts i None ≡ None
    → parts_text (take i parts) ≡ parts_text (take (i + 1) parts)
text_same parts i is = ap joined (next_same parts i is)

pub separator_same : (parts : List (Option LackPart)) (i : ℕ) (before : List ℕ) → get_or parts i None ≡ None
    → before ≡ separator (take i parts) → before ≡ separator (take (i + 1) parts)
separator_same parts i before is separates = separates ∙ ap separator_after (next_same parts i is)
