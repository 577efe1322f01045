-- A line is made value by value.
use Rattle.std.proofs.Common.{◌≡◌, ◌∙◌, ℕ, List, [], ◌∷◌, ◌++◌, append_assoc, ap, refl, sym}
use Rattle.std.specs.List.{join_with_byte}

-- the text held, and values after it, each followed by the octet between two
abbrev pub with_values : ℕ → List ℕ → List (List ℕ) → List ℕ
with_values s held [] = held
with_values s held (v ∷ vs) = with_values s (held ++ v ++ s ∷ []) vs

joined : (s : ℕ) (v : List ℕ) (vs : List (List ℕ)) (last : List ℕ)
    → join_with_byte s (v ∷ (vs ++ last ∷ [])) ≡ v ++ s ∷ join_with_byte s (vs ++ last ∷ [])
joined s v [] last = refl
joined s v (w ∷ ws) last = refl

with_last : (s : ℕ) (held z : List ℕ) (vs : List (List ℕ)) (last : List ℕ)
    → with_values s held vs ++ last ++ z ≡ held ++ (join_with_byte s (vs ++ last ∷ []) ++ z)
with_last s held z [] last = append_assoc held last z
with_last s held z (v ∷ vs) last =
    let rest = join_with_byte s (vs ++ last ∷ []) ++ z in
    with_last s (held ++ v ++ s ∷ []) z vs last
    ∙ append_assoc (held ++ v) (s ∷ []) rest ∙ append_assoc held v (s ∷ rest)
    ∙ ap (λ (l : List ℕ). held ++ l) (sym (append_assoc v (s ∷ join_with_byte s (vs ++ last ∷ [])) z)
    ∙ ap (λ (l : List ℕ). l ++ z) (sym (joined s v vs last)))

-- a line that begins with `a`, of values and a last one, and ends with `z`
pub line_made : (s : ℕ) (held a z : List ℕ) (vs : List (List ℕ)) (last : List ℕ)
    → with_values s (held ++ a) vs ++ last ++ z ≡ held ++ (a ++ join_with_byte s (vs ++ last ∷ []) ++ z)
line_made s held a z vs last =
    with_last s (held ++ a) z vs last ∙ append_assoc held a (join_with_byte s (vs ++ last ∷ []) ++ z)
    ∙ ap (λ (l : List ℕ). held ++ l) (sym (append_assoc a (join_with_byte s (vs ++ last ∷ [])) z))
