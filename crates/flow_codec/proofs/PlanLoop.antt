-- The steps of a plan, one field after the other.
use Rattle.std.proofs.Common.{◌≡◌, ℕ, ◌+◌, ◌<◌, ◌≤◌, Bool, true, false, cond, eqb, List, [], ◌∷◌, ◌++◌, length, drop}
use Rattle.std.proofs.Common.{get_or, Option, Some, None, refl, sym, ap, ◌∙◌, append_assoc, add_assoc, zero-add}
use Rattle.std.proofs.Common.{drop-cons, add-one}
use Rattle.std.specs.Prelude.{unwrap_or}
use Rattle.std.proofs.lemmas.List.{drop_all}
use Rattle.flow_elements.specs.declared.element.ElementId.{ElementId}
use Rattle.flow_codec.specs.declared.plan.Role.{Role}
use Rattle.flow_codec.specs.declared.plan.FieldStep.{FieldStep}
use Rattle.flow_codec.specs.declared.plan.FieldStep.TheVariants.{Skip, Fixed, Variable}
use Rattle.flow_codec.specs.Plan.{role_of, is_counted, step_of, fixed_step, steps_of, skip_of, skipped, before_steps}

-- steps after a skip that isn't among them yet, if there is one
abbrev pub skipping : Option ℕ → List FieldStep → List FieldStep
skipping None steps = steps
skipping (Some count) steps = skipped count steps

abbrev pub IsOther : FieldStep → Type 0
IsOther (Skip count) = ⊥
IsOther (Fixed role len) = Unit {0}
IsOther (Variable role) = Unit {0}

pub is_other : (step : FieldStep) → ((count : ℕ) → step ≡ Skip count → ⊥) → IsOther step
is_other (Skip count) h = h count refl
is_other (Fixed role len) h = tt
is_other (Variable role) h = tt

merges : (a b : ℕ) (steps : List FieldStep) → skipped (a + b) steps ≡ skipped a (skipped b steps)
merges a b [] = refl
merges a b (Skip more ∷ steps) = ap (λ (n : ℕ). Skip n ∷ steps) (add_assoc a b more)
merges a b (Fixed role len ∷ steps) = refl
merges a b (Variable role ∷ steps) = refl

opens : (gap : Option ℕ) (count : ℕ) (steps : List FieldStep)
    → skipping (Some (unwrap_or gap 0 + count)) steps ≡ skipping gap (skipped count steps)
opens None count steps = ap (λ (n : ℕ). skipped n steps) (zero-add count)
opens (Some n) count steps = merges n count steps

closes : (gap : Option ℕ) (step : FieldStep) (steps : List FieldStep) → IsOther step
    → skipping gap (before_steps step steps) ≡ skip_of gap ++ step ∷ steps
closes gap (Skip count) steps h = absurd h
closes None (Fixed role len) steps h = refl
closes (Some n) (Fixed role len) steps h = refl
closes None (Variable role) steps h = refl
closes (Some n) (Variable role) steps h = refl

last : (gap : Option ℕ) → skipping gap [] ≡ skip_of gap
last None = refl
last (Some n) = refl

skip_len : (id : ElementId) (len count : ℕ) → step_of id len ≡ Skip count → count ≡ len
skip_len id len count = by (eqb len 65535) (role_of id)
  where
    either : (b : Bool) (role : Role) → cond b (Fixed role len) (Skip len) ≡ Skip count → count ≡ len
    either true role e = absurd cc
    either false role e = cc

    fixed : (role : Option Role) → fixed_step role len ≡ Skip count → count ≡ len
    fixed None e = cc
    fixed (Some role) e = either (is_counted role len) role e

    by : (b : Bool) (role : Option Role) → cond b (Variable role) (fixed_step role len) ≡ Skip count → count ≡ len
    by true role e = absurd cc
    by false role e = fixed role e

module _ (fs : List (ElementId × ℕ)) (i : ℕ) (d : ElementId × ℕ) (steps : List FieldStep) (gap : Option ℕ)
    (total : List FieldStep) (so_far : steps ++ skipping gap (steps_of (drop i fs)) ≡ total) where
  split : i < length fs → drop i fs ≡ get_or fs i d ∷ drop (i + 1) fs
  split lt = rw add-one (drop-cons fs i d lt)

  one : i < length fs → steps_of (drop i fs) ≡ before_steps (step_of (get_or fs i d).0 (get_or fs i d).1)
      (steps_of (drop (i + 1) fs))
  unfolding steps_of
  one lt = rw (split lt) refl

  pub skips : i < length fs → (count : ℕ) → step_of (get_or fs i d).0 (get_or fs i d).1 ≡ Skip count
      → (steps ++ skipping (Some (unwrap_or gap 0 + count)) (steps_of (drop (i + 1) fs)) ≡ total)
      × (count ≡ (get_or fs i d).1)
  skips lt count is = (
    ap (λ (ss : List FieldStep). steps ++ ss) (opens gap count (steps_of (drop (i + 1) fs))
        ∙ ap (λ (s : FieldStep). skipping gap (before_steps s (steps_of (drop (i + 1) fs)))) (sym is)
        ∙ ap (skipping gap) (sym (one lt))) ∙ so_far,
    skip_len (get_or fs i d).0 (get_or fs i d).1 count is,
  )

  pub goes_on : i < length fs → (step : FieldStep) → step_of (get_or fs i d).0 (get_or fs i d).1 ≡ step → IsOther step
      → ((steps ++ skip_of gap) ++ step ∷ []) ++ skipping None (steps_of (drop (i + 1) fs)) ≡ total
  goes_on lt step is other =
      let more = steps_of (drop (i + 1) fs) in
      let parts : ((steps ++ skip_of gap) ++ step ∷ []) ++ more ≡ steps ++ (skip_of gap ++ step ∷ more) =
      simp append_assoc in
      parts ∙ ap (λ (ss : List FieldStep). steps ++ ss) (sym (closes gap step more other)
      ∙ ap (λ (s : FieldStep). skipping gap (before_steps s more)) (sym is) ∙ ap (skipping gap) (sym (one lt))) ∙ so_far

  pub is_done : length fs ≤ i → steps ++ skip_of gap ≡ total
  unfolding steps_of
  is_done le =
      let none : drop i fs ≡ [] = drop_all i fs le in
      ap (λ (ss : List FieldStep). steps ++ ss) (sym (last gap)
      ∙ ap (λ (rest : List (ElementId × ℕ)). skipping gap (steps_of rest)) (sym none)) ∙ so_far
