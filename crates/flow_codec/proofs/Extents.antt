-- What a step passes over, and what all of them do, beside the fields of the definition.
use Rattle.std.proofs.Common.{◌≡◌, ℕ, ◌+◌, ◌≤◌, Bool, true, false, cond, ltb, eqb, List, [], ◌∷◌, ◌++◌, length, take}
use Rattle.std.proofs.Common.{drop, inl, inr, Option, Some, None, Result, Ok, Err, refl, sym, ap, ◌∙◌, append_assoc}
use Rattle.std.proofs.Common.{arith}
use Rattle.std.specs.Prelude.{sum_by, nat_lt, ◌&&◌}
use Rattle.std.specs.List.{list_all}
use Rattle.std.specs.Int.{w16, from_be_bytes}
use Rattle.std.proofs.lemmas.Bool.{ltb-false, ltb-true, le-ltb, lt-ltb, ne_eqb, cases_lt}
use Rattle.std.proofs.lemmas.List.{take-append-drop, drop-drop, length-drop}
use Rattle.std.proofs.lemmas.List.Sums.{sum_by-cons}
use Rattle.std.proofs.Math.Seq.{take-add}
use Rattle.flow_elements.specs.declared.element.ElementId.{ElementId}
use Rattle.flow_codec.specs.declared.error.MessageError.{MessageError}
use Rattle.flow_codec.specs.declared.error.MessageError.TheVariants.{RecordCut}
use Rattle.flow_codec.specs.declared.plan.Role.{Role}
use Rattle.flow_codec.specs.declared.plan.FieldStep.{FieldStep}
use Rattle.flow_codec.specs.declared.plan.FieldStep.TheVariants.{Skip, Fixed, Variable}
use Rattle.flow_codec.specs.Layout.{least_length}
use Rattle.flow_codec.specs.Plan.{role_of, is_counted, step_of, fixed_step, steps_of, before_steps}
use Rattle.flow_codec.specs.Reading.{◌>>=◌, behind, number_at, octets_at, counted_at, field_at, extent_at}
use Rattle.flow_codec.specs.Extent.{step_at, extent_by}
use Rattle.flow_codec.proofs.Steps.{bind_ok, guard_ok, ok_is}

and_both : (a b : Bool) → (a && b) ≡ true → (a ≡ true) × (b ≡ true)
and_both true b e = (refl, e)
and_both false b e = absurd cc

-- ---- what is passed over and what is left are the octets

pub octets_parts : (at len : ℕ) (octets : List ℕ) (x : List ℕ × List ℕ) → octets_at at len octets ≡ Ok x
    → octets ≡ x.0 ++ x.1
octets_parts at len octets x e =
    let g = guard_ok (ltb (length octets) len) (RecordCut at) (take len octets, drop len octets) x e in
    sym (take-append-drop len octets) ∙ ap (λ (p : List ℕ × List ℕ). p.0 ++ p.1) g.1

pub behind_parts : (front octets : List ℕ) (read : Result (List ℕ × List ℕ) MessageError) (x : List ℕ × List ℕ)
    → ((y : List ℕ × List ℕ) → read ≡ Ok y → octets ≡ y.0 ++ y.1) → behind front read ≡ Ok x
    → front ++ octets ≡ x.0 ++ x.1
behind_parts front octets (Ok y) x parts e =
    let g = ok_is (front ++ y.0, y.1) x e in
    ap (λ (t : List ℕ). front ++ t) (parts y refl) ∙ sym (append_assoc front y.0 y.1)
    ∙ ap (λ (p : List ℕ × List ℕ). p.0 ++ p.1) g
behind_parts front octets (Err d) x parts e = absurd cc

pub counted_parts : (at : ℕ) (octets : List ℕ) (x : List ℕ × List ℕ) → counted_at at octets ≡ Ok x → octets ≡ x.0 ++ x.1
unfolding counted_at
counted_parts at [] x e = absurd cc
counted_parts at (n ∷ rest) x e = by (ltb n 255) e
  where
    by : (b : Bool) → cond b (behind (n ∷ []) (octets_at at n rest)) (number_at (RecordCut at) w16 rest >>=
        λ len. behind (n ∷ take 2 rest) (octets_at at len.0 len.1)) ≡ Ok x → n ∷ rest ≡ x.0 ++ x.1
    by true h = behind_parts (n ∷ []) rest (octets_at at n rest) x (λ y. octets_parts at n rest y) h
    by false h =
        let p = bind_ok (number_at (RecordCut at) w16 rest)
        (λ len. behind (n ∷ take 2 rest) (octets_at at len.0 len.1)) x h in
        let g = guard_ok (ltb (length rest) 2) (RecordCut at) (from_be_bytes w16 (take 2 rest), drop 2 rest) p.0 p.1 in
        let left : drop 2 rest ≡ p.0.1 = ap (λ (q : ℕ × List ℕ). q.1) g.1 in
        let whole : n ∷ rest ≡ (n ∷ take 2 rest) ++ p.0.1 = ap (λ (t : List ℕ). n ∷ t) (sym (take-append-drop 2 rest))
        ∙ ap (λ (t : List ℕ). (n ∷ take 2 rest) ++ t) left in
        whole ∙ behind_parts (n ∷ take 2 rest) p.0.1 (octets_at at p.0.0 p.0.1) x
        (λ y. octets_parts at p.0.0 p.0.1 y) p.2

pub step_parts : (at : ℕ) (step : FieldStep) (octets : List ℕ) (x : List ℕ × List ℕ) → step_at at step octets ≡ Ok x
    → octets ≡ x.0 ++ x.1
step_parts at (Skip count) octets x e = octets_parts at count octets x e
step_parts at (Fixed role count) octets x e = octets_parts at count octets x e
step_parts at (Variable role) octets x e = counted_parts at octets x e

-- ---- a field of variable length with its length octets, at once

octets_then : (at a b : ℕ) (octets : List ℕ)
    → octets_at at (a + b) octets ≡ (octets_at at a octets >>= λ first. behind first.0 (octets_at at b first.1))
octets_then at a b octets =
    elim (cases_lt (length octets) a) [
      | inl lt ↦
          let one : ltb (length octets) (a + b) ≡ true = lt-ltb _ _ (omega arith) in
          let two : ltb (length octets) a ≡ true = lt-ltb _ _ lt in
          rw (one, two) refl
      | inr le ↦
          let two : ltb (length octets) a ≡ false = le-ltb _ _ le in
          elim (cases_lt (length octets) (a + b)) [
            | inl lt ↦
                let one : ltb (length octets) (a + b) ≡ true = lt-ltb _ _ lt in
                let last : ltb (length (drop a octets)) b ≡ true = lt-ltb _ _ (omega (arith, length-drop a octets)) in
                rw (one, two, last) refl
            | inr long ↦
                let one : ltb (length octets) (a + b) ≡ false = le-ltb _ _ long in
                let last : ltb (length (drop a octets)) b ≡ false = le-ltb _ _ (omega (arith, length-drop a octets)) in
                rw (one, two, last, take-add a b octets, drop-drop b a octets) refl
          ]
    ]

-- a field of variable length after three length octets, at once
pub counted_long : (at : ℕ) (octets : List ℕ) (n : ℕ) (rest : List ℕ) (len : ℕ) (after : List ℕ) → octets ≡ n ∷ rest
    → 255 ≤ n → number_at (RecordCut at) w16 rest ≡ Ok (len, after)
    → counted_at at octets ≡ octets_at at (3 + len) octets
unfolding counted_at
counted_long at octets n rest len after is le e =
    let wide : ltb n 255 ≡ false = le-ltb _ _ le in
    let g = guard_ok (ltb (length rest) 2) (RecordCut at) (from_be_bytes w16 (take 2 rest), drop 2 rest) (
      len,
      after,
    ) e in
    let left : drop 2 rest ≡ after = ap (λ (q : ℕ × List ℕ). q.1) g.1 in
    let long : ltb (length (n ∷ rest)) 3 ≡ false = le-ltb _ _ (omega (arith, ltb-false (length rest) 2 g.0)) in
    let one : octets_at at (3 + len) (n ∷ rest) ≡ behind (n ∷ take 2 rest) (octets_at at len (drop 2 rest)) =
    octets_then at 3 len (n ∷ rest) ∙ rw long refl in
    rw (is, wide, e, one, left) refl

-- ---- the steps of a plan give the extent of the fields

pub behind_behind : (a b : List ℕ) (read : Result (List ℕ × List ℕ) MessageError)
    → behind a (behind b read) ≡ behind (a ++ b) read
behind_behind a b (Ok x) = ap (λ (t : List ℕ). let r : Result (List ℕ × List ℕ) MessageError = Ok (t, x.1) in
    r) (sym (append_assoc a b x.0))
behind_behind a b (Err d) = refl

abbrev each : (List ℕ → Result (List ℕ × List ℕ) MessageError) → List ℕ × List ℕ → Result (List ℕ × List ℕ) MessageError
each f first = behind first.0 (f first.1)

each_same : (r : Result (List ℕ × List ℕ) MessageError) (f g : List ℕ → Result (List ℕ × List ℕ) MessageError)
    → ((octets : List ℕ) → f octets ≡ g octets) → (r >>= each f) ≡ (r >>= each g)
each_same (Ok x) f g same = ap (behind x.0) (same x.1)
each_same (Err d) f g same = refl

-- two readings one after the other, and more after them
in_turn : (r : Result (List ℕ × List ℕ) MessageError) (f g : List ℕ → Result (List ℕ × List ℕ) MessageError)
    → ((r >>= each f) >>= each g) ≡ (r >>= each (λ octets. f octets >>= each g))
in_turn (Ok x) f g = by (f x.1)
  where
    by : (s : Result (List ℕ × List ℕ) MessageError) → (behind x.0 s >>= each g) ≡ behind x.0 (s >>= each g)
    by (Ok y) = sym (behind_behind x.0 y.0 (g y.1))
    by (Err d) = refl
in_turn (Err d) f g = refl

before_is : (at : ℕ) (step : FieldStep) (steps : List FieldStep) (octets : List ℕ)
    → extent_by at (before_steps step steps) octets ≡ (step_at at step octets >>= each (extent_by at steps))
unfolding extent_by
before_is at (Skip count) [] octets = refl
before_is at (Skip count) (Skip more ∷ steps) octets =
    ap (λ (r : Result (List ℕ × List ℕ) MessageError). r >>=
    each (extent_by at steps)) (octets_then at count more octets)
    ∙ in_turn (octets_at at count octets) (octets_at at more) (extent_by at steps)
before_is at (Skip count) (Fixed role len ∷ steps) octets = refl
before_is at (Skip count) (Variable role ∷ steps) octets = refl
before_is at (Fixed role len) steps octets = refl
before_is at (Variable role) steps octets = refl

step_is : (at : ℕ) (id : ElementId) (len : ℕ) (octets : List ℕ)
    → step_at at (step_of id len) octets ≡ field_at at len octets
step_is at id len octets = by (eqb len 65535) (role_of id)
  where
    fixed : (role : Option Role) → step_at at (fixed_step role len) octets ≡ octets_at at len octets
    fixed None = refl
    fixed (Some role) = elim (is_counted role len) as
        (λ b. step_at at (cond b (Fixed role len) (Skip len)) octets ≡ octets_at at len octets) [
          | true ↦ refl
          | false ↦
              refl
        ]

    by : (b : Bool) (role : Option Role)
        → step_at at (cond b (Variable role) (fixed_step role len)) octets ≡ cond b (counted_at at octets)
        (octets_at at len octets)
    by true role = refl
    by false role = fixed role

pub by_steps : (at : ℕ) (fs : List (ElementId × ℕ)) (octets : List ℕ)
    → extent_by at (steps_of fs) octets ≡ extent_at at fs octets
unfolding extent_at extent_by steps_of
by_steps at [] octets = refl
by_steps at (f ∷ fs) octets =
    before_is at (step_of f.0 f.1) (steps_of fs) octets
    ∙ ap (λ (r : Result (List ℕ × List ℕ) MessageError). r >>=
    each (extent_by at (steps_of fs))) (step_is at f.0 f.1 octets)
    ∙ each_same (field_at at f.1 octets) (extent_by at (steps_of fs)) (extent_at at fs) (by_steps at fs)

-- definitions of fixed lengths alone
pub all_fixed : (at : ℕ) (fs : List (ElementId × ℕ)) (octets : List ℕ) → list_all (λ f. nat_lt f.1 65535) fs ≡ true
    → octets_at at (sum_by (λ f. least_length f.1) fs) octets ≡ extent_at at fs octets
unfolding extent_at
all_fixed at [] octets h =
    let none : ltb (length octets) 0 ≡ false = le-ltb _ _ (omega arith) in
    rw none refl
all_fixed at (f ∷ fs) octets h =
    let both = and_both (ltb f.1 65535) (list_all (λ f. nat_lt f.1 65535) fs) h in
    let short : eqb f.1 65535 ≡ false = ne_eqb f.1 65535 (λ e. absurd (omega (arith, e, ltb-true _ _ both.0))) in
    let sum : sum_by (λ f. least_length f.1) (f ∷ fs) ≡ f.1 + sum_by (λ f. least_length f.1) fs =
    sum_by-cons (λ f. least_length f.1) f fs
    ∙ rw short refl in
    let one : field_at at f.1 octets ≡ octets_at at f.1 octets = rw short refl in
    ap (λ (n : ℕ). octets_at at n octets) sum ∙ octets_then at f.1 (sum_by (λ f. least_length f.1) fs) octets
    ∙ each_same (octets_at at f.1 octets) (octets_at at (sum_by (λ f. least_length f.1) fs)) (extent_at at fs)
    (λ rest. all_fixed at fs rest both.1)
    ∙ ap (λ (r : Result (List ℕ × List ℕ) MessageError). r >>= each (extent_at at fs)) (sym one)
