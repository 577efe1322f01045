-- A change of a place that has one already.
use Rattle.std.proofs.Common.{◌≡◌, ℕ, zero, suc, ◌-◌, true, false, ◌||◌, ◌==◌, List, [], ◌∷◌, length, take}
use Rattle.std.proofs.Common.{refl, sym, ap, subst, ◌∙◌, ◌<◌, slice_index_or, arith}
use Rattle.std.proofs.Common.{Some, slice_get}
use Rattle.std.proofs.Math.Bool.{or-true}
use Rattle.std.specs.Prelude.{Result, Ok, Err, OnOk, OnErr}
use Rattle.std.proofs.lemmas.Bool.{eqb-true}
use Rattle.flow_measure.specs.declared.entries.Change.{Change}
use Rattle.flow_measure.specs.declared.entries.Change.TheVariants.{Pushed, Added}
use Rattle.flow_measure.specs.declared.rows.Key.{Key}
use Rattle.flow_measure.specs.declared.rows.Sums.{Sums}
use Rattle.flow_measure.specs.Entries.{with_sums_at, without_last, undone, all_undone, is_noted}

twice : (p : ℕ) (s t : Sums) (es : List (Key × Sums)) → with_sums_at p t (with_sums_at p s es) ≡ with_sums_at p t es
unfolding with_sums_at
twice p s t [] = refl
twice zero s t (e ∷ es) = refl
twice (suc p) s t (e ∷ es) = ap (λ xs. e ∷ xs) (twice p s t es)

-- sums at one place and at another, and then at the first once more
between : (p q : ℕ) (s t u : Sums) (es : List (Key × Sums))
    → with_sums_at p t (with_sums_at q u (with_sums_at p s es)) ≡ with_sums_at p t (with_sums_at q u es)
unfolding with_sums_at
between p q s t u [] = refl
between zero zero s t u (e ∷ es) = refl
between zero (suc q) s t u (e ∷ es) = refl
between (suc p) zero s t u (e ∷ es) = ap (λ xs. (e.0, u) ∷ xs) (twice p s t es)
between (suc p) (suc q) s t u (e ∷ es) = ap (λ xs. e ∷ xs) (between p q s t u es)

as_many : (p : ℕ) (s : Sums) (es : List (Key × Sums)) → length (with_sums_at p s es) ≡ length es
unfolding with_sums_at
as_many p s [] = refl
as_many zero s (e ∷ es) = refl
as_many (suc p) s (e ∷ es) = ap suc (as_many p s es)

first_of : (n p : ℕ) (s t : Sums) (es : List (Key × Sums))
    → with_sums_at p t (take n (with_sums_at p s es)) ≡ with_sums_at p t (take n es)
unfolding with_sums_at
first_of n p s t [] = refl
first_of zero p s t (e ∷ es) = refl
first_of (suc n) zero s t (e ∷ es) = refl
first_of (suc n) (suc p) s t (e ∷ es) = ap (λ xs. e ∷ xs) (first_of n p s t es)

-- a change taken back leaves nothing else of what was at a place
over : (c : Change) (p : ℕ) (s t : Sums) (es : List (Key × Sums))
    → with_sums_at p t (undone c (with_sums_at p s es)) ≡ with_sums_at p t (undone c es)
unfolding without_last
over Pushed p s t es =
    ap (λ n. with_sums_at p t (take (n - 1) (with_sums_at p s es))) (as_many p s es)
    ∙ first_of (length es - 1) p s t es
over (Added q u) p s t es = between p q s t u es

-- nor do all changes
all_over : (cs : List Change) (p : ℕ) (s t : Sums) (es : List (Key × Sums))
    → with_sums_at p t (all_undone cs (with_sums_at p s es)) ≡ with_sums_at p t (all_undone cs es)
unfolding all_undone
all_over [] p s t es = twice p s t es
all_over (c ∷ cs) p s t es =
    sym (over c p t t (all_undone cs (with_sums_at p s es)))
    ∙ ap (λ xs. with_sums_at p t (undone c xs)) (all_over cs p s t es) ∙ over c p t t (all_undone cs es)

pub noted_once : (cs : List Change) (p : ℕ) (s : Sums) (es : List (Key × Sums)) → is_noted p cs ≡ true
    → all_undone cs (with_sums_at p s es) ≡ all_undone cs es
unfolding all_undone is_noted
noted_once [] p s es h = absurd cc
noted_once (Pushed ∷ cs) p s es h = ap without_last (noted_once cs p s es h)
noted_once (Added q t ∷ cs) p s es h =
    elim (q == p) as (λ b. q == p ≡ b → (b || is_noted p cs) ≡ true
    → with_sums_at q t (all_undone cs (with_sums_at p s es)) ≡ with_sums_at q t (all_undone cs es)) [
      | true ↦ λ w n.
          let same : q ≡ p = eqb-true q p w in
          rw same (all_over cs p s t es)
      | false ↦ λ w n. ap (with_sums_at q t) (noted_once cs p s es n)
    ] refl h

-- a change among the others is noted
pub noted_at : (cs : List Change) (i here p : ℕ) (s : Sums) (c : Change) → i < length cs → c ≡ slice_index_or cs i c
    → c ≡ Added here s → (here == p) ≡ true → is_noted p cs ≡ true
unfolding is_noted
noted_at [] i here p s c within at is e = absurd (omega (arith, within))
noted_at (d ∷ cs) zero here p s c within at is e =
    subst (λ x. is_noted p (x ∷ cs) ≡ true) (sym is ∙ at) (ap (λ b. b || is_noted p cs) e)
noted_at (Pushed ∷ cs) (suc i) here p s c within at is e = noted_at cs i here p s c (omega (arith, within)) at is e
noted_at (Added q t ∷ cs) (suc i) here p s c within at is e =
    ap (λ b. (q == p) || b) (noted_at cs i here p s c (omega (arith, within)) at is e) ∙ or-true (q == p)

-- changes lead back where they did before, whether sums were added at a place that they have, or were refused
pub leads_back : {X E : Type 0} (r : Result X E) (cs : List Change) (p : ℕ) (k : Key) (s : Sums)
    (new old : List (Key × Sums)) → is_noted p cs ≡ true → slice_get old p ≡ Some (k, s)
    → OnOk r ((total : Sums) → slice_get old p ≡ Some (k, total) → undone (Added p total) new ≡ old)
    → OnErr r (new ≡ old) → all_undone cs new ≡ all_undone cs old
leads_back (Ok x) cs p k s new old noted at back same =
    sym (noted_once cs p s new noted) ∙ ap (all_undone cs) (back s at)
leads_back (Err e) cs p k s new old noted at back same = ap (all_undone cs) same
