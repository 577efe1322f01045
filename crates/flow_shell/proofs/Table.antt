-- What is so of the places that a loop has gone over.
use Rattle.std.proofs.Common.{inl, inr, ◌≡◌, ◌≢◌, ◌<◌, ◌≤◌, ◌+◌, ℕ, zero, suc, List, [], ◌∷◌, Option, Some, None, length, set, refl, ap, sym, ◌∙◌, arith}
use Rattle.std.specs.List.{slice_get}
use Rattle.std.proofs.lemmas.Bool.{cases_eq, cases_lt}
use Rattle.std.proofs.lemmas.List.{length-set}
use Rattle.std.proofs.lemmas.Option.{slice_get_within}
use Rattle.flow_feed.specs.declared.batch.Fed.{Fed as HowFar}
use Rattle.flow_shell.specs.declared.board.Place.{Place}
use Rattle.flow_shell.specs.declared.board.Place.TheVariants.{Ended}
use Rattle.flow_shell.specs.Places.{AreReplaced}

-- what is read of a list after a write
pub get-set_same : {A : Type 0} (xs : List A) (i : ℕ) (x : A) → i < length xs → slice_get (set xs i x) i ≡ Some x
get-set_same [] i x h = absurd (omega arith)
get-set_same (y ∷ ys) zero x h = refl
get-set_same (y ∷ ys) (suc i) x h = get-set_same ys i x (omega arith)

pub get-set_at : {A : Type 0} (xs : List A) (i k : ℕ) (x : A) → k ≡ i → i < length xs
    → slice_get (set xs i x) k ≡ Some x
get-set_at xs i k x e h = ap (slice_get (set xs i x)) e ∙ get-set_same xs i x h

pub get-set_other : {A : Type 0} (xs : List A) (i k : ℕ) (x : A) → k ≢ i → slice_get (set xs i x) k ≡ slice_get xs k
get-set_other [] i k x h = refl
get-set_other (y ∷ ys) zero zero x h = absurd (h refl)
get-set_other (y ∷ ys) zero (suc k) x h = refl
get-set_other (y ∷ ys) (suc i) zero x h = refl
get-set_other (y ∷ ys) (suc i) (suc k) x h = get-set_other ys i k x (λ e. h (ap suc e))

-- the places below this one are replaced, and the others not yet
pub record AreReplacedBelow (i : ℕ) (from to : Place) (old new : List Place) : Type 0 where
  pub size : length new ≡ length old
  pub replaced : (k : ℕ) → k < i → slice_get old k ≡ Some from → slice_get new k ≡ Some to
  pub kept : (k : ℕ) → k < i → slice_get old k ≢ Some from → slice_get new k ≡ slice_get old k
  pub left : (k : ℕ) → i ≤ k → slice_get new k ≡ slice_get old k

-- the next one is replaced, where it has to be
pub replaced_one : (i : ℕ) (from to : Place) (old new : List Place) (x y z : Place)
    → AreReplacedBelow i from to old new → i < length new → slice_get new i ≡ Some x
    → (x ≡ from → y ≡ to) → (x ≢ from → y ≡ x) → z ≡ y
    → AreReplacedBelow (i + 1) from to old (set new i z)
replaced_one i from to old new x y z h lt at same other is =
    let before : slice_get old i ≡ Some x = sym (h.left i (omega arith)) ∙ at in
    record {
      size = length-set new i z ∙ h.size;
      replaced = λ k b was. elim (cases_eq k i) [
        | inl e ↦ get-set_at new i k z e (omega arith) ∙ ap (λ q. Some q) (is ∙ same (cc (was, before, e)))
        | inr ne ↦ get-set_other new i k z ne ∙ h.replaced k (omega arith) was
      ];
      kept = λ k b was. elim (cases_eq k i) [
        | inl e ↦ let apart : x ≢ from = λ q. was (cc (before, e, q)) in
            get-set_at new i k z e (omega arith) ∙ ap (λ q. Some q) (is ∙ other apart) ∙ cc (before, e)
        | inr ne ↦ get-set_other new i k z ne ∙ h.kept k (omega arith) was
      ];
      left = λ k b. get-set_other new i k z (omega arith) ∙ h.left k (omega arith);
    }

-- after all places each is replaced, where it has to be
pub all_replaced : (i : ℕ) (from to : Place) (old new : List Place) → AreReplacedBelow i from to old new
    → length old ≤ i → AreReplaced from to old new
all_replaced i from to old new h all = record {
  replaced = λ k was. let within = slice_get_within old k from was in h.replaced k (omega arith) was;
  kept = λ k was. elim (cases_lt k i) [ inl lt ↦ h.kept k lt was | inr ge ↦ h.left k ge ];
}

-- a File of this number ended so below this place
pub record IsFirstEndedBelow (i : ℕ) (places : List Place) (number : ℕ) (fed : HowFar) : Type 0 where
  pub at : ℕ
  pub within : at < i
  pub ended : slice_get places at ≡ Some (Ended number fed)
  pub least : (k m : ℕ) (other : HowFar) → k < i → slice_get places k ≡ Some (Ended m other) → number ≤ m
  pub last : (k : ℕ) (other : HowFar) → k < i → slice_get places k ≡ Some (Ended number other) → k ≤ at

abbrev pub IsFirstBelow : ℕ → List Place → Option (ℕ × HowFar) → Type 0
IsFirstBelow i places None = (k m : ℕ) (fed : HowFar) → k < i → slice_get places k ≢ Some (Ended m fed)
IsFirstBelow i places (Some first) = IsFirstEndedBelow i places first.0 first.1
