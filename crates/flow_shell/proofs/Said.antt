-- What is said of the Files that ended, after a change of the places.
use Rattle.std.proofs.Common.{inl, inr, ◌≡◌, ◌≢◌, ◌<◌, ℕ, zero, suc, List, [], ◌∷◌, Option, Some, None, refl, ap, sym, subst, ◌∙◌, arith}
use Rattle.std.specs.Prelude.{⊤, IfSome, replicate, slice_get, slice_set}
use Rattle.std.proofs.lemmas.Bool.{cases_eq}
use Rattle.std.proofs.lemmas.Option.{slice_get_within}
use Rattle.flow_feed.specs.declared.batch.Fed.{Fed as HowFar}
use Rattle.flow_shell.specs.declared.board.Place.{Place}
use Rattle.flow_shell.specs.declared.board.Place.TheVariants.{Free, Fed, Ended}
use Rattle.flow_shell.specs.declared.board.Places.{Places}
use Rattle.flow_shell.specs.Places.{AreSaid, Begins, Frees, IsFirst, Replaces}
use Rattle.flow_shell.proofs.Table.{get-set_at, get-set_other}

-- what is said of what is in a place
said_of : (ℕ → HowFar → Type 0) → Option Place → Type 0
said_of said (Some (Ended number fed)) = ∥ said number fed ∥₁
said_of said (Some (Fed number)) = ⊤
said_of said (Some Free) = ⊤
said_of said None = ⊤

-- no File has ended where all places are free
pub none_ended : (said : ℕ → HowFar → Type 0) (n : ℕ) → AreSaid said (replicate n Free)
none_ended said (suc n) (suc k) number fed at = none_ended said n k number fed at
none_ended said (suc n) zero number fed at = absurd cc
none_ended said zero k number fed at = absurd cc

-- a place for one File more
begun_at : (said : ℕ → HowFar → Type 0) (places : List Place) (at number : ℕ) → slice_get places at ≡ Some Free
    → AreSaid said places → AreSaid said (slice_set places at (Fed number))
begun_at said places at number free h k m fed is =
    let within = slice_get_within places at Free free in
    elim (cases_eq k at) [
      | inl e ↦ let now = get-set_at places at k (Fed number) e within in absurd (cc (now, is))
      | inr ne ↦ h k m fed (sym (get-set_other places at k (Fed number) ne) ∙ is)
    ]

pub begun : (said : ℕ → HowFar → Type 0) (old new : Places) (r : Option ℕ) → AreSaid said old.places
    → Begins old r new → AreSaid said new.places
begun said old new None h begins = subst (λ (p : Places). AreSaid said p.places) (sym begins.1) h
begun said old new (Some number) h begins =
    let at = begins.1.0 in
    subst (λ (p : Places). AreSaid said p.places) (sym begins.1.2)
    (begun_at said old.places at number begins.1.1.0 h)

-- a File has ended as is said of it
pub ended : (said : ℕ → HowFar → Type 0) (old new : Places) (number : ℕ) (fed : HowFar) → AreSaid said old.places
    → ∥ said number fed ∥₁ → Replaces (Fed number) (Ended number fed) old new → AreSaid said new.places
unfolding said_of
ended said old new number fed h this rep k m f at = by (slice_get old.places k) refl
  where
    as_before : slice_get old.places k ≢ Some (Fed number) → ∥ said m f ∥₁
    as_before other = h k m f (sym (rep.0.kept k other) ∙ at)

    by : (o : Option Place) → slice_get old.places k ≡ o → ∥ said m f ∥₁
    by None was = as_before (λ is. absurd (cc (was, is)))
    by (Some Free) was = as_before (λ is. absurd (cc (was, is)))
    by (Some (Ended a b)) was = as_before (λ is. absurd (cc (was, is)))
    by (Some (Fed a)) was = elim (cases_eq a number) [
      | inl e ↦ subst (said_of said)
          (sym (rep.0.replaced k (was ∙ ap (λ (n : ℕ). Some (Fed n)) e)) ∙ at) this
      | inr ne ↦ as_before (λ is. ne (cc (was, is)))
    ]

-- the places of Files that have ended are free
pub freed : (said : ℕ → HowFar → Type 0) (old new : Places) (r : Option (ℕ × HowFar)) → AreSaid said old.places
    → Frees r old new → AreSaid said new.places
freed said old new None h frees = subst (λ (p : Places). AreSaid said p.places) (sym frees) h
freed said old new (Some first) h frees =
    λ k m f at. h k m f (sym (frees.0.kept k (λ was. absurd (cc (frees.0.replaced k was, at)))) ∙ at)

-- what is said of the one that is taken
pub taken : (said : ℕ → HowFar → Type 0) (places : List Place) (r : Option (ℕ × HowFar)) → AreSaid said places
    → IsFirst places r → IfSome r (λ first. ∥ said first.0 first.1 ∥₁)
taken said places None h first = tt
taken said places (Some one) h first = h first.at one.0 one.1 first.ended
