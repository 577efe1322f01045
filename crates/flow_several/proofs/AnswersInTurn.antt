-- The answers of archives, taken in turn.
use Rattle.std.proofs.Common.{◌≡◌, ◌∙◌, ℕ, ◌<◌, List, [], ◌∷◌, length, length-append, refl, sym, ap, subst, arith}
use Rattle.std.specs.Prelude.{false, IfOk, IsOk, IsTrue, OnErr, OnOk, Result, Ok, Err, MatchResult}
use Rattle.std.specs.List.{All}
use Rattle.flow_several.specs.SideBySide as turns
use Rattle.flow_several.specs.SideBySide.{IsNext}
use Rattle.flow_several.proofs.Taking.{all_first, all_rest, of_none}
use Rattle.flow_disk.specs.declared.disk.Disk.{Ghosts}
use Rattle.flow_manifest.specs.Slots.{reads_of}
use Rattle.flow_measure.specs.View.{View}
use Rattle.flow_several.specs.declared.together.Together.{Together}
use Rattle.flow_several.specs.Together.{AreSumsOf}
use Rattle.flow_several.specs.declared.refusal.SummingRefusal.{SummingRefusal}
use Rattle.flow_several.specs.declared.answer.Answer.{Answer}
use Rattle.flow_several.specs.Several.{readings, DiskReading, IsNotSummed, IsNotSummedAlone, IsOwnAnswer, IsSummedAlone}
use Rattle.flow_several.specs.Several.{IsSummedWith}
use Rattle.flow_several.specs.Turns.{AreReady, Awaits, IsAnswerOf, IsCounted}
use Rattle.flow_several.proofs.OneByOne.{when_err, when_ok}

-- a result, by its case
module _ {X E : Type 0} (r : Result X E) where
  pub ok_so : (x : X) (P : X → Type 0) → r ≡ Ok x → IfOk r P → P x
  ok_so x P is h = subst (λ (r : Result X E). IfOk r P) is h

  pub done_so : (x : X) (P : Type 0) → r ≡ Ok x → OnOk r P → P
  done_so x P is h = subst (λ (r : Result X E). OnOk r P) is h

  pub failed_so : (e : E) (P : Type 0) → r ≡ Err e → OnErr r P → P
  failed_so e P is h = subst (λ (r : Result X E). OnErr r P) is h

pub on_ok : {X E : Type 0} (r : Result X E) (P : Type 0) → P → OnOk r P
on_ok (Ok x) P p = p
on_ok (Err e) P p = tt

module _ {D S X : Type 0} (g : Ghosts D S X) where
  -- none was asked
  pub all_left : (answers : List (Answer S X)) (left disks : List D) → answers ≡ [] → left ≡ disks
      → All (λ d. IsTrue (g.honest d)) disks → Awaits g answers left (readings g disks)
  all_left answers left disks none is honest =
      (disks, of_none (IsAnswerOf g) answers left disks none is, honest, refl)

  pub ready_first : (answers : List (Answer S X)) (left disks : List D) → answers ≡ [] → left ≡ disks
      → All (λ d. (n : ℕ) → (g.marks d n).frozen ≡ false) disks → AreReady g answers left
  ready_first answers left disks none is thawed = (
    (disks, of_none (IsAnswerOf g) answers left disks none is),
    subst (All (λ d. (n : ℕ) → (g.marks d n).frozen ≡ false)) (sym is) thawed,
  )

  -- the next answer was taken
  pub taken : (old answers : List (Answer S X)) (before left : List D) (answer : Answer S X)
      → ((all : List D) → turns.Awaits (IsAnswerOf g) old before all → IsNext (IsAnswerOf g) answers left all answer)
      → (reads : List DiskReading) → Awaits g old before reads
      → (own : DiskReading) × (rest : List DiskReading) × (reads ≡ own ∷ rest) × IsOwnAnswer own answer.sums
      × OnOk answer.sums (Awaits g answers left rest)
  taken old answers before left answer next reads (all, waits, honest, is) =
      let (own, rest, whole, its, later) = next all waits in
      let both = subst (All (λ d. IsTrue (g.honest d))) whole honest in (
        reads_of (g.held own),
        readings g rest,
        is ∙ ap (readings g) whole,
        its.0 (all_first (λ d. IsTrue (g.honest d)) own rest both),
        on_ok answer.sums (Awaits g answers left (readings g rest))
            (rest, later, all_rest (λ d. IsTrue (g.honest d)) own rest both, refl),
      )

  pub counted : (old answers : List (Answer S X)) (before left : List D) (answer : Answer S X)
      → ((all : List D) → turns.Awaits (IsAnswerOf g) old before all → IsNext (IsAnswerOf g) answers left all answer)
      → AreReady g old before → IsCounted answer
  counted old answers before left answer next ((all, waits), thawed) = (next all waits).3.1

  pub still_ready : (old answers : List (Answer S X)) (before left : List D) (answer : Answer S X)
      → ((all : List D) → turns.Awaits (IsAnswerOf g) old before all → IsNext (IsAnswerOf g) answers left all answer)
      → AreReady g old before → All (λ d. (n : ℕ) → (g.marks d n).frozen ≡ false) left → AreReady g answers left
  still_ready old answers before left answer next ((all, waits), thawed) rest =
      (((next all waits).1, (next all waits).4), rest)

  pub none_left : (answers : List (Answer S X)) (left : List D)
      → ((all : List D) → turns.Awaits (IsAnswerOf g) answers left all → all ≡ []) → (reads : List DiskReading)
      → Awaits g answers left reads → reads ≡ []
  none_left answers left end reads (all, waits, honest, is) = is ∙ ap (readings g) (end all waits)

  -- no memory for those that are asked next
  pub unasked : (answers : List (Answer S X)) (left : List D) → 0 < length left → (reads : List DiskReading)
      → Awaits g answers left reads → (own : DiskReading) × (rest : List DiskReading) × (reads ≡ own ∷ rest)
  unasked answers left some reads ([], (first, each, whole), honest, is) =
      let no : ⊥ = omega (arith, some, ap length whole, length-append first left) in absurd no
  unasked answers left some reads (d ∷ all, waits, honest, is) = (reads_of (g.held d), readings g all, is)

  pub ready_again : (answers : List (Answer S X)) (left : List D) → length answers ≡ 0
      → All (λ d. (n : ℕ) → (g.marks d n).frozen ≡ false) left → AreReady g answers left
  ready_again [] left none thawed = ((left, ([], tt, refl)), thawed)
  ready_again (a ∷ answers) left none thawed = let no : ⊥ = omega (arith, none) in absurd no

pub when_done : {X E : Type 0} (r : Result X E) (P : Type 0) → IsOk r → OnOk r P → P
when_done (Ok x) P ok h = h
when_done (Err e) P ok h = let not : ⊥ = cc in absurd not

-- the answer of `next`, by its case
module _ (waits later : List DiskReading → Type 0) (answer : Result Together SummingRefusal)
    (next : (rs : List DiskReading) → waits rs → (own : DiskReading) × (rest : List DiskReading) × (rs ≡ own ∷ rest)
    × IsOwnAnswer own answer × OnOk answer (later rest)) where
  pub next_ok : (one : Together) → answer ≡ Ok one → (rs : List DiskReading) → waits rs
      → (own : DiskReading) × (rest : List DiskReading) × (rs ≡ own ∷ rest) × IsSummedAlone own one.sums × later rest
  next_ok one is rs w =
      let a = next rs w in (
        a.0,
        a.1,
        a.2,
        subst (IsOwnAnswer a.0) is a.3,
        subst (λ (r : Result Together SummingRefusal). OnOk r (later a.1)) is a.4,
      )

  pub next_err : (e : SummingRefusal) → answer ≡ Err e → (rs : List DiskReading) → waits rs
      → (own : DiskReading) × (rest : List DiskReading) × (rs ≡ own ∷ rest) × IsNotSummedAlone own e
  next_err e is rs w = let a = next rs w in (a.0, a.1, a.2, subst (IsOwnAnswer a.0) is a.3)

  -- joined to the sums of others
  module _ (all : Together) (result : Result Together SummingRefusal)
      (summed : (reads : DiskReading) → IsOwnAnswer reads answer → (vs : List View) → AreSumsOf all.sums vs
      → MatchResult result (λ more. IsSummedWith reads vs more.sums) (IsNotSummed reads vs)) where
    pub joined_ok : (more : Together) → result ≡ Ok more → OnOk result (IsOk answer) → (rs : List DiskReading)
        → waits rs → (own : DiskReading) × (rest : List DiskReading) × (rs ≡ own ∷ rest)
        × ((vs : List View) → AreSumsOf all.sums vs → IsSummedWith own vs more.sums) × later rest
    joined_ok more is done rs w =
        let a = next rs w in (
          a.0,
          a.1,
          a.2,
          λ vs are. when_ok result more (λ more. IsSummedWith a.0 vs more.sums) (IsNotSummed a.0 vs) is
              (summed a.0 a.3 vs are),
          when_done answer (later a.1)
              (subst (λ (r : Result Together SummingRefusal). OnOk r (IsOk answer)) is done) a.4,
        )

    pub joined_err : (e : SummingRefusal) → result ≡ Err e → (rs : List DiskReading) → waits rs
        → (own : DiskReading) × (rest : List DiskReading) × (rs ≡ own ∷ rest)
        × ((vs : List View) → AreSumsOf all.sums vs → IsNotSummed own vs e)
    joined_err e is rs w =
        let a = next rs w in (
          a.0,
          a.1,
          a.2,
          λ vs are. when_err result e (λ more. IsSummedWith a.0 vs more.sums) (IsNotSummed a.0 vs) is
              (summed a.0 a.3 vs are),
        )
