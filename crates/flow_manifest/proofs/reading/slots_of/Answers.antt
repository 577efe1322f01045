use Rattle.std.proofs.Common.{◌≡◌, ◌⊎◌, inl, inr, ⊎_elim, ℕ, ◌<◌, Bool, true, false, List, Some, None, sym, subst, refl}
use Rattle.flow_manifest.specs.declared.manifest.Manifest.{Manifest}
use Rattle.flow_manifest.specs.declared.error.OpenError.{OpenError}
use Rattle.flow_manifest.specs.declared.error.OpenError.TheVariants.{Damaged}
use Rattle.flow_manifest.specs.declared.slots.Slot.{Slot}
use Rattle.flow_manifest.specs.declared.slots.Slot.TheVariants.{First, Second}
use Rattle.flow_manifest.specs.declared.slots.Slots.{Slots}
use Rattle.flow_manifest.specs.Opening.{IsHeld, IsNewerOf}
use Rattle.flow_manifest.specs.Slots.{IsOpen, IsClosed, Holds, AreSlots}
use Rattle.flow_disk.proofs.Results.{passed_on, if_ok_by, if_err_by}
use Rattle.flow_manifest.proofs.Openings.{first_told, second_told, IsFaultOf}
use Rattle.flow_manifest.proofs.reading.slots_of.Goals as goal

-- slots that say this of all images whose slots have these octets
abbrev AreOf : List ℕ → List ℕ → Slots → Type 0
AreOf first second slots = (image : ℕ → List ℕ) → image 1 ≡ first → image 2 ≡ second → AreSlots slots image

first_newer : (first second : List ℕ) (one two : Manifest) → Holds first one → Holds second two
    → two.generation < one.generation
    → AreOf first second (record { current = one; current_slot = First; other_open = true })
first_newer first second one two holds_one holds_two lt image is_first is_second = record {
  current = subst (λ (l : List ℕ). Holds l one) (sym is_first) holds_one;
  beside = (two, subst (λ (l : List ℕ). Holds l two) (sym is_second) holds_two, lt);
}

second_newer : (first second : List ℕ) (one two : Manifest) → Holds first one → Holds second two
    → one.generation < two.generation
    → AreOf first second (record { current = two; current_slot = Second; other_open = true })
second_newer first second one two holds_one holds_two lt image is_first is_second = record {
  current = subst (λ (l : List ℕ). Holds l two) (sym is_second) holds_two;
  beside = (one, subst (λ (l : List ℕ). Holds l one) (sym is_first) holds_one, lt);
}

same_value : (slots : Slots) (m : Manifest) (slot : Slot) (beside : Bool) → slots.current ≡ m
    → slots.current_slot ≡ slot → slots.other_open ≡ beside
    → record { current = m; current_slot = slot; other_open = beside } ≡ slots
same_value slots m slot beside is_current is_slot is_beside = rw (← is_current, ← is_slot, ← is_beside) refl

newer : (first second : List ℕ) (one two : Manifest) → Holds first one → Holds second two → (slots : Slots)
    → IsNewerOf one two slots → AreOf first second slots
newer first second one two holds_one holds_two slots is = ⊎_elim
    (λ a. subst (AreOf first second) (same_value slots one First true a.1 a.0 is.beside)
    (first_newer first second one two holds_one holds_two a.2))
    (λ a. subst (AreOf first second) (same_value slots two Second true a.1 a.0 is.beside)
    (second_newer first second one two holds_one holds_two a.2))
    is.current

-- one generation twice
twice : (first second : List ℕ) (one two : Manifest) → Holds first one → Holds second two → (e : OpenError)
    → (one.generation ≡ two.generation) × (e ≡ Damaged 2 3) → IsFaultOf first second e
twice first second one two holds_one holds_two e is = inr (λ image is_first is_second. inr (inr (inr (
  one,
  two,
  subst (λ (l : List ℕ). Holds l one) (sym is_first) holds_one,
  subst (λ (l : List ℕ). Holds l two) (sym is_second) holds_two,
  is.0,
  is.1,
))))

first_alone : (first second : List ℕ) (m : Manifest) → Holds first m → IsClosed second
    → AreOf first second (record { current = m; current_slot = First; other_open = false })
first_alone first second m holds closed image is_first is_second = record {
  current = subst (λ (l : List ℕ). Holds l m) (sym is_first) holds;
  beside = subst IsClosed (sym is_second) closed;
}

second_alone : (first second : List ℕ) (m : Manifest) → IsClosed first → Holds second m
    → AreOf first second (record { current = m; current_slot = Second; other_open = false })
second_alone first second m closed holds image is_first is_second = record {
  current = subst (λ (l : List ℕ). Holds l m) (sym is_second) holds;
  beside = subst IsClosed (sym is_first) closed;
}

pub returns-in-Some-Some-clause-found : goal.returns-in-Some-Some-clause-found
returns-in-Some-Some-clause-found c =
    let first = c.args.first.now in
    let second = c.args.second.now in
    let one = c.in-Some-Some.one in
    let two = c.in-Some-Some.two in
    if_ok_by c.newer_of.result (IsNewerOf one two) (AreOf first second)
    (newer first second one two (subst (IsHeld first) c.in-Some-Some.is-0 c.in_ok-one.ensures.found)
    (subst (IsHeld second) c.in-Some-Some.is-1 c.in_ok-two.ensures.found))
    c.newer_of.ensures.found

pub returns-in-Some-Some-clause-fault : goal.returns-in-Some-Some-clause-fault
returns-in-Some-Some-clause-fault c =
    let first = c.args.first.now in
    let second = c.args.second.now in
    let one = c.in-Some-Some.one in
    let two = c.in-Some-Some.two in
    if_err_by c.newer_of.result _ (IsFaultOf first second)
    (twice first second one two (subst (IsHeld first) c.in-Some-Some.is-0 c.in_ok-one.ensures.found)
    (subst (IsHeld second) c.in-Some-Some.is-1 c.in_ok-two.ensures.found))
    c.newer_of.ensures.fault

pub returns-in-Some-None-clause-found : goal.returns-in-Some-None-clause-found
returns-in-Some-None-clause-found c =
    first_alone c.args.first.now c.args.second.now c.in-Some-None.current
    (subst (IsHeld c.args.first.now) c.in-Some-None.is-0 c.in_ok-one.ensures.found)
    (subst (IsHeld c.args.second.now) c.in-Some-None.is-1 c.in_ok-two.ensures.found)

pub returns-in-None-Some-clause-found : goal.returns-in-None-Some-clause-found
returns-in-None-Some-clause-found c =
    second_alone c.args.first.now c.args.second.now c.in-None-Some.current
    (subst (IsHeld c.args.first.now) c.in-None-Some.is-0 c.in_ok-one.ensures.found)
    (subst (IsHeld c.args.second.now) c.in-None-Some.is-1 c.in_ok-two.ensures.found)

pub returns-in-None-None-clause-fault : goal.returns-in-None-None-clause-fault
returns-in-None-None-clause-fault c =
    let one : IsClosed c.args.first.now =
    subst (IsHeld c.args.first.now) c.in-None-None.is-0 c.in_ok-one.ensures.found in
    let two : IsClosed c.args.second.now =
    subst (IsHeld c.args.second.now) c.in-None-None.is-1 c.in_ok-two.ensures.found in
    absurd (⊎_elim one.shut two.shut (c.is_any_open.ensures.0 c.if-not-is_any_open.false))

pub returns-in_err-one-clause-fault : goal.returns-in_err-one-clause-fault
returns-in_err-one-clause-fault c =
    let shown : IsOpen c.args.first.now ⊎ IsOpen c.args.second.now =
    c.is_any_open.ensures.0 c.if-not-is_any_open.false in
    passed_on c.from_residual.result (c.in_err-one.field-0).0
    (IsFaultOf c.args.first.now c.args.second.now) c.from_residual.ensures.1
    (first_told c.args.first.now c.args.second.now (c.in_err-one.field-0).0 shown c.in_err-one.ensures.fault)

pub returns-in_err-two-clause-fault : goal.returns-in_err-two-clause-fault
returns-in_err-two-clause-fault c =
    let shown : IsOpen c.args.first.now ⊎ IsOpen c.args.second.now =
    c.is_any_open.ensures.0 c.if-not-is_any_open.false in
    passed_on c.from_residual-in_err-two.result (c.in_err-two.field-0).0
    (IsFaultOf c.args.first.now c.args.second.now) c.from_residual-in_err-two.ensures.1
    (second_told c.args.first.now c.args.second.now c.in_ok-one.one
    (c.in_err-two.field-0).0 shown c.in_ok-one.ensures.found c.in_err-two.ensures.fault)
