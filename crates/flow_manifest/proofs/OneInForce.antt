-- One manifest at most is in force, and slots have one first fault at most.
use Rattle.std.proofs.Common.{◌≡◌, ◌⊎◌, ⊎_elim, ℕ, ◌<◌, ◌≤◌, Bool, true, false, List, [], ◌∷◌, length, drop, Option}
use Rattle.std.proofs.Common.{Some, None, refl, sym, ◌∙◌, ap, subst, arith}
use Rattle.flow_manifest.specs.declared.manifest.Manifest.{Manifest}
use Rattle.flow_manifest.specs.declared.error.OpenError.{OpenError}
use Rattle.flow_manifest.specs.declared.slots.Slot.{Slot}
use Rattle.flow_manifest.specs.declared.slots.Slot.TheVariants.{First, Second}
use Rattle.flow_manifest.specs.declared.slots.Slots.{Slots}
use Rattle.flow_manifest.specs.Slots.{file_of, other, IsOpen, Holds, IsOlder, AreSlots, IsInForce}
use Rattle.flow_manifest.specs.Opening.{in_slot, IsHeld, IsSlotFault, IsOpenFault}
use Rattle.flow_manifest.proofs.Bodies.{one_manifest}
use Rattle.flow_manifest.proofs.Faults.{one_fault, never_both}

one_held : (octets : List ℕ) (m n : Manifest) → Holds octets m → Holds octets n → m ≡ n
one_held octets m n p q = one_manifest (drop 1 octets) m n p.body q.body

abbrev slots_with : Manifest → Slot → Bool → Slots
slots_with m slot beside = record { current = m; current_slot = slot; other_open = beside }

same_value : (s t : Slots) → s.current ≡ t.current → s.current_slot ≡ t.current_slot → s.other_open ≡ t.other_open
    → s ≡ t
same_value s t current slot beside =
    let same : slots_with s.current s.current_slot s.other_open ≡ slots_with t.current t.current_slot t.other_open =
    rw (current, slot, beside) refl in
    same

-- the other slot is open or closed, not both
one_beside : (a b : Bool) (m : Manifest) (octets : List ℕ) → IsOlder a m octets → IsOlder b m octets → a ≡ b
one_beside false false m octets p q = refl
one_beside true true m octets p q = refl
one_beside false true m octets p q = absurd (p.shut (q.1).gate)
one_beside true false m octets p q = absurd (q.shut (p.1).gate)

-- the slot that counts isn't older than the one beside it
not_both : (a b : Bool) (m n : Manifest) (one two : List ℕ) → Holds one m → IsOlder a m two → Holds two n
    → IsOlder b n one → ⊥
not_both false b m n one two p p2 q q2 = p2.shut q.gate
not_both true false m n one two p p2 q q2 = q2.shut p.gate
not_both true true m n one two p p2 q q2 =
    let first = ap (λ (k : Manifest). k.generation) (one_held two p2.0 n p2.1 q) in
    let second = ap (λ (k : Manifest). k.generation) (one_held one q2.0 m q2.1 p) in
    omega (arith, p2.2, q2.2, first, second)

one_slot : (a b : Slot) (x y : Bool) (m n : Manifest) (image : ℕ → List ℕ) → Holds (image (file_of a)) m
    → IsOlder x m (image (file_of (other a))) → Holds (image (file_of b)) n → IsOlder y n (image (file_of (other b)))
    → a ≡ b
one_slot First First x y m n image p p2 q q2 = refl
one_slot Second Second x y m n image p p2 q q2 = refl
one_slot First Second x y m n image p p2 q q2 = absurd (not_both x y m n (image 1) (image 2) p p2 q q2)
one_slot Second First x y m n image p p2 q q2 = absurd (not_both x y m n (image 2) (image 1) p p2 q q2)

pub one_value : (image : ℕ → List ℕ) (s t : Slots) → AreSlots s image → AreSlots t image → s ≡ t
one_value image s t p q =
    let slot = one_slot s.current_slot t.current_slot s.other_open t.other_open s.current t.current image p.current
    p.beside q.current q.beside in
    let there = subst (λ (k : Slot). Holds (image (file_of k)) t.current) (sym slot) q.current in
    let current = one_held (image (file_of s.current_slot)) s.current t.current p.current there in
    let beside = subst (λ (k : Slot). IsOlder t.other_open t.current (image (file_of (other k)))) (sym slot) q.beside in
    let beside_same = subst (λ (k : Manifest). IsOlder t.other_open k (image (file_of (other s.current_slot))))
    (sym current) beside in
    same_value s t current slot
    (one_beside s.other_open t.other_open s.current (image (file_of (other s.current_slot))) p.beside beside_same)

pub one_in_force : (image : ℕ → List ℕ) (m n : Manifest) → IsInForce image m → IsInForce image n → m ≡ n
one_in_force image m n p q = sym p.1 ∙ ap (λ (s : Slots). s.current) (one_value image p.0 q.0 p.2 q.2) ∙ q.1

-- ---- faults

-- an open slot has a gate
open_long : (octets : List ℕ) → IsOpen octets → 1 ≤ length octets
open_long [] is = absurd (omega arith)
open_long (o ∷ octets) is = omega arith

-- a slot that holds a manifest, or is closed, has no fault
held_sound : (slot : Slot) (octets : List ℕ) (held : Option Manifest) (e : OpenError) → IsHeld octets held
    → IsSlotFault slot octets e → ⊥
held_sound slot octets None e is fault =
    ⊎_elim (λ short. omega (arith, short.0, is.gate)) (λ shown. is.shut shown.0) fault
held_sound slot octets (Some m) e is fault =
    ⊎_elim (λ short. omega (arith, short.0, open_long octets is.gate))
    (λ shown. never_both (drop 1 octets) m shown.1 is.body shown.2) fault

one_slot_fault : (slot : Slot) (octets : List ℕ) (d e : OpenError) → IsSlotFault slot octets d
    → IsSlotFault slot octets e → d ≡ e
one_slot_fault slot octets d e p q = ⊎_elim
    (λ a. ⊎_elim (λ b. a.1 ∙ sym b.1) (λ b. absurd (omega (arith, a.0, open_long octets b.0))) q)
    (λ a. ⊎_elim (λ b. absurd (omega (arith, b.0, open_long octets a.0))) (λ b. a.3
    ∙ ap (in_slot slot) (one_fault (drop 1 octets) a.1 b.1 a.2 b.2) ∙ sym b.3) q)
    p

neither : (a b : List ℕ) → (IsOpen a → ⊥) → (IsOpen b → ⊥) → IsOpen a ⊎ IsOpen b → ⊥
neither a b not_a not_b shown = ⊎_elim not_a not_b shown

pub one_open_fault : (image : ℕ → List ℕ) (d e : OpenError) → IsOpenFault image d → IsOpenFault image e → d ≡ e
one_open_fault image d e p q = ⊎_elim
    (λ a. ⊎_elim (λ b. a.2
    ∙ sym b.2) (λ o. ⊎_elim (λ b. absurd (neither (image 1) (image 2) a.0 a.1 b.0))
    (λ o. ⊎_elim (λ b. absurd (neither (image 1) (image 2) a.0 a.1 b.0)) (λ b. absurd (a.0 (b.2).gate)) o) o) q)
    (λ o. ⊎_elim
    (λ a. ⊎_elim (λ b. absurd (neither (image 1) (image 2) b.0 b.1 a.0))
    (λ o. ⊎_elim (λ b. one_slot_fault First (image 1) d e a.1 b.1) (λ o. ⊎_elim
    (λ b. absurd (held_sound First (image 1) b.1 d b.2 a.1))
    (λ b. absurd (held_sound First (image 1) (Some b.0) d b.2 a.1)) o) o) q)
    (λ o. ⊎_elim
    (λ a. ⊎_elim (λ b. absurd (neither (image 1) (image 2) b.0 b.1 a.0))
    (λ o. ⊎_elim (λ b. absurd (held_sound First (image 1) a.1 e a.2 b.1)) (λ o. ⊎_elim
    (λ b. one_slot_fault Second (image 2) d e a.3 b.3)
    (λ b. absurd (held_sound Second (image 2) (Some b.1) d b.3 a.3)) o) o) q)
    (λ a. ⊎_elim (λ b. absurd (b.0 (a.2).gate))
    (λ o. ⊎_elim (λ b. absurd (held_sound First (image 1) (Some a.0) e a.2 b.1)) (λ o. ⊎_elim
    (λ b. absurd (held_sound Second (image 2) (Some a.1) e a.3 b.3))
    (λ b. a.5 ∙ sym b.5) o) o) q)
    o)
    o)
    p

-- both slots of a manifest in force are sound
beside_sound : (slot : Slot) (beside : Bool) (m : Manifest) (octets : List ℕ) (e : OpenError) → IsOlder beside m octets
    → IsSlotFault slot octets e → ⊥
beside_sound slot false m octets e is fault = held_sound slot octets None e is fault
beside_sound slot true m octets e is fault = held_sound slot octets (Some is.0) e is.1 fault

-- two open slots of one generation are none that a manifest is in force in
beside_older : (beside : Bool) (m n : Manifest) (octets : List ℕ) → IsOlder beside m octets → Holds octets n
    → n.generation < m.generation
beside_older false m n octets is holds = absurd (is.shut holds.gate)
beside_older true m n octets is holds =
    omega (arith, is.2, ap (λ (k : Manifest). k.generation) (one_held octets is.0 n is.1 holds))

never_at : (slot : Slot) (beside : Bool) (m : Manifest) (image : ℕ → List ℕ) (e : OpenError)
    → Holds (image (file_of slot)) m → IsOlder beside m (image (file_of (other slot))) → IsOpenFault image e → ⊥
never_at First beside m image e holds older fault = ⊎_elim
    (λ a. a.0 holds.gate)
    (λ o. ⊎_elim (λ a. held_sound First (image 1) (Some m) e holds a.1)
    (λ o. ⊎_elim (λ a. beside_sound Second beside m (image 2) e older a.3)
    (λ a. omega (
      arith,
      beside_older beside m a.1 (image 2) older a.3,
      a.4,
      ap (λ (k : Manifest). k.generation) (one_held (image 1) m a.0 holds a.2),
    )) o) o)
    fault
never_at Second beside m image e holds older fault = ⊎_elim
    (λ a. a.1 holds.gate)
    (λ o. ⊎_elim (λ a. beside_sound First beside m (image 1) e older a.1)
    (λ o. ⊎_elim (λ a. held_sound Second (image 2) (Some m) e holds a.3)
    (λ a. omega (
      arith,
      beside_older beside m a.0 (image 1) older a.2,
      a.4,
      ap (λ (k : Manifest). k.generation) (one_held (image 2) m a.1 holds a.3),
    )) o) o)
    fault

pub never_in_force : (image : ℕ → List ℕ) (m : Manifest) (e : OpenError) → IsInForce image m → IsOpenFault image e → ⊥
never_in_force image m e is fault =
    never_at (is.0).current_slot (is.0).other_open (is.0).current image e (is.2).current (is.2).beside fault
