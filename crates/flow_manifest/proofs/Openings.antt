-- What is found in the two slots.
use Rattle.std.proofs.Common.{◌≡◌, ◌≢◌, ◌⊎◌, inl, inr, ⊎_elim, ℕ, List, drop, Option, Result, Ok, Err, IfErr}
use Rattle.std.proofs.Common.{refl, sym, ◌∙◌, ap, subst, arith}
use Rattle.flow_disk.specs.Cause.{HasCause}
use Rattle.flow_manifest.specs.declared.manifest.Manifest.{Manifest}
use Rattle.flow_manifest.specs.declared.error.ManifestError.{ManifestError}
use Rattle.flow_manifest.specs.declared.error.ManifestError.TheVariants as manifest
use Rattle.flow_manifest.specs.declared.error.OpenError.{OpenError}
use Rattle.flow_manifest.specs.declared.error.OpenError.TheVariants as opening
use Rattle.flow_manifest.specs.declared.slots.Slot.{Slot}
use Rattle.flow_manifest.specs.declared.slots.Slot.TheVariants.{First, Second}
use Rattle.flow_manifest.specs.Fault.{IsFault}
use Rattle.flow_manifest.specs.Slots.{file_of, IsOpen}
use Rattle.flow_manifest.specs.Opening.{in_slot, IsHeld, IsSlotFault, IsOpenFault, NamesSlot}

-- the fault of a body, as one of its slot
pub told_fault : (slot : Slot) (octets body : List ℕ) (f : ManifestError) (e : OpenError) → drop 1 octets ≡ body
    → IsOpen octets → e ≡ in_slot slot f → (f ≡ manifest.OutOfMemory) ⊎ IsFault body f
    → (e ≡ opening.OutOfMemory) ⊎ IsSlotFault slot octets e
told_fault slot octets body f e is shown told cause = ⊎_elim
    (λ memory. inl (told ∙ ap (in_slot slot) memory))
    (λ fault. inr (inr (shown, f, subst (λ (l : List ℕ). IsFault l f) (sym is) fault, told)))
    cause

pub first_fault : (image : ℕ → List ℕ) (first second : List ℕ) (e : OpenError) → image 1 ≡ first → image 2 ≡ second
    → IsOpen first ⊎ IsOpen second → IsSlotFault First first e → IsOpenFault image e
first_fault image first second e one two shown fault = inr (inl (
  ⊎_elim (λ h. inl (subst IsOpen (sym one) h)) (λ h. inr (subst IsOpen (sym two) h)) shown,
  subst (λ (l : List ℕ). IsSlotFault First l e) (sym one) fault,
))

pub second_fault : (image : ℕ → List ℕ) (first second : List ℕ) (held : Option Manifest) (e : OpenError)
    → image 1 ≡ first → image 2 ≡ second → IsOpen first ⊎ IsOpen second → IsHeld first held
    → IsSlotFault Second second e → IsOpenFault image e
second_fault image first second held e one two shown is fault = inr (inr (inl (
  ⊎_elim (λ h. inl (subst IsOpen (sym one) h)) (λ h. inr (subst IsOpen (sym two) h)) shown,
  held,
  subst (λ (l : List ℕ). IsHeld l held) (sym one) is,
  subst (λ (l : List ℕ). IsSlotFault Second l e) (sym two) fault,
)))

-- ---- results

-- what both slots have, each slot has
pub each_slot : (P : ℕ → Type 0) → P 1 → P 2 → (slot : Slot) → P (file_of slot)
each_slot P one two First = one
each_slot P one two Second = two

-- two slots of these octets have this fault, if it isn't one of memory
abbrev pub IsFaultOf : List ℕ → List ℕ → OpenError → Type 0
IsFaultOf first second e = (e ≡ opening.OutOfMemory)
    ⊎ ((image : ℕ → List ℕ) → image 1 ≡ first → image 2 ≡ second → IsOpenFault image e)

pub first_told : (first second : List ℕ) (e : OpenError) → IsOpen first ⊎ IsOpen second → (e ≡ opening.OutOfMemory)
    ⊎ IsSlotFault First first e → IsFaultOf first second e
first_told first second e shown told =
    ⊎_elim (λ memory. inl memory)
    (λ fault. inr (λ image one two. first_fault image first second e one two shown fault)) told

pub second_told : (first second : List ℕ) (held : Option Manifest) (e : OpenError) → IsOpen first ⊎ IsOpen second
    → IsHeld first held → (e ≡ opening.OutOfMemory) ⊎ IsSlotFault Second second e → IsFaultOf first second e
second_told first second held e shown is told =
    ⊎_elim (λ memory. inl memory)
    (λ fault. inr (λ image one two. second_fault image first second held e one two shown is fault)) told

-- an answer that is never the device's fault, where no failure was counted
pub quiet : {T : Type 0} (before now : ℕ) (result : Result T OpenError) → now ≡ before
    → IfErr result (λ e. e ≢ opening.Fault) → HasCause opening.Fault before now result
quiet before now (Ok x) same never =
    record { later = omega (arith, same); done = same; risen = λ is. absurd cc; other = tt }
quiet before now (Err e) same never =
    record { later = omega (arith, same); done = tt; risen = λ is. absurd (never cc); other = λ is. same }

-- ---- names

-- a slot is file 1 or 2
slot_named : (slot : Slot) → (file_of slot ≡ 1) ⊎ (file_of slot ≡ 2)
slot_named First = inl refl
slot_named Second = inr refl

in_slot_named : (slot : Slot) (f : ManifestError) → NamesSlot (in_slot slot f)
in_slot_named slot manifest.Format = slot_named slot
in_slot_named slot manifest.Entries = slot_named slot
in_slot_named slot manifest.Cut = slot_named slot
in_slot_named slot manifest.OutOfMemory = tt

slot_fault_named : (slot : Slot) (octets : List ℕ) (e : OpenError) → IsSlotFault slot octets e → NamesSlot e
slot_fault_named slot octets e fault = ⊎_elim
    (λ short. subst NamesSlot (sym short.1) (slot_named slot))
    (λ shown. subst NamesSlot (sym shown.3) (in_slot_named slot shown.1))
    fault

pub open_fault_named : (image : ℕ → List ℕ) (e : OpenError) → IsOpenFault image e → NamesSlot e
open_fault_named image e fault = ⊎_elim
    (λ none. subst NamesSlot (sym none.2) tt)
    (λ o. ⊎_elim
    (λ a. slot_fault_named First (image 1) e a.1)
    (λ o. ⊎_elim (λ a. slot_fault_named Second (image 2) e a.3) (λ a. subst NamesSlot (sym a.5) (refl, refl)) o)
    o)
    fault
