-- The first octets of a slot, one more than a slot has that holds a manifest, show what it holds.
use Rattle.std.proofs.Common.{◌≡◌, ◌⊎◌, inl, inr, ⊎_elim, ℕ, ◌≤◌, min, Bool, true, false, List, ◌++◌, length, take}
use Rattle.std.proofs.Common.{drop, get_or, Option, Some, None, refl, sym, ◌∙◌, ap, subst, arith, append_assoc}
use Rattle.std.proofs.Common.{length-append, length-drop}
use Rattle.std.specs.List.{flat_map}
use Rattle.std.specs.Int.{w16, to_be_bytes}
use Rattle.std.proofs.lemmas.List.{take_all, length-take, take-append-drop, get_or-take, drop-append-le, take_min}
use Rattle.std.proofs.lemmas.Bool.{cases_lt}
use Rattle.flow_manifest.specs.declared.manifest.Manifest.{Manifest}
use Rattle.flow_manifest.specs.declared.error.ManifestError.{ManifestError}
use Rattle.flow_manifest.specs.declared.error.OpenError.{OpenError}
use Rattle.flow_manifest.specs.declared.slots.Slot.{Slot}
use Rattle.flow_manifest.specs.declared.slots.Slot.TheVariants.{First, Second}
use Rattle.flow_manifest.specs.declared.slots.Slots.{Slots}
use Rattle.flow_manifest.specs.declared.head.Head.{Head}
use Rattle.flow_manifest.specs.Manifest.{Format, format_1, format_2, format_number, head_of, head_octets, head_length}
use Rattle.flow_manifest.specs.Manifest.{entry_octets, IsBody}
use Rattle.flow_manifest.specs.Fault.{IsFault, IsFaultIn, IsFaultBehind}
use Rattle.flow_manifest.specs.Slots.{file_of, other, IsOpen, IsClosed, Holds, IsOlder, AreSlots}
use Rattle.flow_manifest.specs.Opening.{IsHeld, IsSlotFault, IsOpenFault, enough}
use Rattle.flow_manifest.proofs.Bodies.{entries_long}
use Rattle.flow_manifest.proofs.Faults.{whole_head}

head_to : (format : Format) → head_length format ≤ 50
head_to format_1 = omega arith
head_to format_2 = omega arith

-- a body has 131,122 octets at most
body_short : (octets : List ℕ) (m : Manifest) → IsBody octets m → length octets ≤ 131122
body_short octets m body =
    omega (
      arith,
      whole_head body.format (head_of m) octets (flat_map entry_octets m.entries) body.is,
      head_to body.format,
      entries_long m.entries,
      ((body.valid).ranges).count_to,
    )

-- octets that are too long for a body keep their fault, whatever follows
fault_of_more : (octets more : List ℕ) (f : ManifestError) → 131123 ≤ length octets → IsFault octets f
    → IsFault (octets ++ more) f
fault_of_more octets more f long fault = ⊎_elim
    (λ short. absurd (omega (arith, short.0)))
    (λ o. ⊎_elim
    (λ unknown. inr (inl (
      unknown.0,
      unknown.1 ++ more,
      ap (λ (l : List ℕ). l ++ more) unknown.2,
      unknown.3,
      unknown.4,
      unknown.5,
    )))
    (λ known. inr (inr (known.0, known.1 ++ more, ap (λ (l : List ℕ). l ++ more) known.2, inside known.0 known.3)))
    o)
    fault
  where
    inside : (format : Format) → IsFaultIn format octets f → IsFaultIn format (octets ++ more) f
    inside format is = ⊎_elim
        (λ short. absurd (omega (arith, short.0, head_to format)))
        (λ far. inr (
          far.0,
          far.1 ++ more,
          longer far.0 far.1 far.2,
          far.3,
          far.4,
          behind far.0 far.1 (omega (arith, whole_head format far.0 octets far.1 far.2, head_to format)) far.5,
        ))
        is
      where
        longer : (head : Head) (rest : List ℕ)
            → octets ≡ to_be_bytes w16 (format_number format) ++ head_octets format head ++ rest
            → octets ++ more ≡ to_be_bytes w16 (format_number format) ++ head_octets format head ++ (rest ++ more)
        longer head rest is = ap (λ (l : List ℕ). l ++ more) is
            ∙ ap (λ (l : List ℕ). to_be_bytes w16 (format_number format) ++ l)
            (append_assoc (head_octets format head) rest more)

        behind : (head : Head) (rest : List ℕ) → 131073 ≤ length rest → IsFaultBehind head rest f
            → IsFaultBehind head (rest ++ more) f
        behind head rest far is = ⊎_elim
            (λ ranges. inl ranges)
            (λ o. ⊎_elim
            (λ cut. inr (inl (cut.0, (λ same. omega (arith, same, length-append rest more, (cut.0).count_to)), cut.2)))
            (λ none. absurd (omega (arith, none.1, (none.0).count_to)))
            o)
            is

pub enough_is : enough ≡ 131124
unfolding enough
enough_is = refl

abbrev front : List ℕ → List ℕ
front octets = take enough octets

-- the first octets are all, or they are one more than the longest slot has
all_or_more : (octets : List ℕ) → (front octets ≡ octets) ⊎ (length (front octets) ≡ 131124)
all_or_more octets = ⊎_elim
    (λ short. inl (take_all enough octets (omega (arith, short))))
    (λ long. inr (length-take enough octets ∙ omega (arith, long, enough_is)))
    (cases_lt (length octets) enough)

same_gate : (octets : List ℕ) → get_or (front octets) 0 0 ≡ get_or octets 0 0
same_gate octets = get_or-take enough octets 0 0 (omega (arith, enough_is))

some_octets : (octets : List ℕ) → 1 ≤ length (front octets) → 1 ≤ length octets
some_octets octets some = omega (arith, some, length-take enough octets)

closed_whole : (octets : List ℕ) → IsClosed (front octets) → IsClosed octets
closed_whole octets is =
    record { gate = some_octets octets is.gate; shut = λ shown. is.shut (same_gate octets ∙ shown) }

holds_whole : (octets : List ℕ) (m : Manifest) → Holds (front octets) m → Holds octets m
holds_whole octets m is = ⊎_elim
    (λ all. subst (λ (l : List ℕ). Holds l m) all is)
    (λ long. absurd (omega (arith, body_short (drop 1 (front octets)) m is.body, length-drop 1 (front octets), long)))
    (all_or_more octets)

fault_whole : (slot : Slot) (octets : List ℕ) (e : OpenError) → IsSlotFault slot (front octets) e
    → IsSlotFault slot octets e
fault_whole slot octets e fault = ⊎_elim
    (λ all. subst (λ (l : List ℕ). IsSlotFault slot l e) all fault)
    (λ long. ⊎_elim
    (λ short. absurd (omega (arith, short.0, long)))
    (λ shown. inr (
      sym (same_gate octets) ∙ shown.0,
      shown.1,
      subst (λ (l : List ℕ). IsFault l shown.1) (rest_of octets long)
          (fault_of_more (drop 1 (front octets)) (drop enough octets) shown.1
          (omega (arith, length-drop 1 (front octets), long)) shown.2),
      shown.3,
    ))
    fault)
    (all_or_more octets)
  where
    rest_of : (octets : List ℕ) → length (front octets) ≡ 131124
        → drop 1 (front octets) ++ drop enough octets ≡ drop 1 octets
    rest_of octets long = sym (drop-append-le 1 (front octets) (drop enough octets) (omega (arith, long)))
        ∙ ap (λ (l : List ℕ). drop 1 l) (take-append-drop enough octets)

older_whole : (beside : Bool) (m : Manifest) (octets : List ℕ) → IsOlder beside m (front octets)
    → IsOlder beside m octets
older_whole false m octets is = closed_whole octets is
older_whole true m octets is = (is.0, holds_whole octets is.0 is.1, is.2)

held_whole : (octets : List ℕ) (held : Option Manifest) → IsHeld (front octets) held → IsHeld octets held
held_whole octets None is = closed_whole octets is
held_whole octets (Some m) is = holds_whole octets m is

pub slots_whole : (slots : Slots) (image : ℕ → List ℕ) → AreSlots slots (λ n. take enough (image n))
    → AreSlots slots image
slots_whole slots image are = record {
  current = holds_whole (image (file_of slots.current_slot)) slots.current are.current;
  beside = older_whole slots.other_open slots.current (image (file_of (other slots.current_slot))) are.beside;
}

shown_whole : (image : ℕ → List ℕ) → IsOpen (front (image 1)) ⊎ IsOpen (front (image 2)) → IsOpen (image 1)
    ⊎ IsOpen (image 2)
shown_whole image shown =
    ⊎_elim (λ one. inl (sym (same_gate (image 1)) ∙ one)) (λ two. inr (sym (same_gate (image 2)) ∙ two)) shown

pub open_fault_whole : (image : ℕ → List ℕ) (e : OpenError) → IsOpenFault (λ n. take enough (image n)) e
    → IsOpenFault image e
open_fault_whole image e fault = ⊎_elim
    (λ a. inl ((λ shown. a.0 (same_gate (image 1) ∙ shown)), (λ shown. a.1 (same_gate (image 2) ∙ shown)), a.2))
    (λ o. ⊎_elim
    (λ a. inr (inl (shown_whole image a.0, fault_whole First (image 1) e a.1)))
    (λ o. ⊎_elim
    (λ a. inr (inr (inl (
      shown_whole image a.0,
      a.1,
      held_whole (image 1) a.1 a.2,
      fault_whole Second (image 2) e a.3,
    ))))
    (λ a. inr (inr (inr (a.0, a.1, holds_whole (image 1) a.0 a.2, holds_whole (image 2) a.1 a.3, a.4, a.5))))
    o)
    o)
    fault

-- the octets that are read: all, or as many as are enough
pub read_front : (octets : List ℕ) (count : ℕ) → count ≡ length octets
    → take (min count 131124) octets ≡ take enough octets
read_front octets count is = rw (is, ← enough_is) (ap (λ n. take n octets) min_swap ∙ take_min enough octets)
  where
    min_swap : min (length octets) enough ≡ min enough (length octets)
    min_swap = omega arith
