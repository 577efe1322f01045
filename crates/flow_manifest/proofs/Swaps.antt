-- Which manifest is in force while one slot changes.
use Rattle.std.proofs.Common.{◌≡◌, ◌≢◌, ◌⊎◌, inl, inr, ⊎_elim, ℕ, ◌+◌, true, false, List, ◌∷◌, drop, get_or, refl, sym}
use Rattle.std.proofs.Common.{◌∙◌, ap, subst, arith}
use Rattle.flow_disk.specs.declared.disk.Disk.{Ghosts}
use Rattle.flow_disk.specs.Disk.{Held, IsDiskImage, AllImages, ComesOf, InFile}
use Rattle.flow_disk.specs.Laws.{IsAlone}
use Rattle.flow_disk.specs.Calls.{LeavesOnly}
use Rattle.flow_disk.proofs.Moments.{by}
use Rattle.flow_manifest.specs.declared.manifest.Manifest.{Manifest}
use Rattle.flow_manifest.specs.declared.slots.Slot.{Slot}
use Rattle.flow_manifest.specs.declared.slots.Slot.TheVariants.{First, Second}
use Rattle.flow_manifest.specs.declared.slots.Slots.{Slots}
use Rattle.flow_manifest.specs.Manifest.{IsValidManifest, manifest_octets, format_2}
use Rattle.flow_manifest.specs.Slots.{file_of, other, reads_of, IsClosed, Holds, IsOlder, AreSlots, IsReady, IsInForce}
use Rattle.flow_manifest.specs.Slots.{MayClose, IsPrepared, MayOpen, Opens, MaySwap, IsSwapped, IsNextBody, swapped}

pub apart : (slot : Slot) → file_of slot ≢ file_of (other slot)
apart First is = absurd (omega arith)
apart Second is = absurd (omega arith)

pub other_other : (slot : Slot) → other (other slot) ≡ slot
other_other First = refl
other_other Second = refl

-- the same slots are as the same value says
pub same_slots : (slots : Slots) (a b : ℕ → List ℕ) → AreSlots slots a
    → b (file_of slots.current_slot) ≡ a (file_of slots.current_slot)
    → b (file_of (other slots.current_slot)) ≡ a (file_of (other slots.current_slot)) → AreSlots slots b
same_slots slots a b are current beside = record {
  current = subst (λ (l : List ℕ). Holds l slots.current) (sym current) are.current;
  beside = subst (IsOlder slots.other_open slots.current) (sym beside) are.beside;
}

pub same_ready : (slots : Slots) (m : Manifest) (a b : ℕ → List ℕ) → IsReady slots m a
    → b (file_of slots.current_slot) ≡ a (file_of slots.current_slot)
    → b (file_of (other slots.current_slot)) ≡ a (file_of (other slots.current_slot)) → IsReady slots m b
same_ready slots m a b are current beside = record {
  current = subst (λ (l : List ℕ). Holds l slots.current) (sym current) are.current;
  closed = subst IsClosed (sym beside) are.closed;
  behind = ap (λ (l : List ℕ). drop 1 l) beside ∙ are.behind;
  valid = are.valid;
  follows = are.follows;
}

-- the manifest in the slot that counts stays
kept : (slots : Slots) (a b : ℕ → List ℕ) (Q : List ℕ → List ℕ → Type 0)
    → Holds (a (file_of slots.current_slot)) slots.current → InFile (file_of (other slots.current_slot)) Q a b
    → Holds (b (file_of slots.current_slot)) slots.current
kept slots a b Q holds step =
    subst (λ (l : List ℕ). Holds l slots.current)
    (sym (step.others (file_of slots.current_slot) (apart slots.current_slot))) holds

with_closed : Slots → Slots
with_closed slots = record slots { other_open = false }

-- while the other slot is closed the current manifest is in force
pub still_in_force : (slots : Slots) (a b : ℕ → List ℕ) → AreSlots slots a
    → InFile (file_of (other slots.current_slot)) MayClose a b → IsInForce b slots.current
still_in_force slots a b are step = ⊎_elim
    (λ same. (
      slots,
      refl,
      same_slots slots a b are (step.others (file_of slots.current_slot) (apart slots.current_slot)) same,
    ))
    (λ closed. (
      record slots { other_open = false },
      refl,
      record { current = kept slots a b MayClose are.current step; beside = closed },
    ))
    step.here

pub prepared_slots : (slots : Slots) (body : List ℕ) (a b : ℕ → List ℕ) → AreSlots slots a
    → InFile (file_of (other slots.current_slot)) (IsPrepared body) a b
    → AreSlots (record slots { other_open = false }) b
prepared_slots slots body a b are step =
    record { current = kept slots a b (IsPrepared body) are.current step; beside = (step.here).closed }

pub prepared_ready : (slots : Slots) (m : Manifest) (body : List ℕ) (a b : ℕ → List ℕ) → AreSlots slots a
    → InFile (file_of (other slots.current_slot)) (IsPrepared body) a b
    → IsValidManifest m → m.generation ≡ slots.current.generation + 1 → body ≡ manifest_octets m
    → IsReady (record slots { other_open = false }) m b
prepared_ready slots m body a b are step valid follows is = record {
  current = kept slots a b (IsPrepared body) are.current step;
  closed = (step.here).closed;
  behind = (step.here).behind ∙ is;
  valid = valid;
  follows = follows;
}

-- an opened slot holds the manifest that was after its gate
opened : (m : Manifest) (before after : List ℕ) → IsValidManifest m → drop 1 before ≡ manifest_octets m
    → after ≡ 165 ∷ drop 1 before → Holds after m
opened m before after valid behind is = record {
  gate = ap (λ (l : List ℕ). get_or l 0 0) is;
  body = record { valid = valid; format = format_2; said = tt; is = ap (λ (l : List ℕ). drop 1 l) is ∙ behind };
}

pub new_slots : (slots : Slots) (m : Manifest) (a b : ℕ → List ℕ) → IsReady slots m a
    → InFile (file_of (other slots.current_slot)) Opens a b
    → AreSlots (record { current = m; current_slot = other slots.current_slot; other_open = true }) b
new_slots slots m a b are step = record {
  current = opened m (a (file_of (other slots.current_slot)))
      (b (file_of (other slots.current_slot))) are.valid are.behind step.here;
  beside = (
    slots.current,
    subst (λ (s : Slot). Holds (b (file_of s)) slots.current) (sym (other_other slots.current_slot))
        (kept slots a b Opens are.current step),
    omega (arith, are.follows),
  );
}

-- while the other slot is opened the current manifest is in force, or the one after the gate
pub old_or_new : (slots : Slots) (m : Manifest) (a b : ℕ → List ℕ) → IsReady slots m a
    → InFile (file_of (other slots.current_slot)) MayOpen a b → IsInForce b slots.current ⊎ IsInForce b m
old_or_new slots m a b are step = ⊎_elim
    (λ closed. inl (
      record slots { other_open = false },
      refl,
      record { current = kept slots a b MayOpen are.current step; beside = closed },
    ))
    (λ is. inr (
      record { current = m; current_slot = other slots.current_slot; other_open = true },
      refl,
      new_slots slots m a b are (record { others = step.others; here = is }),
    ))
    step.here

-- ---- a whole swap

-- one call on a file after another
pub in_turn : (file : ℕ) (Q R T : List ℕ → List ℕ → Type 0) → ((x a b : List ℕ) → Q x a → R a b → T x b)
    → (x a b : ℕ → List ℕ) → InFile file Q x a → InFile file R a b → InFile file T x b
in_turn file Q R T then x a b one two = record {
  others = λ n differs. two.others n differs ∙ one.others n differs;
  here = then (x file) (a file) (b file) one.here two.here;
}

pub may_open_swaps : (body x a b : List ℕ) → IsPrepared body x a → MayOpen a b → MaySwap body x b
may_open_swaps body x a b prepared may = ⊎_elim (λ closed. inr (inl closed))
    (λ is. inr (inr (is ∙ ap (λ (l : List ℕ). 165 ∷ l) prepared.behind))) may

pub opens_swaps : (body x a b : List ℕ) → IsPrepared body x a → Opens a b → IsSwapped body x b
opens_swaps body x a b prepared is = is ∙ ap (λ (l : List ℕ). 165 ∷ l) prepared.behind

-- a slot with a body alone after an open gate
holds_body : (slots : Slots) (m : Manifest) (body octets : List ℕ) → IsNextBody slots m body → octets ≡ 165 ∷ body
    → Holds octets m
holds_body slots m body octets next is = record {
  gate = ap (λ (l : List ℕ). get_or l 0 0) is;
  body = record {
    valid = next.valid;
    format = format_2;
    said = tt;
    is = ap (λ (l : List ℕ). drop 1 l) is ∙ next.is;
  };
}

pub swapped_slots : (slots : Slots) (m : Manifest) (body : List ℕ) (a b : ℕ → List ℕ) → AreSlots slots a
    → IsNextBody slots m body → InFile (file_of (other slots.current_slot)) (IsSwapped body) a b
    → AreSlots (swapped slots m) b
swapped_slots slots m body a b are next step = record {
  current = holds_body slots m body (b (file_of (other slots.current_slot))) next step.here;
  beside = (
    slots.current,
    subst (λ (s : Slot). Holds (b (file_of s)) slots.current) (sym (other_other slots.current_slot))
        (kept slots a b (IsSwapped body) are.current step),
    omega (arith, next.follows),
  );
}

pub old_or_swapped : (slots : Slots) (m : Manifest) (body : List ℕ) (a b : ℕ → List ℕ) → AreSlots slots a
    → IsNextBody slots m body → InFile (file_of (other slots.current_slot)) (MaySwap body) a b
    → IsInForce b slots.current ⊎ IsInForce b m
old_or_swapped slots m body a b are next step = ⊎_elim
    (λ same. inl (still_in_force slots a b are (record { others = step.others; here = inl same })))
    (λ changed. ⊎_elim
    (λ closed. inl (still_in_force slots a b are (record { others = step.others; here = inr closed })))
    (λ is. inr (
      swapped slots m,
      refl,
      swapped_slots slots m body a b are next (record { others = step.others; here = is }),
    ))
    changed)
    step.here

-- ---- the same over a disk whose two slots are settled

module _ {D S X : Type 0} (g : Ghosts D S X) (old new : D) (slots : Slots) (file : ℕ)
    (there : file ≡ file_of (other slots.current_slot))
    (current : IsAlone (g.held old (file_of slots.current_slot)))
    (beside : IsAlone (g.held old (file_of (other slots.current_slot)))) where
  module _ (told : AreSlots slots (reads_of (g.held old))) where
    agrees : (image : ℕ → List ℕ) → IsDiskImage (g.held old) image → AreSlots slots image
    agrees image is = same_slots slots (reads_of (g.held old)) image told
        (current.alone _ (is (file_of slots.current_slot))) (beside.alone _ (is (file_of (other slots.current_slot))))

    pub current_stays : LeavesOnly g old new (ComesOf (g.held old) (InFile file MayClose))
        → LeavesOnly g old new (λ image. IsInForce image slots.current)
    current_stays run = by g old new (ComesOf (g.held old) (InFile file MayClose))
        (λ image. IsInForce image slots.current) run
        (λ image comes. still_in_force slots comes.0 image (agrees comes.0 comes.1)
        (subst (λ (n : ℕ). InFile n MayClose comes.0 image) there comes.2))

    pub current_or_next : (m : Manifest) (body : List ℕ) → IsNextBody slots m body
        → LeavesOnly g old new (ComesOf (g.held old) (InFile file (MaySwap body)))
        → LeavesOnly g old new (λ image. IsInForce image slots.current ⊎ IsInForce image m)
    current_or_next m body next run = by g old new (ComesOf (g.held old) (InFile file (MaySwap body)))
        (λ image. IsInForce image slots.current ⊎ IsInForce image m) run
        (λ image comes. old_or_swapped slots m body comes.0 image (agrees comes.0 comes.1) next
        (subst (λ (n : ℕ). InFile n (MaySwap body) comes.0 image) there comes.2))

    pub next_slots : (m : Manifest) (body : List ℕ) → IsNextBody slots m body
        → AllImages (g.held new) (ComesOf (g.held old) (InFile file (IsSwapped body)))
        → AllImages (g.held new) (AreSlots (swapped slots m))
    next_slots m body next after image is = let comes = after image is in
        swapped_slots slots m body comes.0 image (agrees comes.0 comes.1) next
        (subst (λ (n : ℕ). InFile n (IsSwapped body) comes.0 image) there comes.2)

    module _ (body : List ℕ) (after : AllImages (g.held new) (ComesOf (g.held old) (InFile file (IsPrepared body))))
        (image : ℕ → List ℕ) (is : IsDiskImage (g.held new) image) where
      abbrev pub before : ℕ → List ℕ
      before = (after image is).0

      step : InFile (file_of (other slots.current_slot)) (IsPrepared body) before image
      step = subst (λ (n : ℕ). InFile n (IsPrepared body) before image) there (after image is).2

      pub slots_then : AreSlots (record slots { other_open = false }) image
      slots_then = prepared_slots slots body before image (agrees before (after image is).1) step

      pub ready_then : (m : Manifest) → IsValidManifest m → m.generation ≡ slots.current.generation + 1
          → body ≡ manifest_octets m → IsReady (record slots { other_open = false }) m image
      ready_then m valid follows body_is =
          prepared_ready slots m body before image (agrees before (after image is).1) step valid follows body_is

  module _ (m : Manifest) (ready : IsReady slots m (reads_of (g.held old))) where
    still_ready : (image : ℕ → List ℕ) → IsDiskImage (g.held old) image → IsReady slots m image
    still_ready image is =
        same_ready slots m (reads_of (g.held old)) image ready (current.alone _ (is (file_of slots.current_slot)))
        (beside.alone _ (is (file_of (other slots.current_slot))))

    pub current_or_this : LeavesOnly g old new (ComesOf (g.held old) (InFile file MayOpen))
        → LeavesOnly g old new (λ image. IsInForce image slots.current ⊎ IsInForce image m)
    current_or_this run =
        by g old new (ComesOf (g.held old) (InFile file MayOpen)) (λ image. IsInForce image slots.current
        ⊎ IsInForce image m) run
        (λ image comes. old_or_new slots m comes.0 image (still_ready comes.0 comes.1)
        (subst (λ (n : ℕ). InFile n MayOpen comes.0 image) there comes.2))

    pub swapped_then : AllImages (g.held new) (ComesOf (g.held old) (InFile file Opens))
        → AllImages (g.held new)
        (AreSlots (record { current = m; current_slot = other slots.current_slot; other_open = true }))
    swapped_then after image is = let comes = after image is in
        new_slots slots m comes.0 image (still_ready comes.0 comes.1)
        (subst (λ (n : ℕ). InFile n Opens comes.0 image) there comes.2)
