-- The stages of an install.
use Rattle.std.proofs.Common.{◌≡◌, ◌≢◌, inl, inr, ⊎_elim, ℕ, ◌+◌, ◌≤◌, List, refl, sym}
use Rattle.std.proofs.Common.{ap, subst, ◌∙◌, length, take, drop, arith}
use Rattle.std.proofs.lemmas.List.{take_at}
use Rattle.flow_disk.specs.Disk.{Held, InFile, put_at}
use Rattle.flow_manifest.specs.declared.following.JobKind.{JobKind}
use Rattle.flow_manifest.specs.declared.manifest.Manifest.{Manifest}
use Rattle.flow_manifest.specs.declared.slots.Slots.{Slots}
use Rattle.flow_manifest.specs.Manifest.{IsValidManifest}
use Rattle.flow_manifest.specs.Slots.{file_of, other, swapped, IsInForce, IsNextBody, IsSwapped, MayClose, MaySwap}
use Rattle.flow_manifest.proofs.ValidEntries.{are_entries}
use Rattle.flow_manifest.proofs.Swaps.{still_in_force, swapped_slots}
use Rattle.flow_model.specs.State.{StagedFile, State, reopened}
use Rattle.flow_model.specs.Jobs.{IsStagedAt, replaced}
use Rattle.flow_model.specs.Standing.{HoldsFiles, StandsForEither, IsKnown}
use Rattle.flow_model.proofs.Replacing.{holds_replaced}
use Rattle.flow_archive.specs.Installing.{IsInstall}
use Rattle.flow_archive.proofs.Stand.{slot_below, files_below, files_at_rest, stands_for, valid_of}

module _ (on_disk : ℕ → Held) (slots : Slots) (body : List ℕ) (kind : JobKind) (count : ℕ) (file : StagedFile)
    (s : State) (m : IsInstall on_disk slots body kind count file s) where
  abbrev after : State
  after = replaced s kind count file

  abbrev pub slots_after : Slots
  slots_after = swapped slots after.manifest

  -- the slot that isn't in force
  abbrev beside : ℕ
  beside = file_of (other slots.current_slot)

  abbrev pub Either : (ℕ → List ℕ) → Type 0
  Either image = StandsForEither (reopened s) (reopened after) image

  -- the file is ready
  pub record IsMade (image : ℕ → List ℕ) : Type 0 where
    pub known : IsKnown slots s image
    pub made : IsStagedAt (image file.file) file

  above_slot : (n : ℕ) → 3 ≤ n → n ≢ beside
  above_slot n le is = omega (arith, is, le, slot_below (other slots.current_slot))

  made_kept : (Q : List ℕ → List ℕ → Type 0) (a b : ℕ → List ℕ) → InFile beside Q a b → IsStagedAt (a file.file) file
      → IsStagedAt (b file.file) file
  made_kept Q a b step made = subst (λ (l : List ℕ). IsStagedAt l file)
      (sym (step.others file.file (above_slot file.file m.elsewhere))) made

  files_kept : (Q : List ℕ → List ℕ → Type 0) (a b : ℕ → List ℕ) → IsValidManifest s.manifest → HoldsFiles a s
      → InFile beside Q a b → HoldsFiles b s
  files_kept Q a b was files step =
      files_below s a b (are_entries s.manifest was) files (λ n from below. step.others n (above_slot n from))

  pub ready_to : (image : ℕ → List ℕ) → IsKnown slots s image → IsStagedAt (image file.file) file → IsMade image
  ready_to image known made = record { known = known; made = made }

  -- while the slot is as it was, or closed
  closing : (a b : ℕ → List ℕ) → IsMade a → InFile beside MayClose a b → Either b
  closing a b now step = inl (record {
    force = subst (IsInForce b) now.known.current (still_in_force slots a b now.known.slots_are step);
    files = files_at_rest s b (files_kept MayClose a b (valid_of slots s a now.known) now.known.files step);
    at_rest = refl;
  })

  files_after : (image : ℕ → List ℕ) → IsValidManifest s.manifest → HoldsFiles image s
      → IsStagedAt (image file.file) file → HoldsFiles image after
  files_after image was files made =
      holds_replaced s m.carry was m.hands_on kind count m.few file m.table image m.sums made files

  -- once it is swapped
  pub swapped_to : (a b : ℕ → List ℕ) → IsMade a → InFile beside (IsSwapped body) a b → IsKnown slots_after after b
  swapped_to a b now step = record {
    slots_are = swapped_slots slots after.manifest body a b now.known.slots_are next_body step;
    current = refl;
    files = files_after b was (files_kept (IsSwapped body) a b was now.known.files step)
        (made_kept (IsSwapped body) a b step now.made);
  }
    where
      was : IsValidManifest s.manifest
      was = valid_of slots s a now.known

      next_body : IsNextBody slots after.manifest body
      next_body = record {
        valid = m.valid;
        follows = ap (λ (x : Manifest). x.generation + 1) (sym now.known.current);
        is = m.body_is;
      }

  pub swapping : (a b : ℕ → List ℕ) → IsMade a → InFile beside (MaySwap body) a b → Either b
  swapping a b now step = ⊎_elim
      (λ same. closing a b now (record { others = step.others; here = inl same }))
      (λ changed. ⊎_elim
      (λ closed. closing a b now (record { others = step.others; here = inr closed }))
      (λ is. inr (stands_for slots_after after b
      (swapped_to a b now (record { others = step.others; here = is }))))
      changed)
      step.here

-- ---- what is staged

-- octets, whatever the file held
pub written_alone : (octets : List ℕ) (start written cut : Held) → written.reads ≡ put_at start.reads 0 octets
    → cut.reads ≡ take (length octets) written.reads → cut.reads ≡ octets
written_alone octets start written cut one two =
    two ∙ ap (take (length octets)) one
    ∙ take_at octets (drop (0 + length octets) start.reads) (length octets) refl
