-- From one active segment to the next.
use Rattle.std.specs.Prelude.{◌≡◌, ◌≢◌, ℕ, ◌+◌, ◌≤◌, true, false, List}
use Rattle.flow_disk.specs.Disk.{Held, Marks, AllImages}
use Rattle.flow_manifest.specs.declared.slots.Slots.{Slots}
use Rattle.flow_manifest.specs.Manifest.{IsValidManifest, manifest_octets}
use Rattle.flow_manifest.specs.Following.{active_of}
use Rattle.flow_model.specs.State.{State, end_of, after_seal}
use Rattle.flow_model.specs.Chain.{IsChained}
use Rattle.flow_model.specs.Standing.{IsKnown}

-- These numbers are those of an archive that seals its active segment, which determines this prefix, and the body is
-- that of its next manifest.
pub record IsSealing (files : ℕ → Held) (slots : Slots) (active end next : ℕ) (prefix body : List ℕ)
    (s : State) : Type 0 where
  pub active_is : (active_of s.manifest).file ≡ active
  pub next_is : s.next ≡ next
  pub next_from : s.manifest.next ≤ s.next
  pub end_is : end_of s ≡ end
  pub valid : IsValidManifest (after_seal s prefix).manifest
  pub chained : IsChained (after_seal s prefix)
  pub body_is : body ≡ manifest_octets (after_seal s prefix).manifest
  pub known : AllImages files (IsKnown slots s)

-- What becomes of the files on every disk: the slot and the next segment are settled and long enough, and all but these
-- and the segment that was sealed are as they were.
pub record SealsMarks (old new : ℕ → Marks) (active next slot prefix : ℕ) : Type 0 where
  pub others : (n : ℕ) → n ≢ active → n ≢ next → n ≢ slot → new n ≡ old n
  pub slot_settled : (new slot).settled ≡ true
  pub slot_thawed : (new slot).frozen ≡ false
  pub slot_room : 1 ≤ (new slot).size
  pub next_settled : (new next).settled ≡ true
  pub next_thawed : (new next).frozen ≡ false
  pub next_room : prefix + 2 ≤ (new next).size
