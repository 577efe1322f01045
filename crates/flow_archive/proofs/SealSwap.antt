-- The stages of a seal.
use Rattle.std.proofs.Common.{◌≡◌, ◌≢◌, ◌⊎◌, inl, inr, ⊎_elim, ℕ, ◌+◌, ◌-◌, ◌≤◌, List, []}
use Rattle.std.proofs.Common.{◌∷◌, ◌++◌, length, get_or, refl, sym, ◌∙◌, ap, subst, arith, length-append}
use Rattle.std.specs.List.{AllByRecursion}
use Rattle.std.proofs.lemmas.List.{take_at, get_or-append_right}
use Rattle.std.proofs.lemmas.List.Sums.{sum_by-append, sum_by-cons}
use Rattle.flow_disk.specs.Disk.{Held, InFile}
use Rattle.flow_gate.specs.Gate.{IsGated}
use Rattle.flow_manifest.specs.declared.manifest.Entry.{Entry}
use Rattle.flow_manifest.specs.declared.manifest.Manifest.{Manifest}
use Rattle.flow_manifest.specs.declared.slots.Slots.{Slots}
use Rattle.flow_manifest.specs.Manifest.{IsValidManifest}
use Rattle.flow_manifest.specs.Following.{active_of, front_of, sealed_entry, active_entry}
use Rattle.flow_manifest.specs.Slots.{file_of, other, swapped, IsInForce, IsNextBody, IsSwapped, MayClose, MaySwap}
use Rattle.flow_manifest.proofs.EntryLists.{all_by, all_join}
use Rattle.flow_manifest.proofs.ValidEntries.{IsOther, AreEntries, are_entries, all_sum}
use Rattle.flow_manifest.proofs.ManifestAfterSeal.{next_active, next_front}
use Rattle.flow_manifest.proofs.Swaps.{still_in_force, swapped_slots}
use Rattle.flow_segment.specs.Steps.{trailer, IsAnything, Becomes, KeepsFront}
use Rattle.flow_model.specs.State.{State, end_of, after_seal, reopened}
use Rattle.flow_model.specs.Standing.{IsSealedAt, IsActiveAt, PartsStand, HoldsFiles}
use Rattle.flow_model.specs.Standing.{StandsForEither, IsKnown}
use Rattle.flow_archive.specs.Sealing.{IsSealing}
use Rattle.flow_archive.proofs.Stand.{slot_below, parts_push, parts_last, files_below, files_at_rest, valid_of}
use Rattle.flow_archive.proofs.Stand.{stands_for, elsewhere, cutting}

pub empty_list : (prefix : List ℕ) → IsGated (prefix ++ 0 ∷ 0 ∷ []) (length prefix) []
empty_list prefix = record {
  row = tt;
  closed = record {
    room = omega (arith, length-append prefix (0 ∷ 0 ∷ []));
    zero_octet = get_or-append_right prefix (0 ∷ 0 ∷ []) (length prefix) (length prefix + 0) 0 refl (omega arith)
        ∙ ap (λ (n : ℕ). get_or (0 ∷ 0 ∷ []) n 0) zero_at;
    shut = λ ten. omega (
      arith,
      sym ten
          ∙ get_or-append_right prefix (0 ∷ 0 ∷ []) (length prefix) (length prefix + 0 + 1) 0 refl (omega arith)
          ∙ ap (λ (n : ℕ). get_or (0 ∷ 0 ∷ []) n 0) one_at,
    );
  };
}
  where
    zero_at : length prefix + 0 - length prefix ≡ 0
    zero_at = omega arith

    one_at : length prefix + 0 + 1 - length prefix ≡ 1
    one_at = omega arith

module _ (on_disk : ℕ → Held) (slots : Slots) (active end next : ℕ) (prefix body : List ℕ) (s : State)
    (m : IsSealing on_disk slots active end next prefix body s) where
  abbrev after : State
  after = after_seal s prefix

  abbrev pub slots_after : Slots
  slots_after = swapped slots after.manifest

  -- the slot that isn't in force
  abbrev beside : ℕ
  beside = file_of (other slots.current_slot)

  abbrev pub Either : (ℕ → List ℕ) → Type 0
  Either image = StandsForEither (reopened s) (reopened after) image

  abbrev pub sealed : Entry
  sealed = sealed_entry (active_of s.manifest) (end_of s) (length s.active.messages)

  abbrev fresh : Entry
  fresh = active_entry s.next (length prefix)

  -- the new segment is made
  pub record IsMade (image : ℕ → List ℕ) : Type 0 where
    pub known : IsKnown slots s image
    pub made : image next ≡ prefix ++ trailer

  above_slot : (n : ℕ) → 3 ≤ n → n ≢ beside
  above_slot n le is = omega (arith, is, le, slot_below (other slots.current_slot))

  far : s.manifest.next ≤ next
  far = omega (arith, m.next_is, m.next_from)

  next_above : IsValidManifest s.manifest → 3 ≤ next
  next_above was = let are = are_entries s.manifest was in
      omega (arith, are.active.file_from, are.active.file_below, far)

  pub making : (a b : ℕ → List ℕ) → IsKnown slots s a → InFile next IsAnything a b → Either b
  making a b known step = inl (stands_for slots s b (elsewhere slots s next IsAnything a b far known step))

  pub made_then : (a b : ℕ → List ℕ) → IsKnown slots s a → InFile next (Becomes (prefix ++ trailer)) a b → IsMade b
  made_then a b known step =
      record { known = elsewhere slots s next (Becomes (prefix ++ trailer)) a b far known step; made = step.here }

  files_kept : (Q : List ℕ → List ℕ → Type 0) (a b : ℕ → List ℕ) → IsValidManifest s.manifest → HoldsFiles a s
      → InFile beside Q a b → HoldsFiles b s
  files_kept Q a b was files step =
      files_below s a b (are_entries s.manifest was) files (λ n from below. step.others n (above_slot n from))

  -- while the slot is as it was, or closed
  closing : (a b : ℕ → List ℕ) → IsMade a → InFile beside MayClose a b → Either b
  closing a b now step = inl (record {
    force = subst (IsInForce b) now.known.current (still_in_force slots a b now.known.slots_are step);
    files = files_at_rest s b (files_kept MayClose a b (valid_of slots s a now.known) now.known.files step);
    at_rest = refl;
  })

  -- the files of the state after, once the new segment is there
  files_after : (image : ℕ → List ℕ) → IsValidManifest s.manifest → HoldsFiles image s → image next ≡ prefix ++ trailer
      → HoldsFiles image after
  files_after image was files made = record {
    parts = subst (λ (l : List Entry). PartsStand image l (s.parts ++ s.active ∷ []))
        (sym (next_front s.manifest was (end_of s) (length s.active.messages) s.next (length prefix)))
        (parts_push image sealed s.active at (front_of s.manifest) s.parts files.parts);
    active = subst (λ (e : Entry). IsActiveAt (image e.file) e (record { front = prefix; messages = [] }))
        (sym (next_active s.manifest was (end_of s) (length s.active.messages) s.next (length prefix)))
        (subst (λ (n : ℕ). IsActiveAt (image n) fresh (record { front = prefix; messages = [] })) (sym m.next_is)
        (subst (λ (l : List ℕ). IsActiveAt l fresh (record { front = prefix; messages = [] })) (sym made)
        (record { front = take_at prefix trailer (length prefix) refl; gated = empty_list prefix })));
    within = record {
      limit = omega arith;
      all = omega (
        arith,
        sum_by-append (λ (e : Entry). e.messages) (front_of s.manifest) (sealed ∷ fresh ∷ []),
        sum_by-cons (λ (e : Entry). e.messages) sealed (fresh ∷ []),
        sum_by-cons (λ (e : Entry). e.messages) fresh [],
        all_sum s.manifest was,
        files.within.all,
      );
    };
    chained = m.chained;
  }
    where
      at : IsSealedAt (image (active_of s.manifest).file) sealed s.active
      at = record {
        long = omega (arith, files.active.gated.closed.room);
        front = files.active.front;
        row = files.active.gated.row;
        count = refl;
        messages = refl;
      }

  -- once it is swapped
  pub swapped_to : (a b : ℕ → List ℕ) → IsMade a → InFile beside (IsSwapped body) a b → IsKnown slots_after after b
  swapped_to a b now step = record {
    slots_are = swapped_slots slots after.manifest body a b now.known.slots_are next_body step;
    current = refl;
    files = files_after b was (files_kept (IsSwapped body) a b was now.known.files step)
        (step.others next (above_slot next (next_above was)) ∙ now.made);
  }
    where
      was : IsValidManifest s.manifest
      was = valid_of slots s a now.known

      next_body : IsNextBody slots after.manifest body
      next_body = record {
        valid = m.valid;
        follows = ap (λ (x : Manifest). x.generation + 1) (sym now.known.current);
        is = m.body_is;
      }

  pub swapping : (a b : ℕ → List ℕ) → IsMade a → InFile beside (MaySwap body) a b → Either b
  swapping a b now step = ⊎_elim
      (λ same. closing a b now (record { others = step.others; here = inl same }))
      (λ changed. ⊎_elim
      (λ closed. closing a b now (record { others = step.others; here = inr closed }))
      (λ is. inr (stands_for slots_after after b
      (swapped_to a b now (record { others = step.others; here = is }))))
      changed)
      step.here

  pub cuts : (was : IsValidManifest s.manifest) (a b : ℕ → List ℕ) → IsKnown slots_after after a
      → InFile active (KeepsFront end) a b → IsKnown slots_after after b
  cuts was a b known step =
      cutting slots_after after active end a b (omega (arith, are.active.file_from, m.active_is)) apart
      (subst (AllByRecursion (λ e. (e.file ≢ active) ⊎ (e.length ≤ end)))
      (sym (next_front s.manifest was (end_of s) (length s.active.messages) s.next (length prefix)))
      (all_join (λ e. (e.file ≢ active) ⊎ (e.length ≤ end)) (front_of s.manifest) (sealed ∷ [])
      (all_by (IsOther s.manifest) (λ e. (e.file ≢ active) ⊎ (e.length ≤ end))
      (λ e one. inl (λ is. one.apart (is ∙ sym m.active_is))) (front_of s.manifest) are.front)
      (inr (omega (arith, m.end_is)), tt)))
      known step
    where
      are : AreEntries s.manifest
      are = are_entries s.manifest was

      apart : active ≢ (active_of after.manifest).file
      apart is = omega (
        arith,
        are.active.file_below,
        m.active_is,
        m.next_from,
        is ∙ ap (λ (e : Entry). e.file)
            (next_active s.manifest was (end_of s) (length s.active.messages) s.next (length prefix)),
      )

  pub cutting_tail : (was : IsValidManifest s.manifest) (a b : ℕ → List ℕ) → IsKnown slots_after after a
      → InFile active (KeepsFront end) a b → Either b
  cutting_tail was a b known step = inr (stands_for slots_after after b (cuts was a b known step))

  -- what is sealed
  pub sealed_is : IsValidManifest s.manifest → (image : ℕ → List ℕ) → IsKnown slots_after after image
      → IsSealedAt (image active) sealed s.active
  sealed_is was image known = subst (λ (n : ℕ). IsSealedAt (image n) sealed s.active) m.active_is
      (parts_last image sealed s.active (front_of s.manifest) s.parts
      (subst (λ (l : List Entry). PartsStand image l (s.parts ++ s.active ∷ []))
      (next_front s.manifest was (end_of s) (length s.active.messages) s.next (length prefix)) known.files.parts))
