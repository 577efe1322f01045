-- An archive after a seal.
use Rattle.std.proofs.Common.{◌≡◌, ℕ, ◌+◌, ◌<◌, ◌^◌, Bool, true, false, IsTrue, List, [], ◌∷◌, ◌++◌, length, sym, ◌∙◌}
use Rattle.std.proofs.Common.{ap, subst, arith}
use Rattle.flow_disk.specs.Disk.{Held, Marks, AllImages}
use Rattle.flow_manifest.specs.declared.manifest.Entry.{Entry}
use Rattle.flow_manifest.specs.declared.manifest.Kind.TheVariants.{Sealed}
use Rattle.flow_manifest.specs.declared.slots.Slots.{Slots}
use Rattle.flow_manifest.specs.Manifest.{IsValidManifest}
use Rattle.flow_manifest.specs.Following.{active_of, active_entry, front_of, sealed_entry}
use Rattle.flow_manifest.specs.Slots.{file_of, other}
use Rattle.flow_manifest.proofs.EntryLists.{all_join}
use Rattle.flow_manifest.proofs.ValidEntries.{are_entries}
use Rattle.flow_manifest.proofs.ManifestAfterSeal.{next_front}
use Rattle.flow_segment.specs.Carry.{Carry, prefix_of, IsCarry}
use Rattle.flow_model.specs.State.{Part, State, end_of, after_seal}
use Rattle.flow_model.specs.Chain.{HandsOn}
use Rattle.flow_recover.specs.Kept.{IsCounted}
use Rattle.flow_recover.specs.Opening.{FrozenStand}
use Rattle.flow_model.specs.Standing.{IsKnown, IsSealedAt}
use Rattle.flow_archive.specs.Answers.{job_generations, IsSealed}
use Rattle.flow_archive.specs.Sealing.{SealsMarks}
use Rattle.flow_archive.specs.Frozen.{octets_in, AreHeldAs, Frozen, IsHeldAs}
use Rattle.flow_archive.specs.Parts.{part_at, parts_at}
use Rattle.flow_archive.specs.Seen.{AreFrozen, IsArchive, IsOpen, state_in}
use Rattle.flow_archive.specs.UnderWay.{UnderWay, job_in, under_way_in, IsUnderWay, IsUnnamed}
use Rattle.flow_archive.proofs.Chaining.{hands_next, segment_called}
use Rattle.flow_archive.proofs.Owning.{as_many, held_push}
use Rattle.flow_archive.proofs.Parting.{frozen_push, one_sealed, parts_at_push, parts_many}
use Rattle.flow_archive.proofs.Stand.{frozen_too, slot_below}
use Rattle.flow_archive.proofs.Working.{sealed_too}
use Rattle.flow_archive.proofs.Ready.{counted_moved, ready_moved}

module _ {D : Type 0} (honest : D → Bool) (marks : D → ℕ → Marks) (held : D → ℕ → Held) (work : UnderWay) (shared : Bool)
    (d d1 : D) (slots : Slots) (last : Entry) (end total : ℕ) (carry : Carry) (files : List Frozen) (front : List ℕ)
    (messages : List (List ℕ)) (part : Frozen) where
  abbrev s : State
  s = state_in work shared slots.current files front messages

  abbrev prefix : List ℕ
  prefix = prefix_of carry

  abbrev sealed : Entry
  sealed = sealed_entry (active_of slots.current) (end_of s) (length messages)

  abbrev pub after_state : State
  after_state = state_in (under_way_in (work.next + 1) work.job work.waiting) shared (after_seal s prefix).manifest (files ++ part ∷ []) prefix []

  abbrev pub after_slots : Slots
  after_slots = record {
    current = (after_seal s prefix).manifest;
    current_slot = other slots.current_slot;
    other_open = true;
  }

  front_is : IsValidManifest slots.current → front_of (after_seal s prefix).manifest ≡ front_of slots.current ++
      sealed ∷ []
  front_is valid = next_front slots.current valid (end_of s) (length messages) work.next (length prefix)

  parts_are : IsValidManifest slots.current → AreHeldAs (honest d) (front_of slots.current) files
      → after_state.parts ≡ s.parts ++ part_at Sealed sealed part.octets ∷ []
  parts_are valid all = ap (λ (l : List Entry). parts_at octets_in l (files ++ part ∷ [])) (front_is valid)
      ∙ parts_at_push octets_in sealed part (front_of slots.current) files
      (as_many (honest d) (front_of slots.current) files all)

  abbrev with_parts : List Part → State
  with_parts parts = record (after_seal s prefix) { parts = parts }

  pub is_sealed : IsValidManifest slots.current → AreHeldAs (honest d) (front_of slots.current) files
      → IsOpen honest marks held d slots last end total carry s
      → (IsTrue (honest d) → IsSealedAt part.octets sealed s.active) → IsSealed (honest d) s after_state
  is_sealed valid all still part_is = (
    carry,
    part_at Sealed sealed part.octets,
    still.segment,
    (λ h. one_sealed part.octets sealed s.active (part_is h)),
    ap with_parts (parts_are valid all),
  )

  pub same_state : IsValidManifest slots.current → AreHeldAs (honest d) (front_of slots.current) files
      → IsSealedAt part.octets sealed s.active → after_state ≡ after_seal s prefix
  same_state valid all is = ap with_parts (parts_are valid all)
      ∙ ap (λ (p : Part). with_parts (s.parts ++ p ∷ [])) (one_sealed part.octets sealed s.active is)

  pub sealed_archive : (closed : Bool) → IsArchive honest marks held d slots last end total carry files s closed
      → closed ≡ false → IsCarry carry → honest d1 ≡ honest d → IsValidManifest (after_seal s prefix).manifest
      → SealsMarks (marks d) (marks d1) last.file work.next (file_of (other slots.current_slot)) (length
      prefix)
      → (marks d1 last.file).frozen ≡ true
      → (IsTrue (honest d) → AllImages (held d1) (IsKnown after_slots (after_seal s prefix)))
      → (IsTrue (honest d) → IsSealedAt part.octets sealed s.active) → IsHeldAs (honest d) sealed part
      → IsArchive honest marks held d1 after_slots (active_entry work.next (length prefix))
      (length prefix) total carry (files ++ part ∷ []) after_state closed
  sealed_archive closed archive was is_carry honest_too valid moves frozen known part_is named =
      let counted = archive.counted in
      let still = archive.still_open was in
      let are = are_entries slots.current counted.valid in
      let file = ap (λ (e : Entry). e.file) counted.active_entry_is in
      let moved = counted_moved s last end total prefix counted valid in
      let now : IsCounted after_state (active_entry work.next (length prefix)) (length prefix) total = record {
        valid = valid;
        next = omega arith;
        active_entry_is = moved.active_entry_is;
        end_is = moved.end_is;
        long = λ some. moved.long some;
        total_is = moved.total_is;
        within = record { limit = moved.within.limit; all = moved.within.all };
      } in
      let back = λ (h1 : IsTrue (honest d1)). subst IsTrue honest_too h1 in
      let same = λ (h : IsTrue (honest d)). same_state counted.valid archive.files_are (part_is h) in
      record {
        counted = now;
        files_are = subst (λ (h : Bool). AreHeldAs h (front_of after_state.manifest) (files ++ part ∷ []))
            (sym honest_too)
            (subst (λ (l : List Entry). AreHeldAs (honest d) l (files ++ part ∷ [])) (sym (front_is counted.valid))
            (held_push (honest d) sealed part named (front_of slots.current) files archive.files_are));
        stand = λ h1. subst (λ (l : List Entry). FrozenStand octets_in l after_state.parts (files ++ part ∷ []))
            (sym (front_is counted.valid))
            (subst (λ (l : List Part). FrozenStand octets_in (front_of slots.current ++ sealed ∷ []) l
            (files ++ part ∷ [])) (sym (ap (λ (x : State). x.parts) (same (back h1))))
            (frozen_push octets_in sealed s.active part (part_is (back h1)) (front_of slots.current) s.parts files
            (archive.stand (back h1))));
        still_open = λ _. record {
          kept = record {
            counted = now;
            ready = ready_moved (marks d) (marks d1) last.file work.next end slots.current_slot (length prefix)
                (omega (arith, file, are.active.file_from)) (omega (arith, file, are.active.file_below, counted.next))
                still.kept.ready moves;
            known = λ h1 image is.
                subst (λ (x : State). IsKnown after_slots x image) (sym (same (back h1))) (known (back h1) image is);
          };
          segment = segment_called carry is_carry;
          hands_on = λ h1. subst (λ (x : State). HandsOn x carry) (sym (same (back h1)))
              (hands_next s carry counted.valid is_carry (still.hands_on (back h1)));
          frozen = subst (AreFrozen (marks d1)) (sym (front_is counted.valid))
              (all_join (λ e. (marks d1 e.file).frozen ≡ true) (front_of slots.current) (sealed ∷ [])
              (frozen_too slots.current (marks d) (marks d1) counted.valid
              (λ n from below apart. moves.others n (λ is. apart (is ∙ file))
              (λ is. omega (arith, is, below, counted.next))
              (λ is. omega (arith, is, from, slot_below (other slots.current_slot)))) still.frozen)
              (ap (λ (n : ℕ). (marks d1 n).frozen) (sym file) ∙ frozen, tt));
        };
      }

  pub sealed_work : (closed : Bool) → IsArchive honest marks held d slots last end total carry files s closed
      → honest d1 ≡ honest d → ((n : ℕ) → IsUnnamed s n → marks d1 n ≡ marks d n)
      → (IsTrue (honest d) → (n : ℕ) → IsUnnamed s n → held d1 n ≡ held d n)
      → slots.current.generation + 1 + job_generations (job_in work.job) < 2 ^ 64
      → IsUnderWay honest marks held d s work closed
      → IsUnderWay honest marks held d1 after_state (under_way_in (work.next + 1) work.job work.waiting) closed
  sealed_work closed archive honest_too marks_too held_too left was =
      let valid = archive.counted.valid in
      let all = archive.files_are in
      subst (λ (l : List Part). IsUnderWay honest marks held d1 (with_parts l)
      (under_way_in (work.next + 1) work.job work.waiting) closed) (sym (parts_are valid all))
      (sealed_too s valid prefix (part_at Sealed sealed part.octets)
      (parts_many octets_in (front_of slots.current) files (as_many (honest d) (front_of slots.current) files all))
      honest marks held d d1 work closed honest_too marks_too held_too left was)
