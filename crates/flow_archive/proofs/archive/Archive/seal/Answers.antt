use Rattle.std.proofs.Common.{◌≡◌, ◌≢◌, inl, inr, ⊎_elim, ℕ, true, IsTrue}
use Rattle.std.proofs.Common.{List, [], ◌∷◌, ◌++◌, ◌+◌, ◌<◌, ◌^◌, length, refl, sym, ◌∙◌, ap, subst, arith, rules}
use Rattle.std.proofs.Common.{vec_len}
use Rattle.flow_disk.specs.Calls.{LeavesOnly}
use Rattle.flow_disk.proofs.Moments.{by}
use Rattle.flow_manifest.specs.declared.manifest.Entry.{Entry}
use Rattle.flow_manifest.specs.declared.manifest.Manifest.{Manifest}
use Rattle.flow_manifest.specs.Manifest.{IsValidManifest}
use Rattle.flow_manifest.specs.Following.{active_of, sealed_entry}
use Rattle.flow_manifest.specs.Slots.{file_of, other}
use Rattle.flow_manifest.proofs.ValidEntries.{are_entries}
use Rattle.flow_segment.specs.Carry.{prefix_of}
use Rattle.flow_model.specs.State.{State, end_of, after_seal, reopened}
use Rattle.flow_model.specs.Standing.{StandsFor, StandsForEither}
use Rattle.flow_archive.specs.declared.archive.Archive.TheInside.{Inside}
use Rattle.flow_archive.specs.Answers.{job_generations, AnswersSeal, IsSealed, IsNotSealed, MaySeal}
use Rattle.flow_archive.specs.Sealing.{IsSealing, SealsMarks}
use Rattle.flow_archive.specs.Frozen.{frozen_as, Frozen}
use Rattle.flow_archive.specs.Seen.{StandsBeforeOrAfter}
use Rattle.flow_archive.specs.declared.refusal.ArchiveError.TheVariants as refusal
use Rattle.flow_archive.specs.UnderWay.{IsUnnamed}
use Rattle.flow_archive.proofs.Answering.{err_is, not_followed}
use Rattle.flow_archive.proofs.Chaining.{hands_next, prefix_fits}
use Rattle.flow_archive.proofs.Directing.{failed_archive}
use Rattle.flow_archive.proofs.AfterSeal.{is_sealed, sealed_archive, sealed_work, same_state}
use Rattle.flow_archive.proofs.Noting.{none_noted, some_noted}
use Rattle.flow_archive.proofs.Sharing.{own_push}
use Rattle.flow_archive.proofs.Spanned.{sealed_there}
use Rattle.flow_archive.proofs.Stand.{slot_below, stands_for}
use Rattle.flow_archive.proofs.Stepping.{refused, refused_by, acknowledged, failed}
use Rattle.flow_archive.proofs.Working.{goes_on, other_file}
use Rattle.flow_archive.proofs.Inside.{state_of, work_of}
use Rattle.flow_archive.proofs.archive.Archive.seal.Given.{Over}
use Rattle.flow_archive.proofs.archive.Archive.seal.Goals.{After-seal_segment, After-new}
use Rattle.flow_archive.proofs.archive.Archive.seal.Goals as goal

-- the manifest that comes
abbrev next_of : {D S F : Type 0} → Inside D S F → Manifest
next_of a = (after_seal (state_of a) (prefix_of a.carry)).manifest

-- how many messages it has
many : {D S F : Type 0} (a : Inside D S F) → vec_len a.messages ≡ length a.messages.items
many a = search rules

-- ---- after the move
module _ (g : Over) (c : After-seal_segment g) where
  abbrev was : State
  was = state_of c.self.inside

  abbrev prefix : List ℕ
  prefix = prefix_of c.self.inside.carry

  count : c.len-count.result ≡ length c.self.inside.messages.items
  count = c.len-count.ensures ∙ many c.self.inside

  kept_prefix : c.as_slice-3.result.now ≡ prefix
  kept_prefix = c.as_slice-3.ensures ∙ c.in_ok-next.ensures.prefix

  made : c.in_ok-next.next.manifest ≡ next_of c.self.inside
  made = rw (c.in_ok-next.ensures.manifest, ((c.self.invariant.0).counted).end_is, count)

  valid : IsValidManifest (next_of c.self.inside)
  valid = subst IsValidManifest made c.in_ok-next.ensures.valid

  generations : c.self.inside.slots.current.generation + 1 + job_generations was.job < 2 ^ 64
  generations = omega (arith, (c.in_ok-next.ensures.may).generation, c.generations_kept-kept.ensures)

  may : MaySeal was
  may = let may = c.in_ok-next.ensures.may in record {
    some = λ is. omega (arith, may.some, count, ap (λ (l : List (List ℕ)). length l) is);
    few = may.few;
    numbers = (may.next, generations);
  }

  move : IsTrue (g.D.Disk.honest c.self.inside.disk)
      → IsSealing (g.D.Disk.held c.self.inside.disk) c.self.inside.slots c.self.inside.active.file c.self.inside.end
      c.self.inside.next c.as_slice-3.result.now c.as_slice-4.result.now was
  move h =
      let counted = (c.self.invariant.0).counted in
      let still = (c.self.invariant.0).still_open c.if-self.false in
      let carry = c.self.inside.carry in
      record {
        active_is = ap (λ (x : Entry). x.file) (sym counted.active_entry_is);
        next_is = refl;
        next_from = counted.next;
        end_is = sym counted.end_is;
        valid = rw kept_prefix valid;
        chained = rw kept_prefix
            (carry, hands_next was carry counted.valid c.in_ok-next.ensures.carry (still.hands_on h));
        body_is = rw (kept_prefix, c.as_slice-4.ensures.value, c.in_ok-next.ensures.body, made);
        known = still.kept.known h;
      }

  leaves : IsTrue (g.D.Disk.honest c.self.inside.disk) → LeavesOnly g.D.Disk c.self.inside.disk c.seal_segment.new.disk
      (StandsBeforeOrAfter was (λ x. IsSealed true was x))
  leaves h = by g.D.Disk _ _ (StandsForEither (reopened was) (reopened (after_seal was c.as_slice-3.result.now))) _
      (c.seal_segment.ensures.any_moment h was (move h))
      (λ image either. ⊎_elim (λ before. inl before)
      (λ later. inr (
        after_seal was prefix,
        (c.self.inside.carry, was.active, ((c.self.invariant.0).still_open c.if-self.false).segment, (λ t. refl), refl),
        subst (λ (l : List ℕ). StandsFor image (reopened (after_seal was l))) kept_prefix later,
      )) either)

-- ---- after a move that is Ok
module _ (g : Over) (c : After-new g) where
  abbrev part : Frozen
  part = frozen_as (sealed_entry (active_of c.self.inside.slots.current) (end_of (state_of c.self.inside))
      (length c.self.inside.messages.items)) (g.D.Sealed.SealedFile.honest c.in-Ok-seal_segment.part)
      (g.D.Sealed.SealedFile.octets c.in-Ok-seal_segment.part)

  new_files : c.push_reserved.new.self.items ≡ c.self.inside.files.items ++ part ∷ []
  new_files = let counted = (c.self.invariant.0).counted in
      rw (c.push_reserved.ensures.items, c.reserve.ensures.items, c.sealed_file.ensures, counted.active_entry_is)
      (rw (counted.end_is, c.len-count.ensures, many c.self.inside))

pub returns-in_err-next-clause-answers : goal.returns-in_err-next-clause-answers
returns-in_err-next-clause-answers g c =
    let inside = c.self.inside in
    let s = state_of inside in
    let honest = g.D.Disk.honest inside.disk in
    let e = c.in_err-next.field-0.0 in
    rw (← c.self.view_is) (err_is c.from_residual.result e (λ r. AnswersSeal honest inside.closed s r s)
    c.from_residual.ensures.1 (not_followed honest inside.closed s c.len-count.result e c.if-self.false
    (c.len-count.ensures ∙ many inside)
    (subst (λ (n : ℕ). IsNotSealed inside.slots.current c.len-count.result inside.next n e)
    c.generations_kept-kept.ensures c.in_err-next.ensures.refused)))

pub returns-in_err-next-clause-step : goal.returns-in_err-next-clause-step
returns-in_err-next-clause-step g c =
    let inside = c.self.inside in
    let e = c.in_err-next.field-0.0 in
    rw (← c.self.view_is) (refused_by g.D.Disk _ _ _ e _ c.from_residual.ensures.1 refl
    (λ same. subst (IsNotSealed inside.slots.current c.len-count.result inside.next
    c.generations_kept-kept.result) same c.in_err-next.ensures.refused)
    (λ h image left. g.met.D.Disk.only_now inside.disk image h left)
    (λ h still image is. stands_for inside.slots _ image
    (((c.self.invariant.0).still_open still).kept.known h image is)))

pub returns-in_default-clause-step : goal.returns-in_default-clause-step
returns-in_default-clause-step g c =
    let inside = c.self.inside in
    rw (← c.self.view_is, c.reserve.ensures.items) (refused g.D.Disk _ _ _ refusal.OutOfMemory refl
    (λ is. cc) (λ h image left. g.met.D.Disk.only_now inside.disk image h left)
    (λ h still image is. stands_for inside.slots _ image
    (((c.self.invariant.0).still_open still).kept.known h image is)))

pub returns-in_default-clause-answers : goal.returns-in_default-clause-answers
returns-in_default-clause-answers g c =
    rw (← c.self.view_is, c.reserve.ensures.items) (c.if-self.false, refl)

pub next_segment-requires-clause-valid : goal.next_segment-requires-clause-valid
next_segment-requires-clause-valid g c = (c.self.invariant.0).counted.valid

pub next_segment-requires-clause-long : goal.next_segment-requires-clause-long
next_segment-requires-clause-long g c some =
    let counted = (c.self.invariant.0).counted in
    let count = c.len-count.ensures ∙ many c.self.inside in
    let start = ap (λ (x : Entry). x.prefix) counted.active_entry_is in
    omega (arith, counted.long (omega (arith, some, count)), start)

pub next_segment-requires-clause-within : goal.next_segment-requires-clause-within
next_segment-requires-clause-within g c =
    let counted = (c.self.invariant.0).counted in
    omega (arith, counted.end_is, counted.within.limit)

pub next_segment-requires-clause-all : goal.next_segment-requires-clause-all
next_segment-requires-clause-all g c =
    omega (arith, ((c.self.invariant.0).counted).within.all, c.len-count.ensures ∙ many c.self.inside)

pub seal_segment-requires-clause-active : goal.seal_segment-requires-clause-active
seal_segment-requires-clause-active g c =
    let counted = (c.self.invariant.0).counted in
    let are = are_entries c.self.inside.slots.current counted.valid in
    let file = ap (λ (x : Entry). x.file) counted.active_entry_is in
    (omega (arith, file, are.active.file_from), omega (arith, file, are.active.file_below, counted.next))

pub seal_segment-requires-clause-slots : goal.seal_segment-requires-clause-slots
seal_segment-requires-clause-slots g c h =
    let held = g.D.Disk.held c.self.inside.disk in
    let still = (c.self.invariant.0).still_open c.if-self.false in
    (still.kept.known h (λ n. (held n).reads)
    (λ n. g.met.D.Disk.reads_image c.self.inside.disk n h)).slots_are

pub seal_segment-requires-clause-slot_room : goal.seal_segment-requires-clause-slot_room
seal_segment-requires-clause-slot_room g c =
    ((c.self.invariant.0).still_open c.if-self.false).kept.ready.slot_room (other c.self.inside.slots.current_slot)

pub seal_segment-requires-clause-slot_settled : goal.seal_segment-requires-clause-slot_settled
seal_segment-requires-clause-slot_settled g c =
    ((c.self.invariant.0).still_open c.if-self.false).kept.ready.slot_settled (other c.self.inside.slots.current_slot)

pub seal_segment-requires-clause-slot_thawed : goal.seal_segment-requires-clause-slot_thawed
seal_segment-requires-clause-slot_thawed g c =
    ((c.self.invariant.0).still_open c.if-self.false).kept.ready.slot_thawed (other c.self.inside.slots.current_slot)

pub seal_segment-requires-clause-end : goal.seal_segment-requires-clause-end
seal_segment-requires-clause-end g c =
    ((c.self.invariant.0).still_open c.if-self.false).kept.ready.room

pub seal_segment-requires-clause-slot : goal.seal_segment-requires-clause-slot
seal_segment-requires-clause-slot g c = slot_below (other c.self.inside.slots.current_slot)

pub returns-in-Err-clause-answers : goal.returns-in-Err-clause-answers
returns-in-Err-clause-answers g c =
    let may = may g (goal.at.returns-in-Err-clause-answers g c).After-seal_segment in
    rw (← c.self.view_is, c.reserve.ensures.items) (c.if-self.false, may, refl)

pub returns-in-Err-clause-step : goal.returns-in-Err-clause-step
returns-in-Err-clause-step g c =
    let leaves = leaves g (goal.at.returns-in-Err-clause-step g c).After-seal_segment in
    rw (← c.self.view_is, c.reserve.ensures.items)
    (failed g.D.Disk _ _ _ c.seal_segment.ensures.honest leaves refl refl c.if-self.false)

pub invariant_of-self-in-Ok-seal_segment : goal.invariant_of-self-in-Ok-seal_segment
invariant_of-self-in-Ok-seal_segment g c =
    let D = g.D.Disk in
    let a = c.self.inside in
    let moved = (goal.at.invariant_of-self-in-Ok-seal_segment g c).After-seal_segment in
    let end = (goal.at.invariant_of-self-in-Ok-seal_segment g c).After-new in
    let archive = c.self.invariant.0 in
    let counted = archive.counted in
    let s = state_of a in
    let slot = file_of (other a.slots.current_slot) in
    let d1 = c.seal_segment.new.disk in
    let same = c.seal_segment.ensures.honest in
    let long = ap (λ (l : List ℕ). length l) c.in_ok-next.ensures.prefix in
    let first_long : c.len.result ≡ length (prefix_of a.carry) = omega (arith, c.len.ensures.value, long) in
    let second_long : c.len-in-Ok-seal_segment.result ≡ length (prefix_of a.carry) =
    omega (arith, c.len-in-Ok-seal_segment.ensures.value, long) in
    let moves : SealsMarks (D.marks a.disk) (D.marks d1) a.active.file a.next slot (length (prefix_of a.carry)) =
    rw (← kept_prefix g moved) c.in-Ok-seal_segment.ensures.marks in
    let apart : (n : ℕ) → IsUnnamed s n → (n ≢ a.active.file) × (n ≢ a.next) × (n ≢ slot) = λ n is. (
      (λ same. other_file s n counted.valid is (same ∙ ap (λ (x : Entry). x.file) counted.active_entry_is)),
      (λ same. omega (arith, same, is.below)),
      (λ same. omega (arith, same, is.from, slot_below (other a.slots.current_slot))),
    ) in
    rw (made g moved, c.other-slot.ensures, first_long, second_long)
    (rw (new_files g end, c.in_ok-next.ensures.prefix, c.new.ensures.items) (
      sealed_archive D.honest D.marks D.held (work_of a) a.shared a.disk d1 a.slots a.active a.end a.total a.carry
          a.files.items a.prefix a.messages.items (part g end) a.closed archive c.if-self.false
          c.in_ok-next.ensures.carry same (valid g moved) moves c.in-Ok-seal_segment.ensures.frozen
          (λ h. rw (← kept_prefix g moved) (c.in-Ok-seal_segment.ensures.after h s (move g moved h)))
          (λ h. c.in-Ok-seal_segment.ensures.part h s (move g moved h))
          (record { entry_is = refl; honest_is = (c.in-Ok-seal_segment.ensures.sealed).2; counted = refl }),
      sealed_work D.honest D.marks D.held (work_of a) a.shared a.disk d1 a.slots a.active a.end a.total a.carry
          a.files.items a.prefix a.messages.items (part g end) a.closed archive same
          (λ n is. let not = apart n is in moves.others n not.0 not.1 not.2)
          (λ h n is. let not = apart n is in
          c.seal_segment.ensures.other_files h n not.0 not.1 not.2)
          (generations g moved) c.self.invariant.1,
      own_push a.shared a.files.items (work_of a) (part g end) refl c.self.invariant.2,
      λ _. none_noted a.carry c.none.result c.in_ok-next.ensures.carry c.none.ensures,
    ))

pub returns-in-Ok-seal_segment-clause-answers : goal.returns-in-Ok-seal_segment-clause-answers
returns-in-Ok-seal_segment-clause-answers g c =
    let D = g.D.Disk in
    let a = c.self.inside in
    let moved = (goal.at.returns-in-Ok-seal_segment-clause-answers g c).After-seal_segment in
    let end = (goal.at.returns-in-Ok-seal_segment-clause-answers g c).After-new in
    let archive = c.self.invariant.0 in
    rw (← c.self.view_is) (
      c.if-self.false,
      may g moved,
      rw (made g moved, new_files g end, c.in_ok-next.ensures.prefix, c.new.ensures.items)
          (is_sealed D.honest D.marks D.held (work_of a) a.shared a.disk c.seal_segment.new.disk a.slots a.active a.end a.total
          a.carry a.files.items a.prefix a.messages.items (part g end) (archive.counted).valid archive.files_are
          (archive.still_open c.if-self.false)
          (λ h. c.in-Ok-seal_segment.ensures.part h (state_of a) (move g moved h))),
      ap (λ (x : Entry). x.file) (archive.counted).active_entry_is,
    )

pub returns-in-Ok-seal_segment-clause-step : goal.returns-in-Ok-seal_segment-clause-step
returns-in-Ok-seal_segment-clause-step g c =
    let D = g.D.Disk in
    let a = c.self.inside in
    let moved = (goal.at.returns-in-Ok-seal_segment-clause-step g c).After-seal_segment in
    let end = (goal.at.returns-in-Ok-seal_segment-clause-step g c).After-new in
    let archive = c.self.invariant.0 in
    let d1 = c.seal_segment.new.disk in
    rw (← c.self.view_is) (acknowledged D _ _ _ _ c.seal_segment.ensures.honest (leaves g moved)
    (λ h. (
      a.carry,
      (state_of a).active,
      (archive.still_open c.if-self.false).segment,
      (λ t. refl),
      rw (made g moved, new_files g end, c.in_ok-next.ensures.prefix, c.new.ensures.items)
          (same_state D.honest D.marks D.held (work_of a) a.shared a.disk d1 a.slots a.active a.end a.total a.carry
          a.files.items a.prefix a.messages.items (part g end) (archive.counted).valid archive.files_are
          (c.in-Ok-seal_segment.ensures.part h (state_of a) (move g moved h))),
    ))
    c.if-self.false c.if-self.false
    (λ h image left. stands_for _ _ image
    (((invariant_of-self-in-Ok-seal_segment g c).0.still_open c.if-self.false).kept.known h image
    (g.met.D.Disk.only_now d1 image h left))))

pub overflow_cast-self : goal.overflow_cast-self
overflow_cast-self g c =
    let long = ap (λ (l : List ℕ). length l) c.in_ok-next.ensures.prefix in
    let fits = prefix_fits c.self.inside.carry c.in_ok-next.ensures.carry in
    record { fits = omega (arith, c.len.ensures.value, long, fits) }

pub invariant_of-self : goal.invariant_of-self
invariant_of-self g c = rw c.reserve.ensures.items c.self.invariant

pub invariant_of-self-in-Err-seal_segment : goal.invariant_of-self-in-Err-seal_segment
invariant_of-self-in-Err-seal_segment g c =
    let D = g.D.Disk in
    let a = c.self.inside in
    let same = c.seal_segment.ensures.honest in
    rw c.reserve.ensures.items (
      failed_archive D.honest D.marks D.held a.disk c.seal_segment.new.disk a.slots a.active a.end a.total a.carry a.carry
          a.files.items (state_of a) a.closed c.self.invariant.0 same,
      goes_on (state_of a) (record { front = a.prefix; messages = a.messages.items }) a.shared D.honest D.marks D.held
          a.disk c.seal_segment.new.disk a.closed true same (λ is. absurd (cc)) (λ is. absurd (cc)) (λ is. absurd (cc))
          (work_of a) c.self.invariant.1,
      c.self.invariant.2,
      λ is. absurd (cc),
    )

pub returns-in-Err-clause-cause : goal.returns-in-Err-clause-cause
returns-in-Err-clause-cause g c =
    let why = c.in-Err.ensures.cause in
    rw (← c.self.view_is) (record {
      later = why.later;
      done = tt;
      risen = λ is. why.risen;
      other = λ differs. absurd (differs refl);
    })

-- the span of the messages that were kept
pub sealed_file-requires-clause-span : goal.sealed_file-requires-clause-span
sealed_file-requires-clause-span g c =
    let a = c.self.inside in
    let moved = (goal.at.sealed_file-requires-clause-span g c).After-seal_segment in
    let counted = (c.self.invariant.0).counted in
    let S = g.D.Sealed.SealedFile in
    let part = c.in-Ok-seal_segment.part in
    let own = rw (c.as_slice.ensures, c.as_slice-2.ensures.value) at c.own_span-span.ensures in
    rw (counted.active_entry_is, counted.end_is, c.len-count.ensures, many a)
    (sealed_there (S.honest part) (S.octets part)
    (sealed_entry (active_of a.slots.current) (end_of (state_of a)) (length a.messages.items)) (state_of a).active
    a.slots.current.width c.own_span-span.result refl
    (λ h. c.in-Ok-seal_segment.ensures.part (subst IsTrue (c.in-Ok-seal_segment.ensures.sealed).2 h) (state_of a)
    (move g moved (subst IsTrue (c.in-Ok-seal_segment.ensures.sealed).2 h))) own)

pub own_span-span-requires : goal.own_span-span-requires
own_span-span-requires g c =
    let a = c.self.inside in
    rw (c.as_slice.ensures, c.as_slice-2.ensures.value)
    (some_noted a.prefix a.messages.items a.carry.templates a.span (c.self.invariant.3 c.if-self.false))
