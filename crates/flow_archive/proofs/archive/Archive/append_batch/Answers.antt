use Rattle.std.proofs.Common.{◌≡◌, inl, inr, ⊎_elim, ℕ, true, ◌+◌, IsTrue, List}
use Rattle.std.proofs.Common.{length, refl, sym, ◌∙◌, ap, subst, arith, rules, vec_len, Bor}
use Rattle.std.proofs.lemmas.List.{length-map}
use Rattle.flow_disk.specs.Cause.{HasCause}
use Rattle.flow_disk.specs.Calls.{LeavesOnly}
use Rattle.flow_disk.proofs.Moments.{arrive, comes_by}
use Rattle.flow_gate.specs.Gate.{octet_sum}
use Rattle.flow_gate.specs.Steps.{slices}
use Rattle.flow_manifest.specs.declared.manifest.Entry.{Entry}
use Rattle.flow_manifest.specs.Following.{active_of}
use Rattle.flow_manifest.proofs.ValidEntries.{are_entries}
use Rattle.flow_model.specs.State.{State, appended}
use Rattle.flow_model.specs.Chain.{HandsOn}
use Rattle.flow_recover.specs.Kept.{IsCounted}
use Rattle.flow_segment.specs.Batch.{AreTaken}
use Rattle.flow_segment.proofs.Noted.{are_taken}
use Rattle.flow_archive.specs.Answers.{AnswersAppend, MayAppend}
use Rattle.flow_archive.specs.Seen.{StandsBeforeOrAfter}
use Rattle.flow_archive.specs.declared.refusal.ArchiveError.TheVariants as refusal
use Rattle.flow_archive.specs.UnderWay.{IsUnnamed}
use Rattle.flow_archive.proofs.Answering.{err_is, not_admitted, not_fault}
use Rattle.flow_archive.proofs.Chaining.{hands_more, segment_more}
use Rattle.flow_archive.proofs.Directing.{failed_archive}
use Rattle.flow_archive.proofs.Noting.{noted_on}
use Rattle.flow_archive.proofs.Ready.{counted_more, ready_more, some_octets}
use Rattle.flow_archive.proofs.Stand.{stands_for, adding, added, frozen_too}
use Rattle.flow_archive.proofs.Stepping.{refused, refused_by, acknowledged, failed}
use Rattle.flow_archive.proofs.Whole.{all_whole}
use Rattle.flow_archive.proofs.Working.{goes_on, other_file}
use Rattle.flow_archive.proofs.Inside.{state_of, work_of}
use Rattle.flow_archive.proofs.archive.Archive.append_batch.Given.{Over}
use Rattle.flow_archive.proofs.archive.Archive.append_batch.Goals.{After-add_batch}
use Rattle.flow_archive.proofs.archive.Archive.append_batch.Goals as goal

slices_long : (messages : List (Bor (List ℕ))) → length (slices messages) ≡ length messages
slices_long messages = length-map messages _

-- ---- what is known of a batch that is taken
module _ (g : Over) (c : After-add_batch g) where
  abbrev was : State
  was = state_of c.self.inside

  abbrev more : List (List ℕ)
  more = slices c.args.messages.now

  taken : AreTaken more c.self.inside.carry c.admitted.new.carry
  taken = are_taken more c.self.inside.carry c.admitted.new.carry c.self.inside.span c.admitted.new.span
      c.in_ok-batch.ensures.taken

  file_is : (active_of c.self.inside.slots.current).file ≡ c.self.inside.active.file
  file_is = ap (λ (x : Entry). x.file) (sym ((c.self.invariant.0).counted).active_entry_is)

  start : c.self.inside.active.prefix ≡ (active_of c.self.inside.slots.current).prefix
  start = ap (λ (x : Entry). x.prefix) ((c.self.invariant.0).counted).active_entry_is

  counted : IsCounted (appended was more) c.self.inside.active (c.self.inside.end + octet_sum more)
      (c.self.inside.total + length more)
  counted = counted_more was _ _ _ more (c.self.invariant.0).counted
      (omega (arith, c.in_ok-batch.ensures.room, c.in_ok-batch.ensures.count, start))
      (omega (arith, c.in_ok-batch.ensures.positions, slices_long c.args.messages.now))
      (some_octets _ (all_whole more _ _ taken) (omega (arith, slices_long c.args.messages.now)))

  may : MayAppend was more
  may = record {
    accepted = (_, _, ((c.self.invariant.0).still_open c.if-self.false).segment, taken);
    room = omega (arith, c.in_ok-batch.ensures.room, c.in_ok-batch.ensures.count, start);
    positions = omega (arith, c.in_ok-batch.ensures.positions, slices_long c.args.messages.now);
  }

  hands_on : IsTrue (g.D.Disk.honest c.self.inside.disk) → HandsOn (appended was more) c.admitted.new.carry
  hands_on h = hands_more was more _ _ (((c.self.invariant.0).still_open c.if-self.false).hands_on h)
      taken

  leaves : IsTrue (g.D.Disk.honest c.self.inside.disk) → LeavesOnly g.D.Disk c.self.inside.disk c.add_batch.new.disk
      (StandsBeforeOrAfter was (λ x. x ≡ appended was more))
  leaves h = comes_by g.D.Disk _ _ _ _ _ (((c.self.invariant.0).still_open c.if-self.false).kept.known h)
      (c.add_batch.ensures.any_moment h) (λ a b known step. ⊎_elim (λ before. inl before)
      (λ after. inr (appended was more, refl, after)) (adding _ _ _ _ _ file_is
      (sym ((c.self.invariant.0).counted).end_is) counted.within (c.admitted.new.carry, hands_on h) a b known step))

pub returns-in_default-clause-answers : goal.returns-in_default-clause-answers
returns-in_default-clause-answers g c = rw (← c.self.view_is, c.reserve.ensures.items) (c.if-self.false, refl)

pub returns-in_default-clause-step : goal.returns-in_default-clause-step
returns-in_default-clause-step g c =
    rw (← c.self.view_is, c.reserve.ensures.items) (refused g.D.Disk _ _ _ refusal.OutOfMemory refl (λ is. cc)
    (λ h image left. g.met.D.Disk.only_now _ image h left)
    (λ h still image is. stands_for _ _ image (((c.self.invariant.0).still_open still).kept.known h image is)))

pub returns-in_err-batch-clause-answers : goal.returns-in_err-batch-clause-answers
returns-in_err-batch-clause-answers g c =
    let a = c.self.inside in
    let start = ap (λ (x : Entry). x.prefix) ((c.self.invariant.0).counted).active_entry_is in
    rw (← c.self.view_is, c.reserve.ensures.items) (err_is c.from_residual.result _
    (λ r. AnswersAppend a.closed (state_of a) (slices c.args.messages.now) r (state_of a)) c.from_residual.ensures.1
    (not_admitted _ _ _ a.carry _ _ _ c.if-self.false ((c.self.invariant.0).still_open c.if-self.false).segment
    (λ le. omega (arith, le, start)) (λ lt room. omega (arith, lt, room, start))
    (λ lt few. omega (arith, lt, few, slices_long c.args.messages.now)) c.in_err-batch.ensures.refused))

pub returns-in_err-batch-clause-step : goal.returns-in_err-batch-clause-step
returns-in_err-batch-clause-step g c =
    rw (← c.self.view_is, c.reserve.ensures.items) (refused_by g.D.Disk _ _ _ _ _ c.from_residual.ensures.1 refl
    (not_fault (slices c.args.messages.now) c.self.inside.carry _ _ _ c.in_err-batch.ensures.refused)
    (λ h image left. g.met.D.Disk.only_now _ image h left)
    (λ h still image is. stands_for _ _ image (((c.self.invariant.0).still_open still).kept.known h image is)))

pub returns-in_err-batch-clause-cause : goal.returns-in_err-batch-clause-cause
returns-in_err-batch-clause-cause g c =
    let other = not_fault (slices c.args.messages.now) c.self.inside.carry _ _ _ c.in_err-batch.ensures.refused in
    rw (← c.self.view_is) (err_is c.from_residual.result _ (HasCause refusal.Fault _ _) c.from_residual.ensures.1
    (record { later = omega arith; done = tt; risen = λ is. absurd (other (cc)); other = λ differs. refl }))

pub add_batch-requires-clause-messages : goal.add_batch-requires-clause-messages
add_batch-requires-clause-messages g c =
    let more = slices c.args.messages.now in
    all_whole more c.self.inside.carry c.admitted.new.carry (are_taken more c.self.inside.carry c.admitted.new.carry
    c.self.inside.span c.admitted.new.span c.in_ok-batch.ensures.taken)

pub add_batch-requires-clause-gated : goal.add_batch-requires-clause-gated
add_batch-requires-clause-gated g c h image is =
    let kept = ((c.self.invariant.0).still_open c.if-self.false).kept in
    rw (g.met.D.Disk.settled_alone _ _ image h kept.ready.settled is, kept.counted.active_entry_is, kept.counted.end_is)
    (kept.known h _ (λ n. g.met.D.Disk.reads_image c.self.inside.disk n h)).files.active.gated.closed

pub returns-in-Err-clause-answers : goal.returns-in-Err-clause-answers
returns-in-Err-clause-answers g c =
    rw (← c.self.view_is, c.reserve.ensures.items)
    (c.if-self.false, may g (goal.at.returns-in-Err-clause-answers g c).After-add_batch, refl)

pub returns-in-Err-clause-step : goal.returns-in-Err-clause-step
returns-in-Err-clause-step g c =
    rw (← c.self.view_is, c.reserve.ensures.items) (failed g.D.Disk _ _ _ c.add_batch.ensures.call.honest
    (leaves g (goal.at.returns-in-Err-clause-step g c).After-add_batch) refl refl c.if-self.false)

pub returns-in-Err-clause-cause : goal.returns-in-Err-clause-cause
returns-in-Err-clause-cause g c =
    let why = c.in-Err.ensures.call.cause in
    rw (← c.self.view_is)
    (record { later = why.later; done = tt; risen = λ is. why.risen; other = λ differs. absurd (differs refl) })

pub invariant_of-self-in-Err-add_batch : goal.invariant_of-self-in-Err-add_batch
invariant_of-self-in-Err-add_batch g c =
    let same = c.add_batch.ensures.call.honest in
    rw c.reserve.ensures.items (
      failed_archive _ _ _ _ _ _ _ _ _ _ _ _ _ _ c.self.invariant.0 same,
      goes_on (state_of c.self.inside) _ _ _ _ _ _ _ _ true same (λ is. absurd (cc)) (λ is. absurd (cc))
          (λ is. absurd (cc)) (work_of c.self.inside) c.self.invariant.1,
      c.self.invariant.2,
      λ is. absurd (cc),
    )

pub put_all-requires : goal.put_all-requires
put_all-requires g c =
    let len : vec_len c.in_ok-batch.batch.copies ≡ length c.in_ok-batch.batch.copies.items = search rules in
    let count = ap (λ (l : List (List ℕ)). length l) c.in_ok-batch.ensures.copies ∙ slices_long c.args.messages.now in
    omega (arith, len, count, c.in-Ok.ensures.ok, c.reserve.ensures.len)

pub invariant_of-self-in-Ok-add_batch : goal.invariant_of-self-in-Ok-add_batch
invariant_of-self-in-Ok-add_batch g c =
    let at = (goal.at.invariant_of-self-in-Ok-add_batch g c).After-add_batch in
    let a = c.self.inside in
    let call = c.add_batch.ensures.call in
    let old = (c.self.invariant.0).counted in
    let still = (c.self.invariant.0).still_open c.if-self.false in
    let is = file_is g at in
    let active = (are_entries a.slots.current old.valid).active in
    let honest = λ (h : IsTrue (g.D.Disk.honest c.add_batch.new.disk)). subst IsTrue call.honest h in
    let apart = λ (n : ℕ) (which : IsUnnamed (was g at) n) (same : n ≡ a.active.file).
    other_file (was g at) n old.valid which (same ∙ sym is) in
    rw (c.put_all.ensures, c.reserve.ensures.items, c.in_ok-batch.ensures.copies)
    (rw (c.in_ok-batch.ensures.count, ← slices_long c.args.messages.now) (
      record {
        counted = counted g at;
        files_are = rw call.honest (c.self.invariant.0).files_are;
        stand = λ h. (c.self.invariant.0).stand (honest h);
        still_open = λ _. record {
          kept = record {
            counted = counted g at;
            ready = ready_more _ _ a.active.file a.next a.end _ (omega (arith, is, active.file_from))
                (omega (arith, is, active.file_below, old.next)) still.kept.ready call.other_marks
                (omega (arith, c.in-Ok-add_batch.ensures.call.size)) c.in-Ok-add_batch.ensures.call.settled call.thawed;
            known = λ h. arrive g.D.Disk _ _ _ _ _ (still.kept.known (honest h))
                (c.in-Ok-add_batch.ensures.after (honest h)) (added _ _ _ _ _ is (sym old.end_is)
                (counted g at).within (c.admitted.new.carry, hands_on g at (honest h)));
          };
          segment = segment_more (was g at).active (more g at) _ _ still.segment (taken g at);
          hands_on = λ h. hands_on g at (honest h);
          frozen = frozen_too _ _ _ old.valid
              (λ n _ _ not_active. call.other_marks n (λ same. not_active (same ∙ sym is))) still.frozen;
        };
      },
      goes_on (was g at) _ _ _ _ _ _ _ _ _ call.honest (λ is. is) (λ _ n is. call.other_marks n (apart n is))
          (λ _ h n is. call.other_files h n (apart n is)) (work_of a) c.self.invariant.1,
      c.self.invariant.2,
      λ _. noted_on a.prefix a.messages.items (more g at) a.carry c.admitted.new.carry a.span c.admitted.new.span
          (c.self.invariant.3 c.if-self.false) c.in_ok-batch.ensures.taken,
    ))

pub returns-in-Ok-add_batch-clause-answers : goal.returns-in-Ok-add_batch-clause-answers
returns-in-Ok-add_batch-clause-answers g c =
    let at = (goal.at.returns-in-Ok-add_batch-clause-answers g c).After-add_batch in
    let long = slices_long c.args.messages.now in
    rw (← c.self.view_is, c.put_all.ensures, c.reserve.ensures.items, c.in_ok-batch.ensures.copies)
    (c.if-self.false, may g at, refl {a = appended (was g at) _}, omega (arith, (counted g at).total_is, long))

pub returns-in-Ok-add_batch-clause-step : goal.returns-in-Ok-add_batch-clause-step
returns-in-Ok-add_batch-clause-step g c =
    rw (← c.self.view_is) (acknowledged g.D.Disk _ _ _ _ c.add_batch.ensures.call.honest
    (leaves g (goal.at.returns-in-Ok-add_batch-clause-step g c).After-add_batch)
    (λ h. rw (c.put_all.ensures, c.reserve.ensures.items, c.in_ok-batch.ensures.copies) refl) c.if-self.false
    c.if-self.false (λ h image left. stands_for _ _ image (((invariant_of-self-in-Ok-add_batch g c).0.still_open
    c.if-self.false).kept.known h image (g.met.D.Disk.only_now c.add_batch.new.disk image h left))))

pub invariant_of-self : goal.invariant_of-self
invariant_of-self g c = rw c.reserve.ensures.items c.self.invariant

pub invariant_of-self-in_err-batch : goal.invariant_of-self-in_err-batch
invariant_of-self-in_err-batch g c =
    rw (c.reserve.ensures.items, c.in_err-batch.ensures.kept, c.in_err-batch.ensures.unnoted) c.self.invariant
