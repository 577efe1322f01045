use Rattle.std.proofs.Common.{◌≡◌, inl, inr, ℕ, ◌+◌, ◌≤◌, Bool, true, IsTrue, List, Option, Some}
use Rattle.std.proofs.Common.{refl, sym, ◌∙◌, ap, subst, arith}
use Rattle.flow_disk.specs.Cause.{HasCause}
use Rattle.flow_disk.specs.Disk.{ComesOf, InFile}
use Rattle.flow_disk.specs.Calls.{LeavesOnly}
use Rattle.flow_disk.proofs.Moments.{by}
use Rattle.flow_manifest.specs.declared.manifest.Entry.{Entry}
use Rattle.flow_manifest.proofs.ValidEntries.{are_entries}
use Rattle.flow_rolled.specs.Rollup.{IsRollup}
use Rattle.flow_segment.specs.Steps.{Becomes, IsAnything}
use Rattle.flow_model.specs.State.{State}
use Rattle.flow_archive.specs.Answers.{job_generations}
use Rattle.flow_archive.specs.JobAnswers.{AnswersWrite, IsWritten}
use Rattle.flow_archive.specs.Seen.{StandsBeforeOrAfter, state_in}
use Rattle.flow_archive.specs.UnderWay.{job_in, frozen_staged, under_way_in, FrozenStaged, RunningJob}
use Rattle.flow_archive.specs.Staging.{job_with_staged, HasNoOctets}
use Rattle.flow_archive.specs.declared.refusal.ArchiveError.TheVariants as refusal
use Rattle.flow_archive.proofs.Answering.{err_is}
use Rattle.flow_archive.proofs.Directing.{failed_archive}
use Rattle.flow_archive.proofs.Stand.{frozen_too, stands_for}
use Rattle.flow_archive.proofs.Stepping.{acknowledged, failed, refused_by}
use Rattle.flow_archive.proofs.Undertaking.{without_device}
use Rattle.flow_archive.proofs.Working.{goes_on}
use Rattle.flow_archive.proofs.Written.{archive_with, beside, holding, is_made_of, is_written, is_written_before}
use Rattle.flow_archive.proofs.Written.{made_is}
use Rattle.flow_archive.proofs.Written.{may_write, none_made, own_written, not_written, ready_beside, staged_at}
use Rattle.flow_archive.proofs.Written.{stands_alone, told, work_written}
use Rattle.flow_archive.proofs.Inside.{state_of, the_rolling, with_rolling, work_of}
use Rattle.flow_archive.proofs.archive.Archive.roll_write.Given.{Over}
use Rattle.flow_archive.proofs.archive.Archive.roll_write.Goals.{After-stage, After-hold}
use Rattle.flow_archive.proofs.archive.Archive.roll_write.Goals as goal

pub returns-then-generations_kept-gt0-clause-answers : goal.returns-then-generations_kept-gt0-clause-answers
returns-then-generations_kept-gt0-clause-answers g c =
    let honest = g.D.Disk.honest c.self.inside.disk in
    rw (← c.self.view_is) (
      c.if-self.false,
      is_written_before honest honest (state_of c.self.inside) c.self.inside.job refl (c.self.invariant.1).job
          (omega (arith, c.if-generations_kept-gt0.true, c.generations_kept.ensures)),
    )

pub returns-then-generations_kept-gt0-clause-step : goal.returns-then-generations_kept-gt0-clause-step
returns-then-generations_kept-gt0-clause-step g c =
    let inside = c.self.inside in
    let s = state_of inside in
    rw (← c.self.view_is) (without_device g.D.Disk inside.disk s s inside.closed (λ x. IsWritten true s x) _
    c.if-self.false (is_written_before true (g.D.Disk.honest inside.disk) s inside.job refl (c.self.invariant.1).job
    (omega (arith, c.if-generations_kept-gt0.true, c.generations_kept.ensures))) refl
    (λ h image left. g.met.D.Disk.only_now inside.disk image h left)
    (λ h image is. stands_for inside.slots s image
    (((c.self.invariant.0).still_open c.if-self.false).kept.known h image is)))

pub returns-in_err-octets-clause-answers : goal.returns-in_err-octets-clause-answers
returns-in_err-octets-clause-answers g c =
    let inside = c.self.inside in
    let honest = g.D.Disk.honest inside.disk in
    let s = state_of inside in
    let e = c.in_err-octets.field-0.0 in
    rw (← c.self.view_is) (err_is c.from_residual.result e (λ x. AnswersWrite honest inside.closed s x s)
    c.from_residual.ensures.1 (not_written honest inside.closed s inside.job e c.if-self.false refl
    (omega (arith, c.if-generations_kept-gt0.false, c.generations_kept.ensures)) c.in_err-octets.ensures.refused))

pub returns-in_err-octets-clause-step : goal.returns-in_err-octets-clause-step
returns-in_err-octets-clause-step g c =
    let inside = c.self.inside in
    rw (← c.self.view_is) (refused_by g.D.Disk _ _ _ c.in_err-octets.field-0.0 _ c.from_residual.ensures.1 refl
    (λ same. subst (HasNoOctets inside.job inside.next inside.slots.current.generation) same
    c.in_err-octets.ensures.refused) (λ h image left. g.met.D.Disk.only_now inside.disk image h left)
    (λ h still image is. stands_for inside.slots _ image
    (((c.self.invariant.0).still_open still).kept.known h image is)))

pub returns-in_err-octets-clause-cause : goal.returns-in_err-octets-clause-cause
returns-in_err-octets-clause-cause g c =
    let inside = c.self.inside in
    let e = c.in_err-octets.field-0.0 in
    let n = g.D.Disk.faults c.args.self.now.disk in
    err_is c.from_residual.result e (λ x. HasCause refusal.Fault n n x) c.from_residual.ensures.1 (record {
      later = omega arith;
      done = tt;
      risen = λ same. let fault : e ≡ refusal.Fault = cc in absurd (subst
          (HasNoOctets inside.job inside.next inside.slots.current.generation) fault c.in_err-octets.ensures.refused);
      other = λ _. refl;
    })

pub stage-requires : goal.stage-requires
stage-requires g c =
    let still = (c.self.invariant.0).still_open c.if-self.false in
    record { thawed = still.kept.ready.thawed c.self.inside.next (inr (omega arith)) }

-- a stop inside the making
module _ (g : Over) (c : After-stage g) where
  run : IsTrue (g.D.Disk.honest c.self.inside.disk) → LeavesOnly g.D.Disk c.self.inside.disk c.stage.new.disk
      (StandsBeforeOrAfter (state_of c.self.inside) (λ x. IsWritten true (state_of c.self.inside) x))
  run h =
      let D = g.D.Disk in
      let inside = c.self.inside in
      let s = state_of inside in
      by D inside.disk c.stage.new.disk (ComesOf (D.held inside.disk) (InFile inside.next IsAnything))
      (StandsBeforeOrAfter s (λ x. IsWritten true s x)) (c.stage.ensures.any_moment h)
      (λ image came. inl (stands_for inside.slots s image (beside (D.held inside.disk) inside.slots s inside.next
      IsAnything (c.self.invariant.0).counted.next
      (((c.self.invariant.0).still_open c.if-self.false).kept.known h) image came)))

-- the file is made, and held
module _ (g : Over) (c : After-hold g) where
  abbrev s : State
  s = state_of c.self.inside

  abbrev honest : Bool
  honest = g.D.Disk.honest c.self.inside.disk

  abbrev r : RunningJob
  r = c.in_ok-octets.ensures.made.0

  abbrev f : FrozenStaged
  f = frozen_staged g.D.Sealed.SealedFile.number g.D.Sealed.SealedFile.size g.D.Sealed.SealedFile.honest
      g.D.Sealed.SealedFile.octets c.in-Ok.file

  none : job_generations (job_in c.self.inside.job) ≡ 0
  none = omega (arith, c.if-generations_kept-gt0.false, c.generations_kept.ensures)

  held_is : c.hold.new.job ≡ Some (holding r f)
  held_is = c.hold.ensures ∙ ap (job_with_staged f) c.in_ok-octets.ensures.made.1

  octets_is : IsTrue honest → f.octets ≡ c.as_slice.result.now
  octets_is h = made_is g.D.Sealed.SealedFile.number g.D.Sealed.SealedFile.size g.D.Sealed.SealedFile.honest
      g.D.Sealed.SealedFile.octets c.in-Ok.file c.as_slice.result.now (c.in-Ok.ensures.staged.1)
      (c.in-Ok.ensures.octets h)

  rolled : IsTrue honest → (rollup : IsRollup r.rows.width f.octets r.rows) × (rollup.time ≡ r.time)
  rolled h = subst (λ (l : List ℕ). (rollup : IsRollup r.rows.width l r.rows) × (rollup.time ≡ r.time))
      (sym (octets_is h ∙ c.as_slice.ensures.value)) (c.in_ok-octets.ensures.made.3, c.in_ok-octets.ensures.made.4)

  abbrev state_with : Option RunningJob → State
  state_with job = state_in (under_way_in (c.self.inside.next + 1) job c.self.inside.waiting.items) c.self.inside.shared
      s.manifest c.self.inside.files.items c.self.inside.prefix c.self.inside.messages.items

  written : (b : Bool) → (IsTrue b → IsTrue honest) → IsWritten b s (state_with c.hold.new.job)
  written b so =
      let made = c.in_ok-octets.ensures.made in
      let rolling = the_rolling honest s c.self.inside.job r made.1 (c.self.invariant.1).job in
      is_written b honest s r f c.self.inside.job made.1 refl none made.2
      (λ h. is_made_of honest s r f.octets rolling made.2.all (so h)
      (subst (λ (w : ℕ). (rollup : IsRollup w f.octets r.rows) × (rollup.time ≡ r.time)) rolling.width (rolled (so h))))
      _ (ap state_with held_is
      ∙ ap (λ (n : ℕ). state_with (Some (holding r (record f { file = n })))) c.in-Ok.ensures.staged.0)

pub invariant_of-self : goal.invariant_of-self
invariant_of-self g c =
    let at = (goal.at.invariant_of-self g c).After-hold in
    let D = g.D.Disk in
    let inside = c.self.inside in
    let d = inside.disk in
    let m = inside.slots.current in
    let made = c.in_ok-octets.ensures.made in
    let r : RunningJob = made.0 in
    let given = c.as_slice.result.now in
    let d1 = c.stage.new.disk in
    let f : FrozenStaged = f g at in
    let told_of = c.in-Ok.ensures.staged in
    let inv = rw made.1 at c.self.invariant in
    let x : State = with_rolling inside (Some r) in
    let archive = inv.0 in
    let counted = archive.counted in
    let still = archive.still_open c.if-self.false in
    let are = are_entries m counted.valid in
    let file = ap (λ (e : Entry). e.file) counted.active_entry_is in
    let far : m.next ≤ inside.next = counted.next in
    let above : 3 ≤ inside.next = omega (arith, far, are.active.file_from, are.active.file_below) in
    rw (held_is g at) (
      archive_with x (inside.next + 1) (job_in (Some (holding r f))) x.waiting D.honest D.marks D.held d d1 inside.slots
          inside.active inside.end inside.total inside.carry inside.files.items inside.closed archive
          c.stage.ensures.honest (omega (arith, far))
          (λ _. ready_beside (D.marks d) (D.marks d1) inside.active.file inside.next inside.end
          (omega (arith, file, are.active.file_from)) (omega (arith, file, are.active.file_below, far))
          still.kept.ready c.stage.ensures.other_marks)
          (λ _ h image is. beside (D.held d) inside.slots x inside.next (Becomes given) far (still.kept.known h) image
          (c.in-Ok.ensures.after h image is))
          (λ _. frozen_too m (D.marks d) (D.marks d1) counted.valid
          (λ n from below apart. c.stage.ensures.other_marks n (λ is. omega (arith, is, below, far))) still.frozen),
      work_written x r f inside.waiting.items D.honest D.marks D.held d d1 inside.closed counted.valid far above
          c.stage.ensures.honest c.stage.ensures.other_marks told_of.0 c.in-Ok.ensures.frozen made.2.all
          made.2.manifest told_of.2
          (λ h image is. staged_at f given image (octets_is g at h) (stands_alone (D.held d) (D.held d1)
          (λ n. (D.held d1 n).reads) inside.next given
          (λ n. g.met.D.Disk.reads_image d1 n (subst IsTrue (sym c.stage.ensures.honest) h))
          (c.in-Ok.ensures.after h) image is)) (rolled g at) inv.1,
      own_written x r f inside.waiting.items inside.files.items (D.marks d) inside.closed inside.shared
          (none_made r inside.job made.1 (none g at)) told_of.0 (inv.1).waiting inv.2,
      inv.3,
    )

pub returns-in-Ok-clause-answers : goal.returns-in-Ok-clause-answers
returns-in-Ok-clause-answers g c =
    rw (← c.self.view_is) (
      c.if-self.false,
      written g (goal.at.returns-in-Ok-clause-answers g c).After-hold (g.D.Disk.honest c.self.inside.disk) (λ h. h),
    )

pub returns-in-Ok-clause-step : goal.returns-in-Ok-clause-step
returns-in-Ok-clause-step g c =
    let at = goal.at.returns-in-Ok-clause-step g c in
    rw (← c.self.view_is) (acknowledged g.D.Disk _ _ _ _ c.stage.ensures.honest (run g at.After-stage)
    (λ h. written g at.After-hold true (λ _. h)) c.if-self.false c.if-self.false
    (λ h image left. stands_for _ _ image
    (((invariant_of-self g c).0.still_open c.if-self.false).kept.known h image
    (g.met.D.Disk.only_now c.stage.new.disk image h left))))

pub invariant_of-self-in-Err : goal.invariant_of-self-in-Err
invariant_of-self-in-Err g c =
    let D = g.D.Disk in
    let a = c.self.inside in
    let s = state_of a in
    let d1 = c.stage.new.disk in (
      failed_archive D.honest D.marks D.held a.disk d1 a.slots a.active a.end a.total a.carry a.carry a.files.items s
          a.closed c.self.invariant.0 c.stage.ensures.honest,
      goes_on s s.active a.shared D.honest D.marks D.held a.disk d1 a.closed true c.stage.ensures.honest
          (λ is. absurd (cc)) (λ is. absurd (cc)) (λ is. absurd (cc)) (work_of a) (c.self.invariant.1),
      c.self.invariant.2,
      λ is. absurd (cc),
    )

pub returns-clause-answers : goal.returns-clause-answers
returns-clause-answers g c =
    let s = state_of c.self.inside in
    let made = c.in_ok-octets.ensures.made in
    rw (← c.self.view_is) (
      c.if-self.false,
      (
        told made.0,
        ap job_in made.1,
        may_write s made.0 c.self.inside.job made.1
            (omega (arith, c.if-generations_kept-gt0.false, c.generations_kept.ensures)) made.2,
      ),
      refl,
    )

pub returns-clause-step : goal.returns-clause-step
returns-clause-step g c =
    rw (← c.self.view_is) (failed g.D.Disk _ _ _ c.stage.ensures.honest
    (run g (goal.at.returns-clause-step g c).After-stage) refl refl c.if-self.false)

pub returns-clause-cause : goal.returns-clause-cause
returns-clause-cause g c =
    let why = c.in-Err.ensures.cause in
    rw (← c.self.view_is) (record {
      later = why.later;
      done = tt;
      risen = λ is. why.risen;
      other = λ differs. absurd (differs refl);
    })
