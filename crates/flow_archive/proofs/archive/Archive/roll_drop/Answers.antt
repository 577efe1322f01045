use Rattle.std.proofs.Common.{true, ◌≡◌, inr, Bool, IsTrue, refl, sym, ◌∙◌, ap, Option, Some, None}
use Rattle.flow_disk.specs.declared.disk.Disk.{Ghosts}
use Rattle.flow_disk.specs.Disk.{Marks}
use Rattle.flow_disk.specs.Calls.{LeavesOnly}
use Rattle.flow_segment.proofs.Making.{begun, changed_by}
use Rattle.flow_archive.specs.declared.refusal.ArchiveError.TheVariants as refusal
use Rattle.flow_archive.specs.JobAnswers.{dropped}
use Rattle.flow_archive.specs.declared.archive.Archive.TheInside.{Inside}
use Rattle.flow_archive.specs.UnderWay.{job_in, frozen_staged_in, frozen_staged, FrozenStaged, RunningJob}
use Rattle.flow_archive.specs.Seen.{StandsBeforeOrAfter}
use Rattle.flow_archive.proofs.Dropping.{given_up, given_up_with, none_gone, staged_gone, unnamed, Has}
use Rattle.flow_archive.proofs.Inside.{state_of, with_rolling}
use Rattle.flow_archive.proofs.Installed.{some_made}
use Rattle.flow_archive.proofs.Removing.{closed_now, removed_run}
use Rattle.flow_archive.proofs.Stand.{stands_for}
use Rattle.flow_archive.proofs.Stepping.{acknowledged, failed_either, refused}
use Rattle.flow_archive.proofs.Undertaking.{without_device}
use Rattle.flow_archive.proofs.Written.{told}
use Rattle.flow_archive.proofs.archive.Archive.roll_drop.Given.{Over}
use Rattle.flow_archive.proofs.archive.Archive.roll_drop.Goals.{In-Some, After-retire}
use Rattle.flow_archive.proofs.archive.Archive.roll_drop.Goals as goal

pub returns-in_default-clause-step : goal.returns-in_default-clause-step
returns-in_default-clause-step g c =
    let inside = c.self.inside in
    rw (← c.self.view_is) (rw (c.take.ensures.after ∙ sym (sym c.take.ensures.value ∙ c.in_default.is))
    (refused g.D.Disk _ _ _ refusal.NoRoll refl (λ is. cc)
    (λ h image left. g.met.D.Disk.only_now inside.disk image h left)
    (λ h still image is. stands_for inside.slots _ image
    ((c.self.invariant.0.still_open still).kept.known h image is))))

abbrev HasIn : {D S X T F : Type 0} → Ghosts D S X → Inside D T F → D → Bool → Option RunningJob → Type 0
HasIn g a = Has g.honest g.marks g.held a.slots a.active a.end a.total a.carry a.files.items a.prefix a.messages.items
    a.next a.shared a.waiting.items

-- ---- where there is a job
module _ (g : Over) (c : In-Some g) where
  job_was : c.self.inside.job ≡ Some c.in-Some.job
  job_was = sym c.take.ensures.value ∙ c.in-Some.is

  was : HasIn g.D.Disk c.self.inside c.self.inside.disk c.self.inside.closed (Some c.in-Some.job)
  was =
      let held : HasIn g.D.Disk c.self.inside c.self.inside.disk c.self.inside.closed c.self.inside.job =
      (c.self.invariant.0, c.self.invariant.1, c.self.invariant.2) in
      rw job_was at held

-- ---- where it has made a file
module _ (g : Over) (c : After-retire g)
    (was : HasIn g.D.Disk c.self.inside c.self.inside.disk c.self.inside.closed (Some c.in-Some.job)) where
  abbrev file : FrozenStaged
  file = frozen_staged g.D.Sealed.SealedFile.number g.D.Sealed.SealedFile.size g.D.Sealed.SealedFile.honest
      g.D.Sealed.SealedFile.octets c.in-Some-into_file.file

  made : c.in-Some.job.staged ≡ Some file
  made = sym c.into_file.ensures ∙ ap (frozen_staged_in g.D.Sealed.SealedFile.number g.D.Sealed.SealedFile.size
      g.D.Sealed.SealedFile.honest g.D.Sealed.SealedFile.octets) c.in-Some-into_file.is

  without : HasIn g.D.Disk c.self.inside c.retire.new.self c.self.inside.closed None
  without =
      let D = g.D.Disk in
      let a = c.self.inside in
      given_up_with D.honest D.marks D.held a.slots a.active a.end a.total a.carry a.files.items a.prefix
      a.messages.items a.next a.shared a.waiting.items a.disk a.closed c.in-Some.job file made was c.retire.new.self
      c.retire.ensures.honest c.retire.ensures.marks.others (λ h. (c.retire.ensures.held h).others)
      (λ h. g.met.D.Disk.reads_image a.disk file.file h)

  -- a stop
  run : IsTrue (g.D.Disk.honest c.self.inside.disk) → LeavesOnly g.D.Disk c.self.inside.disk c.retire.new.self
      (StandsBeforeOrAfter (state_of c.self.inside) (λ after. after ≡ dropped (state_of c.self.inside)))
  run h =
      let D = g.D.Disk in
      let a = c.self.inside in
      rw (sym c.take.ensures.value ∙ c.in-Some.is)
      (removed_run D.honest D.marks D.held a.disk c.retire.new.self (with_rolling a (Some c.in-Some.job)) file.file
      (unnamed D.honest D.marks D.held a.slots a.active a.end a.total a.carry a.files.items a.prefix a.messages.items
      a.next a.shared a.waiting.items a.disk a.closed c.in-Some.job file made was) c.retire.ensures.honest
      c.retire.ensures.marks.others (λ t. (c.retire.ensures.held t).others)
      (λ t. g.met.D.Disk.reads_image a.disk file.file t) D a.slots _
      ((was.0.still_open c.if-self.false).kept.known h) (changed_by _
      (begun h (g.met.D.Disk.reads_image a.disk file.file h) (λ image. g.met.D.Disk.only_now a.disk image h))
      c.retire.ensures.honest c.retire.ensures.time (λ t. (c.retire.ensures.held t).others)).run)

pub invariant_of-self-in_default-into_file : goal.invariant_of-self-in_default-into_file
invariant_of-self-in_default-into_file g c =
    let D = g.D.Disk in
    let S = g.D.Sealed.SealedFile in
    let a = c.self.inside in
    let whole : HasIn g.D.Disk a a.disk a.closed c.take.new.self = rw c.take.ensures.after (given_up D.honest D.marks D.held a.slots a.active a.end a.total a.carry a.files.items
    a.prefix a.messages.items a.next a.shared a.waiting.items a.disk a.closed c.in-Some.job
    (was g (goal.at.invariant_of-self-in_default-into_file g c).In-Some)
    (sym c.into_file.ensures ∙ ap (frozen_staged_in S.number S.size S.honest S.octets) c.in_default-into_file.is)) in
    (whole.0, whole.1, whole.2, c.self.invariant.3)

pub returns-in_default-into_file-clause-step : goal.returns-in_default-into_file-clause-step
returns-in_default-into_file-clause-step g c =
    let inside = c.self.inside in
    rw (← c.self.view_is) (without_device g.D.Disk inside.disk (state_of inside) (with_rolling inside c.take.new.self)
    inside.closed (λ after. after ≡ dropped (state_of inside)) tt c.if-self.false
    (ap (with_rolling inside) c.take.ensures.after) refl
    (λ h image left. g.met.D.Disk.only_now inside.disk image h left)
    (λ h image is. stands_for inside.slots _ image
    ((c.self.invariant.0.still_open c.if-self.false).kept.known h image is)))

pub invariant_of-self-in-Ok : goal.invariant_of-self-in-Ok
invariant_of-self-in-Ok g c =
    let at = goal.at.invariant_of-self-in-Ok g c in
    let whole : HasIn g.D.Disk c.self.inside c.retire.new.self c.self.inside.closed c.take.new.self =
    rw c.take.ensures.after (without g at.After-retire (was g at.In-Some)) in
    (whole.0, whole.1, whole.2, c.self.invariant.3)

pub invariant_of-self-in-Err : goal.invariant_of-self-in-Err
invariant_of-self-in-Err g c =
    let at = goal.at.invariant_of-self-in-Err g c in
    let D = g.D.Disk in
    let a = c.self.inside in
    let whole : HasIn g.D.Disk a c.retire.new.self true c.take.new.self =
    rw c.take.ensures.after (closed_now D.honest D.marks D.held a.slots a.active a.end a.total a.carry a.files.items
    a.prefix a.messages.items a.next None a.shared c.retire.new.self a.closed a.waiting.items
    (without g at.After-retire (was g at.In-Some))) in
    (whole.0, whole.1, whole.2, λ is. absurd (cc))

pub returns-in-Ok-clause-step : goal.returns-in-Ok-clause-step
returns-in-Ok-clause-step g c =
    let at = goal.at.returns-in-Ok-clause-step g c in
    let inside = c.self.inside in
    rw (← c.self.view_is) (acknowledged g.D.Disk _ _ _ _ c.retire.ensures.honest
    (run g at.After-retire (was g at.In-Some)) (λ h. ap (with_rolling inside) c.take.ensures.after) c.if-self.false
    c.if-self.false
    (λ h1 image left. stands_for inside.slots _ image
    (((invariant_of-self-in-Ok g c).0.still_open c.if-self.false).kept.known h1 image
    (g.met.D.Disk.only_now c.retire.new.self image h1 left))))

pub returns-in-Err-clause-answers : goal.returns-in-Err-clause-answers
returns-in-Err-clause-answers g c =
    let at = goal.at.returns-in-Err-clause-answers g c in
    let job_was = job_was g at.In-Some in
    rw (← c.self.view_is) (
      c.if-self.false,
      (
        told c.in-Some.job,
        ap job_in job_was,
        some_made c.in-Some.job _ (made g at.After-retire (was g at.In-Some)),
      ),
      ap (with_rolling c.self.inside) c.take.ensures.after,
    )

pub returns-in-Err-clause-step : goal.returns-in-Err-clause-step
returns-in-Err-clause-step g c =
    let at = goal.at.returns-in-Err-clause-step g c in
    rw (← c.self.view_is) (failed_either g.D.Disk _ _ _ c.retire.ensures.honest
    (run g at.After-retire (was g at.In-Some))
    (inr (ap (with_rolling c.self.inside) c.take.ensures.after)) refl c.if-self.false)

pub returns-in-Err-clause-cause : goal.returns-in-Err-clause-cause
returns-in-Err-clause-cause g c =
    let why = c.in-Err.ensures.cause in
    rw (← c.self.view_is) (record {
      later = why.later;
      done = tt;
      risen = λ is. why.risen;
      other = λ differs. absurd (differs refl);
    })

pub returns-in_default-into_file-clause-removed : goal.returns-in_default-into_file-clause-removed
returns-in_default-into_file-clause-removed g c =
    let S = g.D.Sealed.SealedFile in
    rw (← c.self.view_is) (none_gone (g.D.Disk.marks c.self.inside.disk) (state_of c.self.inside) c.in-Some.job
    (ap job_in (job_was g (goal.at.returns-in_default-into_file-clause-removed g c).In-Some))
    (sym c.into_file.ensures ∙ ap (frozen_staged_in S.number S.size S.honest S.octets) c.in_default-into_file.is))

pub returns-in-Ok-clause-removed : goal.returns-in-Ok-clause-removed
returns-in-Ok-clause-removed g c =
    let at = goal.at.returns-in-Ok-clause-removed g c in
    let job_was = job_was g at.In-Some in
    rw (← c.self.view_is) (staged_gone (g.D.Disk.marks c.retire.new.self) (state_of c.self.inside) c.in-Some.job _
    (ap job_in job_was) (made g at.After-retire (was g at.In-Some))
    (ap (λ (k : Marks). k.listed) c.in-Ok.ensures.marks.done))

pub invariant_of-self : goal.invariant_of-self
invariant_of-self g c =
    rw (c.take.ensures.after ∙ sym (sym c.take.ensures.value ∙ c.in_default.is)) c.self.invariant
