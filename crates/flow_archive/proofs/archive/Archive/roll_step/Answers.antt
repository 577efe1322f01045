use Rattle.std.proofs.Common.{◌≡◌, ◌-◌, ◌<◌, ◌+◌, ℕ, refl, sym, ◌∙◌, ap, subst, arith, rules, Err, Option, Some, length}
use Rattle.std.proofs.Common.{vec_len, Ok, ◌∷◌, Bool, List}
use Rattle.flow_manifest.specs.Following.{count_before, front_of, source_of}
use Rattle.flow_model.specs.State.{State}
use Rattle.flow_archive.specs.declared.refusal.ArchiveError.{ArchiveError}
use Rattle.flow_archive.specs.declared.refusal.ArchiveError.TheVariants as refusal
use Rattle.flow_archive.specs.JobAnswers.{AnswersStep, IsStepped}
use Rattle.flow_archive.specs.Seen.{Seen}
use Rattle.flow_archive.specs.UnderWay.{job_in, job_numbers, number_in, staged_in}
use Rattle.flow_archive.specs.UnderWay.{IsRunningJob, FrozenStaged, RunningJob}
use Rattle.flow_archive.proofs.Fitting.{undamaged}
use Rattle.flow_archive.proofs.Owning.{as_many}
use Rattle.flow_archive.proofs.Sharing.{own_numbers}
use Rattle.flow_archive.proofs.Stand.{stands_for}
use Rattle.flow_archive.proofs.Stepping.{refused}
use Rattle.flow_archive.proofs.SourceStand.{at_end, below, next_file, none_staged, not_closing, not_stepped, one_less}
use Rattle.flow_archive.proofs.SourceStand.{source_read, taken_rolling}
use Rattle.flow_archive.proofs.Undertaking.{job_archive, job_work, without_device}
use Rattle.flow_archive.proofs.Inside.{first_place, next_place, state_of, the_rolling, with_rolling, work_of}
use Rattle.flow_archive.proofs.archive.Archive.roll_step.Given.{Over}
use Rattle.flow_archive.proofs.archive.Archive.roll_step.Goals.{After-sources_from-from, In-Err}
use Rattle.flow_archive.proofs.archive.Archive.roll_step.Goals as goal

pub returns-in_default-clause-step : goal.returns-in_default-clause-step
returns-in_default-clause-step g c =
    let D = g.D.Disk in
    let inside = c.self.inside in
    rw (← c.self.view_is) (refused D _ _ _ refusal.NoRoll refl (λ is. cc)
    (λ h image left. g.met.D.Disk.only_now inside.disk image h left)
    (λ h still image is. stands_for inside.slots _ image ((c.self.invariant.0.still_open still).kept.known h image is)))

pub returns-then-job-clause-answers : goal.returns-then-job-clause-answers
returns-then-job-clause-answers g c =
    let inside = c.self.inside in
    let told = at_end (state_of inside) c.in-Some.job (ap job_in c.in-Some.is)
    (sym (ap (λ (r : RunningJob). r.read) c.job.view_is) ∙ c.if-job.true ∙ ap (λ (r : RunningJob). r.sources) c.job.view_is)
    in
    rw (← c.self.view_is) (c.if-self.false, told)

pub returns-then-job-clause-step : goal.returns-then-job-clause-step
returns-then-job-clause-step g c =
    let inside = c.self.inside in
    let told = at_end (state_of inside) c.in-Some.job (ap job_in c.in-Some.is)
    (sym (ap (λ (r : RunningJob). r.read) c.job.view_is) ∙ c.if-job.true ∙ ap (λ (r : RunningJob). r.sources) c.job.view_is)
    in
    rw (← c.self.view_is) (without_device g.D.Disk inside.disk (state_of inside)
    (with_rolling inside (Some c.in-Some.job)) inside.closed (λ after. IsStepped (state_of inside) after) 0
    c.if-self.false (told.0, told.1, told.2.1) refl (λ h image left. g.met.D.Disk.only_now inside.disk image h left)
    (λ h image is. stands_for inside.slots _ image
    ((c.self.invariant.0.still_open c.if-self.false).kept.known h image is)))

-- ---- a source is left
module _ (g : Over) (c : After-sources_from-from g) where
  rolling : IsRunningJob (g.D.Disk.honest c.self.inside.disk) (state_of c.self.inside) c.in-Some.job
  rolling = the_rolling (g.D.Disk.honest c.self.inside.disk) (state_of c.self.inside) c.self.inside.job c.in-Some.job
      c.in-Some.is c.self.invariant.1.job

  lt : c.in-Some.job.read < c.in-Some.job.sources
  lt = let read_is = ap (λ (r : RunningJob). r.read) c.job.view_is in
      let sources_is = ap (λ (r : RunningJob). r.sources) c.job.view_is in
      omega (arith, c.if-job.false, rolling.read, read_is, sources_is)

  first_is : c.sources_from-from.result
      ≡ count_before (source_of c.in-Some.job.kind) c.self.inside.slots.current.entries + 0
  first_is = first_place c.self.inside.slots.current c.in-Some.job c.as_slice.result.now c.job.inside.kind
      c.sources_from-from.result c.sources_from-from.ensures c.as_slice.ensures
      (ap (λ (r : RunningJob). r.kind) c.job.view_is)

  index_is : c.sources_from-from.result + c.job.inside.read
      ≡ count_before (source_of c.in-Some.job.kind) c.self.inside.slots.current.entries + c.in-Some.job.read
  index_is = next_place c.self.inside.slots.current c.in-Some.job c.as_slice.result.now c.job.inside.kind
      c.sources_from-from.result c.job.inside.read c.sources_from-from.ensures c.as_slice.ensures
      (ap (λ (r : RunningJob). r.kind) c.job.view_is) (ap (λ (r : RunningJob). r.read) c.job.view_is)

  in_files : (read : ℕ) → read < c.in-Some.job.sources
      → count_before (source_of c.in-Some.job.kind) c.self.inside.slots.current.entries + read
      < vec_len c.self.inside.files
  in_files read left =
      let inside = c.self.inside in
      let len : vec_len inside.files ≡ length inside.files.items = search rules in
      omega (
        arith,
        len,
        as_many (g.D.Disk.honest inside.disk) (front_of inside.slots.current) inside.files.items
            c.self.invariant.0.files_are,
        below (state_of inside) c.self.invariant.0.counted.valid c.in-Some.job.kind c.in-Some.job.sources read
            rolling.few left,
      )

pub index-first-requires : goal.index-first-requires
index-first-requires g c =
    let at = (goal.at.index-first-requires g c).After-sources_from-from in
    omega (arith, first_is g at, in_files g at 0 (omega (arith, (rolling g at).some)))

pub index-source-requires : goal.index-source-requires
index-source-requires g c =
    let at = (goal.at.index-source-requires g c).After-sources_from-from in
    omega (arith, index_is g at, in_files g at c.in-Some.job.read (lt g at))

pub invariant_of-self-in-Err : goal.invariant_of-self-in-Err
invariant_of-self-in-Err g c =
    rw (c.in-Some.is ∙ ap (λ (r : RunningJob). Some r) (sym c.in-Err.ensures.kept)) at c.self.invariant

module _ (g : Over) (c : In-Err g) where
  same : with_rolling c.self.inside (Some c.take_source.new.job) ≡ state_of c.self.inside
  same = ap (λ (r : RunningJob). with_rolling c.self.inside (Some r)) c.in-Err.ensures.kept
      ∙ ap (with_rolling c.self.inside) (sym c.in-Some.is)

pub returns-in-Err-clause-answers : goal.returns-in-Err-clause-answers
returns-in-Err-clause-answers g c =
    let at = (goal.at.returns-in-Err-clause-answers g c).After-sources_from-from in
    let D = g.D.Disk in
    let inside = c.self.inside in
    let d = inside.disk in
    let s = state_of inside in
    let j : RunningJob = c.in-Some.job in
    let valid = c.self.invariant.0.counted.valid in
    let few = (rolling g at).few in
    let source_is = rw (index_is g at) at c.index-source.ensures in
    let told = source_read D.honest D.marks D.held d inside.slots inside.active inside.end inside.total inside.carry
    inside.files.items s inside.closed c.if-self.false c.self.invariant.0 j c.take_source.new.job
    c.index-source.result.now (Err c.in-Err.e) (rolling g at) (lt g at) source_is c.in-Err.ensures.read in
    let oldest = next_file s valid j.kind j.sources 0 few (omega (arith, (rolling g at).some)) (D.honest d)
    inside.files.items c.index-first.result.now (rw (first_is g at) at c.index-first.ensures)
    c.self.invariant.0.files_are in
    let next = next_file s valid j.kind j.sources j.read few (lt g at) (D.honest d) inside.files.items
    c.index-source.result.now source_is c.self.invariant.0.files_are in
    let after = with_rolling inside (Some c.take_source.new.job) in
    subst (λ (x : Seen g.row.D.Denot). AnswersStep (D.honest x.disk) x.closed x.state (Err c.of_source.result) after)
    c.self.view_is (subst (λ (e : ArchiveError). AnswersStep (D.honest d) inside.closed s (Err e) after)
    (sym c.of_source.ensures) (not_stepped (D.honest d) inside.closed s after j c.take_source.new.job
    c.number-oldest.result c.number-next.result c.in-Err.e c.if-self.false (ap job_in c.in-Some.is) (lt g at)
    (same g (goal.at.returns-in-Err-clause-answers g c).In-Err)
    (oldest.0, oldest.1 ∙ ap (λ (n : ℕ). n ∷ oldest.0) (sym c.number-oldest.ensures))
    (next.0, next.1 ∙ ap (λ (n : ℕ). n ∷ next.0) (sym c.number-next.ensures)) told))

pub returns-in-Err-clause-fits : goal.returns-in-Err-clause-fits
returns-in-Err-clause-fits g c =
    let at = (goal.at.returns-in-Err-clause-fits g c).After-sources_from-from in
    let D = g.D.Disk in
    let inside = c.self.inside in
    let d = inside.disk in
    let s = state_of inside in
    let j : RunningJob = c.in-Some.job in
    let after : State = with_rolling inside (Some c.take_source.new.job) in
    let told : AnswersStep (D.honest d) inside.closed s (Err c.of_source.result) after =
    subst (λ (x : Seen g.row.D.Denot). AnswersStep (D.honest x.disk) x.closed x.state (Err c.of_source.result) after)
    (sym c.self.view_is) (returns-in-Err-clause-answers g c) in
    let still = c.self.invariant.0.still_open c.if-self.false in
    rw (← c.self.view_is) (λ h history has within.
    let reads : ℕ → List ℕ = λ n. (D.held d n).reads in
    let known = still.kept.known h reads (λ n. g.met.D.Disk.reads_image d n h) in
    undamaged s inside.carry history c.self.invariant.0.counted.valid (still.hands_on h) reads known.files.parts
    has within j.kind j.sources j.read (staged_in j.staged) (rolling g at).few (lt g at) inside.closed after
    (Err c.of_source.result)
    (subst (λ (b : Bool). AnswersStep b inside.closed s (Err c.of_source.result) after) h told)
    (ap job_in c.in-Some.is))

pub returns-in-Err-clause-step : goal.returns-in-Err-clause-step
returns-in-Err-clause-step g c =
    let inside = c.self.inside in
    rw (← c.self.view_is) (refused g.D.Disk _ _ _ c.of_source.result
    (ap (λ (x : State). record { disk = inside.disk; state = x; closed = inside.closed })
    (same g (goal.at.returns-in-Err-clause-step g c).In-Err))
    (λ is. not_closing c.number-oldest.result c.number-next.result c.in-Err.e (sym c.of_source.ensures ∙ is))
    (λ h image left. g.met.D.Disk.only_now inside.disk image h left)
    (λ h still image is. stands_for inside.slots _ image ((c.self.invariant.0.still_open still).kept.known h image is)))

pub invariant_of-self-2 : goal.invariant_of-self-2
invariant_of-self-2 g c =
    let at = (goal.at.invariant_of-self-2 g c).After-sources_from-from in
    let D = g.D.Disk in
    let inside = c.self.inside in
    let d = inside.disk in
    let s = state_of inside in
    let j : RunningJob = c.in-Some.job in
    let new : RunningJob = c.take_source.new.job in
    let told = source_read D.honest D.marks D.held d inside.slots inside.active inside.end inside.total inside.carry
    inside.files.items s inside.closed c.if-self.false c.self.invariant.0 j new c.index-source.result.now
    (Ok c.in-Ok.field-0) (rolling g at) (lt g at) (rw (index_is g at) at c.index-source.ensures) c.in-Ok.ensures.read in
    let was = none_staged (D.honest d) s j (rolling g at) (lt g at) in
    let none = ap (λ (r : RunningJob). r.staged) c.in-Ok.ensures.taken.0 ∙ was in (
      job_archive s (job_in (Some new)) D.honest D.marks D.held d inside.slots inside.active inside.end inside.total
          inside.carry inside.files.items inside.closed c.self.invariant.0,
      job_work s new none D.honest D.marks D.held d (work_of inside) inside.closed
          (taken_rolling (D.honest d) s j new (rolling g at) (lt g at) c.in-Ok.ensures.taken told) c.self.invariant.1,
      own_numbers inside.shared inside.files.items (work_of inside) inside.next (Some new)
          (ap (λ (f : Option FrozenStaged). number_in (staged_in f)) (none ∙ sym was)
          ∙ ap (λ (o : Option RunningJob). job_numbers (job_in o)) (sym c.in-Some.is)) c.self.invariant.2,
      c.self.invariant.3,
    )

pub returns-clause-answers : goal.returns-clause-answers
returns-clause-answers g c =
    let told = one_less (state_of c.self.inside) c.in-Some.job c.take_source.new.job (ap job_in c.in-Some.is)
    (lt g (goal.at.returns-clause-answers g c).After-sources_from-from) c.in-Ok.ensures.taken in
    rw (← c.self.view_is) (
      c.if-self.false,
      (told.0, told.1, (ap (λ (r : RunningJob). r.sources - r.read) c.job-2.view_is ∙ told.2.0, told.2.1)),
    )

pub returns-clause-step : goal.returns-clause-step
returns-clause-step g c =
    let inside = c.self.inside in
    let told = one_less (state_of inside) c.in-Some.job c.take_source.new.job (ap job_in c.in-Some.is)
    (lt g (goal.at.returns-clause-step g c).After-sources_from-from) c.in-Ok.ensures.taken in
    rw (← c.self.view_is) (without_device g.D.Disk inside.disk (state_of inside)
    (with_rolling inside (Some c.take_source.new.job)) inside.closed (λ after. IsStepped (state_of inside) after) _
    c.if-self.false (told.0, told.1, told.2.1) refl (λ h image left. g.met.D.Disk.only_now inside.disk image h left)
    (λ h image is. stands_for inside.slots _ image
    ((c.self.invariant.0.still_open c.if-self.false).kept.known h image is)))

pub invariant_of-self-then-job : goal.invariant_of-self-then-job
invariant_of-self-then-job g c = rw c.in-Some.is at c.self.invariant
