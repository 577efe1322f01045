use Rattle.std.proofs.Common.{◌≡◌, ◌≤◌, refl, sym, ◌∙◌, ap, subst, arith, Some}
use Rattle.flow_manifest.specs.declared.manifest.Kind.{Kind}
use Rattle.flow_manifest.specs.Following.{count_of, source_of}
use Rattle.flow_model.specs.Jobs.{width_made}
use Rattle.flow_archive.specs.JobAnswers.{begun}
use Rattle.flow_archive.specs.Seen.{IsArchive}
use Rattle.flow_archive.specs.UnderWay.{RunningJob, UnderWay, fresh, job_in, job_numbers, under_way_in}
use Rattle.flow_archive.specs.UnderWay.{HasOwnFiles, IsUnderWay}
use Rattle.flow_archive.proofs.Sharing.{own_numbers}
use Rattle.flow_archive.specs.declared.refusal.ArchiveError.TheVariants as refusal
use Rattle.flow_archive.proofs.Stand.{stands_for}
use Rattle.flow_archive.proofs.Stepping.{refused}
use Rattle.flow_archive.proofs.Undertaking.{fresh_rolling, job_archive, job_work, no_job, some_job}
use Rattle.flow_archive.proofs.Undertaking.{width_some, without_device}
use Rattle.flow_archive.proofs.Inside.{state_of, with_rolling, work_of}
use Rattle.flow_archive.proofs.archive.Archive.begin.Goals as goal
use Rattle.flow_archive.proofs.archive.Archive.begin.Goals.{then-count-eq0-via-then-count-eq0}
use Rattle.flow_archive.proofs.archive.Archive.begin.Goals.{then-count-eq0-via-else-count-eq0+then-there-count}

pub returns-then-is_some-clause-answers : goal.returns-then-is_some-clause-answers
returns-then-is_some-clause-answers g c =
    let inside = c.self.inside in
    rw (← c.self.view_is) (
      c.if-self.false,
      some_job inside.job (sym c.is_some.ensures ∙ c.if-is_some.true),
      refl,
    )

pub returns-then-is_some-clause-step : goal.returns-then-is_some-clause-step
returns-then-is_some-clause-step g c =
    let D = g.D.Disk in
    let inside = c.self.inside in
    rw (← c.self.view_is) (refused D _ _ _ refusal.RollBusy refl (λ is. cc)
    (λ h image left. g.met.D.Disk.only_now inside.disk image h left)
    (λ h still image is. stands_for inside.slots _ image ((c.self.invariant.0.still_open still).kept.known h image is)))

pub returns-then-count-eq0-clause-answers : goal.returns-then-count-eq0-clause-answers
returns-then-count-eq0-clause-answers g c =
    let inside = c.self.inside in
    let m = inside.slots.current in
    let none = no_job inside.job (sym c.is_some.ensures ∙ c.if-is_some.false) in
    let there : c.count_of-there.result ≡ count_of (source_of c.args.kind) m.entries = c.count_of-there.ensures
    ∙ ap (λ (k : Kind). count_of k c.as_slice.result.now) c.source.ensures
    ∙ ap (count_of (source_of c.args.kind)) c.as_slice.ensures in
    rw (← c.self.view_is) (
      c.if-self.false,
      none,
      (λ has. elim c.then-count-eq0.branch [
        | then-count-eq0-via-then-count-eq0 w ↦ omega (arith, w.if-count-eq0.true, has.0)
        | then-count-eq0-via-else-count-eq0+then-there-count w ↦ omega (arith, w.if-there-count.true, has.1, there)
      ]),
      refl,
    )

pub returns-then-count-eq0-clause-step : goal.returns-then-count-eq0-clause-step
returns-then-count-eq0-clause-step g c =
    let D = g.D.Disk in
    let inside = c.self.inside in
    rw (← c.self.view_is) (refused D _ _ _ refusal.RollCount refl (λ is. cc)
    (λ h image left. g.met.D.Disk.only_now inside.disk image h left)
    (λ h still image is. stands_for inside.slots _ image ((c.self.invariant.0.still_open still).kept.known h image is)))

pub new-requires : goal.new-requires
new-requires g c =
    let m = c.self.inside.slots.current in
    let some = width_some c.args.kind m c.self.invariant.0.counted.valid.ranges in
    omega (arith, some, c.width_made-width.ensures)

pub invariant_of-self : goal.invariant_of-self
invariant_of-self g c =
    let D = g.D.Disk in
    let inside = c.self.inside in
    let m = inside.slots.current in
    let d = inside.disk in
    let work = work_of inside in
    let s = state_of inside in
    let W : RunningJob → UnderWay = λ r. under_way_in inside.next (Some r) inside.waiting.items in
    let there : c.count_of-there.result ≡ count_of (source_of c.args.kind) m.entries = c.count_of-there.ensures
    ∙ ap (λ (k : Kind). count_of k c.as_slice.result.now) c.source.ensures
    ∙ ap (count_of (source_of c.args.kind)) c.as_slice.ensures in
    let some : 1 ≤ c.args.count = omega (arith, c.if-count-eq0.false) in
    let r = fresh c.args.kind c.args.count (width_made c.args.kind m) in
    let whole = subst (λ (x : RunningJob). IsArchive D.honest D.marks D.held d inside.slots inside.active inside.end inside.total
    inside.carry inside.files.items (with_rolling inside (Some x)) inside.closed
    × IsUnderWay D.honest D.marks D.held d (with_rolling inside (Some x)) (W x) inside.closed
    × HasOwnFiles inside.shared inside.files.items (W x))
    (sym (c.new.ensures ∙ ap (fresh c.args.kind c.args.count) c.width_made-width.ensures)) (
      job_archive s (job_in (Some r)) D.honest D.marks D.held d inside.slots inside.active inside.end inside.total
          inside.carry inside.files.items inside.closed c.self.invariant.0,
      job_work s r refl D.honest D.marks D.held d work inside.closed
          (fresh_rolling (D.honest d) s c.args.kind c.args.count some
          (omega (arith, c.if-there-count.false, there))) c.self.invariant.1,
      own_numbers inside.shared inside.files.items work inside.next (Some r)
          (sym (ap job_numbers (no_job inside.job (sym c.is_some.ensures ∙ c.if-is_some.false)))) c.self.invariant.2,
    ) in
    (whole.0, whole.1, whole.2, c.self.invariant.3)

pub returns-clause-answers : goal.returns-clause-answers
returns-clause-answers g c =
    let inside = c.self.inside in
    let there : c.count_of-there.result ≡ count_of (source_of c.args.kind) inside.slots.current.entries =
    c.count_of-there.ensures ∙ ap (λ (k : Kind). count_of k c.as_slice.result.now) c.source.ensures
    ∙ ap (count_of (source_of c.args.kind)) c.as_slice.ensures in
    rw (← c.self.view_is) (
      c.if-self.false,
      no_job inside.job (sym c.is_some.ensures ∙ c.if-is_some.false),
      (omega (arith, c.if-count-eq0.false), omega (arith, c.if-there-count.false, there)),
      ap (λ (r : RunningJob). with_rolling inside (Some r)) c.new.ensures,
    )

pub returns-clause-step : goal.returns-clause-step
returns-clause-step g c =
    let D = g.D.Disk in
    let inside = c.self.inside in
    let s = state_of inside in
    rw (← c.self.view_is) (without_device D inside.disk s
    (with_rolling inside (Some c.new.result)) inside.closed (λ after. after ≡ begun s c.args.kind c.args.count) tt
    c.if-self.false (ap (λ (r : RunningJob). with_rolling inside (Some r)) c.new.ensures) refl
    (λ h image left. g.met.D.Disk.only_now inside.disk image h left)
    (λ h image is. stands_for inside.slots _ image
    ((c.self.invariant.0.still_open c.if-self.false).kept.known h image is)))
