use Rattle.std.proofs.Common.{◌≡◌, inl, inr, ⊎_elim, ℕ, Bool, true, IsTrue, List}
use Rattle.std.proofs.Common.{refl, sym, ◌∙◌, ap, subst, arith, rules, length, vec_len}
use Rattle.flow_disk.specs.Disk.{Marks}
use Rattle.flow_disk.specs.Calls.{LeavesOnly}
use Rattle.flow_disk.proofs.Moments.{by}
use Rattle.flow_manifest.specs.Manifest.{manifest_octets}
use Rattle.flow_manifest.specs.Following.{front_of, made_entry, sources_of}
use Rattle.flow_manifest.specs.Slots.{other}
use Rattle.flow_manifest.proofs.ValidEntries.{front_long}
use Rattle.flow_manifest.proofs.ManifestAfterInstall.{behind_short}
use Rattle.flow_rolled.specs.Rollup.{IsRollup}
use Rattle.flow_model.specs.Jobs.{replaced, replaced_parts, staged_of}
use Rattle.flow_model.specs.State.{State, reopened}
use Rattle.flow_model.specs.Standing.{StandsForEither}
use Rattle.flow_model.proofs.Replacing.{hands_after}
use Rattle.flow_archive.specs.Installing.{IsInstall, IsStagedAs, IsNotInstalled}
use Rattle.flow_archive.specs.JobAnswers.{AnswersInstall, IsInstalled}
use Rattle.flow_archive.specs.Frozen.{Frozen, IsAlone, IsHeldAs}
use Rattle.flow_archive.specs.Seen.{StandsBeforeOrAfter}
use Rattle.flow_archive.specs.UnderWay.{job_in, staged_file, IsOnDisk, IsRunningJob, IsStaged, FrozenStaged, RunningJob}
use Rattle.flow_archive.specs.declared.refusal.ArchiveError.TheVariants as refusal
use Rattle.flow_archive.proofs.Answering.{err_is}
use Rattle.flow_archive.proofs.Directing.{failed_archive}
use Rattle.flow_archive.proofs.Installed.{archive_installed, cut_is, is_installed, may_install, not_installed}
use Rattle.flow_archive.proofs.Installed.{some_made, then_is, then_state, work_installed}
use Rattle.flow_archive.proofs.FilesAlone.{made_apart, own_installed}
use Rattle.flow_archive.proofs.Owning.{as_many}
use Rattle.flow_archive.proofs.Stand.{slot_below, stands_for}
use Rattle.flow_archive.proofs.Stepping.{acknowledged, failed, refused, refused_by}
use Rattle.flow_archive.proofs.Working.{goes_on}
use Rattle.flow_archive.proofs.Written.{is_made_of, told}
use Rattle.flow_archive.proofs.Inside.{made_there, state_of, the_rolling, the_staged, work_of}
use Rattle.flow_archive.proofs.archive.Archive.roll_install.Given.{Over}
use Rattle.flow_archive.proofs.archive.Archive.roll_install.Goals.{After-install}
use Rattle.flow_archive.proofs.archive.Archive.roll_install.Goals as goal

pub returns-in_err-made-clause-answers : goal.returns-in_err-made-clause-answers
returns-in_err-made-clause-answers g c =
    let inside = c.self.inside in
    let honest = g.D.Disk.honest inside.disk in
    let s = state_of inside in
    let e = c.in_err-made.field-0.0 in
    rw (← c.self.view_is) (err_is c.from_residual.result e (λ x. AnswersInstall honest inside.closed s x s)
    c.from_residual.ensures.1
    (not_installed honest inside.closed s inside.job e c.if-self.false refl c.in_err-made.ensures.refused))

pub returns-in_err-made-clause-step : goal.returns-in_err-made-clause-step
returns-in_err-made-clause-step g c =
    let inside = c.self.inside in
    rw (← c.self.view_is) (refused_by g.D.Disk _ _ _ c.in_err-made.field-0.0 _ c.from_residual.ensures.1 refl
    (λ same. subst (IsNotInstalled inside.job) same c.in_err-made.ensures.refused)
    (λ h image left. g.met.D.Disk.only_now inside.disk image h left)
    (λ h still image is. stands_for inside.slots _ image
    (((c.self.invariant.0).still_open still).kept.known h image is)))

pub to_install-requires-clause-staged : goal.to_install-requires-clause-staged
to_install-requires-clause-staged g c =
    let a = c.self.inside in
    may_install (g.D.Disk.honest a.disk) (state_of a) a.job c.self.invariant.1.job c.self.invariant.0.counted.next

pub install-requires-clause-room : goal.install-requires-clause-room
install-requires-clause-room g c =
    ((c.self.invariant.0).still_open c.if-self.false).kept.ready.slot_room (other c.self.inside.slots.current_slot)

pub install-requires-clause-thawed : goal.install-requires-clause-thawed
install-requires-clause-thawed g c =
    ((c.self.invariant.0).still_open c.if-self.false).kept.ready.slot_thawed (other c.self.inside.slots.current_slot)

pub install-requires-clause-settled : goal.install-requires-clause-settled
install-requires-clause-settled g c =
    ((c.self.invariant.0).still_open c.if-self.false).kept.ready.slot_settled (other c.self.inside.slots.current_slot)

pub install-requires-clause-settled_current : goal.install-requires-clause-settled_current
install-requires-clause-settled_current g c =
    ((c.self.invariant.0).still_open c.if-self.false).kept.ready.slot_settled c.self.inside.slots.current_slot

-- ---- the install, and what is known of the job that has made its file
module _ (g : Over) (c : After-install g) where
  abbrev honest : Bool
  honest = g.D.Disk.honest c.self.inside.disk

  abbrev s : State
  s = state_of c.self.inside

  abbrev r : RunningJob
  r = c.in_ok-made.ensures.made.r

  abbrev f : FrozenStaged
  f = c.in_ok-made.ensures.made.f

  abbrev after : State
  after = replaced s r.kind r.sources (staged_file f)

  rolling : IsRunningJob honest s r
  rolling = the_rolling honest s c.self.inside.job r c.in_ok-made.ensures.made.job_is c.self.invariant.1.job

  staged : IsStaged honest s r f
  staged = the_staged honest s r f c.in_ok-made.ensures.made.staged_is rolling

  there : IsOnDisk g.D.Disk.honest g.D.Disk.marks g.D.Disk.held c.self.inside.disk f
  there = made_there g.D.Disk.honest g.D.Disk.marks g.D.Disk.held c.self.inside.disk c.self.inside.job r f
      c.in_ok-made.ensures.made.job_is c.in_ok-made.ensures.made.staged_is
      (c.self.invariant.1.on_disk c.if-self.false)

  ready : IsTrue honest → IsInstall (g.D.Disk.held c.self.inside.disk) c.self.inside.slots c.as_slice.result.now
      r.kind r.sources (staged_file f) s
  ready h =
      let still = (c.self.invariant.0).still_open c.if-self.false in
      let is = c.in_ok-made.ensures.made in
      record {
        few = rolling.few;
        valid = rw is.now_is at is.valid;
        body_is = c.as_slice.ensures.value ∙ is.body_is ∙ ap manifest_octets is.now_is;
        carry = c.self.inside.carry;
        hands_on = still.hands_on h;
        table = r.rows;
        sums = (staged.made h).0;
        elsewhere = staged.unnamed.from;
        known = still.kept.known h;
        staged = λ image at. there.octets h (image f.file) (at f.file);
      }

  installed : (b : Bool) (octets : List ℕ) → (IsTrue b → IsTrue honest × (octets ≡ f.octets)) → (then : State)
      → then ≡ record after { parts = replaced_parts r.kind r.sources octets s.manifest.entries s.parts }
      → IsInstalled b s then
  installed b octets so = is_installed b s r f c.self.inside.job c.in_ok-made.ensures.made.job_is refl
      c.in_ok-made.ensures.made.staged_is rolling.some rolling.few octets
      (λ h. (
        is_made_of honest s r f.octets rolling (omega (arith, staged.all)) (so h).0 (staged.made (so h).0),
        (so h).1,
      ))

  -- a stop
  run : IsTrue honest → LeavesOnly g.D.Disk c.self.inside.disk c.install.new.disk
      (StandsBeforeOrAfter s (λ x. IsInstalled true s x))
  run h = by g.D.Disk c.self.inside.disk c.install.new.disk (StandsForEither (reopened s) (reopened after))
      (StandsBeforeOrAfter s (λ x. IsInstalled true s x))
      (c.install.ensures.any_moment h r.kind r.sources (staged_file f) s (ready h))
      (λ image either. ⊎_elim (λ before. inl before)
      (λ later. inr (after, installed true f.octets (λ _. (h, refl)) after refl, later)) either)

  -- the archive with this file
  module _ (part : Frozen) (is : IsStagedAs c.self.inside.job c.in_ok-made.made.entry part) where
    abbrev as_made : IsHeldAs f.honest c.in_ok-made.made.entry part × IsAlone part
        × (IsTrue f.honest → part.octets ≡ f.octets)
    as_made = is r f c.in_ok-made.ensures.made.job_is c.in_ok-made.ensures.made.staged_is

    part_held : IsHeldAs honest
        (made_entry r.kind (staged_of (staged_file f)) (sources_of r.kind r.sources s.manifest.entries)) part
    part_held = rw (← staged.honest_is) (rw (← c.in_ok-made.ensures.made.entry_is) as_made.0)

    octets_is : IsTrue honest → part.octets ≡ f.octets
    octets_is h = as_made.2 (subst IsTrue (sym staged.honest_is) h)

    abbrev then : State
    then = let a = c.self.inside in
        then_state g.D.Disk.honest g.D.Disk.marks g.D.Disk.held (work_of a) a.shared a.disk c.install.new.disk a.slots
        a.active a.end a.total a.carry a.files.items a.prefix a.messages.items r.kind r.sources f part

    in_force : (b : Bool) → (IsTrue b → IsTrue honest) → IsInstalled b s then
    in_force b so = let a = c.self.inside in
        installed b part.octets (λ h. (so h, octets_is (so h))) then
        (then_is g.D.Disk.honest g.D.Disk.marks g.D.Disk.held (work_of a) a.shared a.disk c.install.new.disk a.slots
        a.active a.end a.total a.carry a.files.items a.prefix a.messages.items r.kind r.sources f part
        (c.self.invariant.0).counted.valid rolling.few (c.self.invariant.0).files_are part_held)

pub exchange-requires-clause-within : goal.exchange-requires-clause-within
exchange-requires-clause-within g c =
    let a = c.self.inside in
    let m = a.slots.current in
    let valid = (c.self.invariant.0).counted.valid in
    let is = c.in_ok-made.ensures.made in
    let few = (rolling g (goal.at.exchange-requires-clause-within g c).After-install).few in
    let len : vec_len a.files ≡ length a.files.items = search rules in
    omega (
      arith,
      len,
      is.place_is,
      is.sources_is,
      behind_short m valid is.r.kind is.r.sources few,
      front_long m valid,
      as_many (g.D.Disk.honest a.disk) (front_of m) a.files.items (c.self.invariant.0).files_are,
    )

pub install-requires-clause-slots : goal.install-requires-clause-slots
install-requires-clause-slots g c h =
    let inside = c.self.inside in
    let held = g.D.Disk.held inside.disk in
    (((c.self.invariant.0).still_open c.if-self.false).kept.known h (λ n. (held n).reads)
    (λ n. g.met.D.Disk.reads_image inside.disk n h)).slots_are

pub returns-in_default-clause-step : goal.returns-in_default-clause-step
returns-in_default-clause-step g c =
    let inside = c.self.inside in
    rw (← c.self.view_is) (rw c.make_room.ensures.same (refused g.D.Disk _ _ _ refusal.OutOfMemory refl (λ is. cc)
    (λ h image left. g.met.D.Disk.only_now inside.disk image h left)
    (λ h still image is. stands_for inside.slots _ image
    (((c.self.invariant.0).still_open still).kept.known h image is))))

pub returns-in_default-clause-answers : goal.returns-in_default-clause-answers
returns-in_default-clause-answers g c =
    let is = c.in_ok-made.ensures.made in
    rw (← c.self.view_is) (
      c.if-self.false,
      (told is.r, ap job_in is.job_is, some_made is.r is.f is.staged_is),
      rw c.make_room.ensures.same,
    )

pub invariant_of-self : goal.invariant_of-self
invariant_of-self g c = rw c.make_room.ensures.same c.self.invariant

pub invariant_of-self-in-Err-install : goal.invariant_of-self-in-Err-install
invariant_of-self-in-Err-install g c =
    let D = g.D.Disk in
    let a = c.self.inside in
    let s = state_of a in
    let d1 = c.install.new.disk in
    rw c.make_room.ensures.same (
      failed_archive D.honest D.marks D.held a.disk d1 a.slots a.active a.end a.total a.carry a.carry a.files.items s
          a.closed c.self.invariant.0 c.install.ensures.honest,
      goes_on s s.active a.shared D.honest D.marks D.held a.disk d1 a.closed true c.install.ensures.honest
          (λ is. absurd (cc)) (λ is. absurd (cc)) (λ is. absurd (cc)) (work_of a) (c.self.invariant.1),
      c.self.invariant.2,
      λ is. absurd (cc),
    )

pub returns-in-Err-clause-answers : goal.returns-in-Err-clause-answers
returns-in-Err-clause-answers g c =
    let is = c.in_ok-made.ensures.made in
    rw (← c.self.view_is) (
      c.if-self.false,
      (told is.r, ap job_in is.job_is, some_made is.r is.f is.staged_is),
      rw c.make_room.ensures.same,
    )

pub returns-in-Err-clause-step : goal.returns-in-Err-clause-step
returns-in-Err-clause-step g c =
    rw (← c.self.view_is) (rw c.make_room.ensures.same (failed g.D.Disk _ _ _ c.install.ensures.honest
    (run g (goal.at.returns-in-Err-clause-step g c).After-install) refl refl c.if-self.false))

pub returns-in-Err-clause-cause : goal.returns-in-Err-clause-cause
returns-in-Err-clause-cause g c =
    let why = c.in-Err.ensures.cause in
    rw (← c.self.view_is) (record {
      later = why.later;
      done = tt;
      risen = λ is. why.risen;
      other = λ differs. absurd (differs refl);
    })

pub take_staged-file-requires-clause-sums : goal.take_staged-file-requires-clause-sums
take_staged-file-requires-clause-sums g c = λ r f is made honest.
    let a = c.self.inside in
    let b = g.D.Disk.honest a.disk in
    let rolling = the_rolling b (state_of a) a.job r is c.self.invariant.1.job in
    let staged = the_staged b (state_of a) r f made rolling in
    subst (λ (w : ℕ). IsRollup w f.octets r.rows) (sym rolling.width)
    (staged.made (subst IsTrue staged.honest_is honest)).0

pub take_staged-file-requires-clause-staged : goal.take_staged-file-requires-clause-staged
take_staged-file-requires-clause-staged g c =
    let is = c.in_ok-made.ensures.made in
    rw is.entry_is (is.r, is.f, is.job_is, is.staged_is, refl, refl, refl, refl)

pub invariant_of-self-in-Ok-install : goal.invariant_of-self-in-Ok-install
invariant_of-self-in-Ok-install g c =
    let at = (goal.at.invariant_of-self-in-Ok-install g c).After-install in
    let D = g.D.Disk in
    let a = c.self.inside in
    let d = a.disk in
    let m = a.slots.current in
    let was = c.self.invariant.0 in
    let is = c.in_ok-made.ensures.made in
    let d1 = c.install.new.disk in
    let part : Frozen = c.take_staged-file.result in
    let file = c.take_staged-file.ensures.file in
    let held = part_held g at part file in
    let few = (rolling g at).few in
    let staged = staged g at in
    let own = rw is.job_is at c.self.invariant.2 in
    let low = slot_below (other a.slots.current_slot) in
    let others = c.install.ensures.other_marks in
    rw c.other-slot.ensures (rw is.now_is (rw c.take_staged-file.ensures.none (rw c.exchange.ensures.files
    (rw c.exchange.ensures.waiting (rw c.make_room.ensures.same (rw is.place_is (rw is.sources_is (
      archive_installed D.honest D.marks D.held (work_of a) a.shared d d1 a.slots a.active a.end a.total a.carry
          a.files.items a.prefix a.messages.items is.r.kind is.r.sources is.f part was.counted.valid few was.files_are
          held a.closed was c.if-self.false c.install.ensures.honest (rw is.now_is at is.valid) others
          c.in-Ok-install.ensures.slot_room c.in-Ok-install.ensures.slot_settled c.install.ensures.slot_thawed
          (ap (λ (k : Marks). k.frozen)
          (others is.f.file (λ same. omega (arith, same, staged.unnamed.from, low))) ∙ (there g at).frozen)
          (λ h. c.in-Ok-install.ensures.after h is.r.kind is.r.sources (staged_file is.f) (state_of a)
          (ready g at h)) (octets_is g at part file)
          (λ h. hands_after (state_of a) a.carry was.counted.valid ((was.still_open c.if-self.false).hands_on h)
          is.r.kind is.r.sources few (staged_file is.f) is.r.rows (staged.made h).0),
      work_installed D.honest D.marks D.held (work_of a) a.shared d d1 a.slots a.active a.end a.total a.carry
          a.files.items a.prefix a.messages.items is.r.kind is.r.sources is.f part was.counted.valid few was.files_are
          held a.closed was c.if-self.false others staged.unnamed
          (made_apart m was.counted.valid is.r.kind is.r.sources few (D.honest d) a.files.items was.files_are a.shared
          is.r is.f a.next a.waiting.items is.staged_is own)
          (c.self.invariant.1).waiting,
      own_installed m was.counted.valid is.r.kind is.r.sources few (D.honest d) a.files.items was.files_are (D.marks d)
          (state_of a) a.closed a.shared is.r is.f part a.next a.waiting.items refl is.staged_is
          (as_made g at part file).1 (c.self.invariant.1).waiting own,
      c.self.invariant.3,
    ))))))))

pub returns-in-Ok-install-clause-answers : goal.returns-in-Ok-install-clause-answers
returns-in-Ok-install-clause-answers g c =
    let at = (goal.at.returns-in-Ok-install-clause-answers g c).After-install in
    let is = c.in_ok-made.ensures.made in
    rw (← c.self.view_is) (
      c.if-self.false,
      rw is.now_is (rw c.take_staged-file.ensures.none (rw c.exchange.ensures.files (rw c.exchange.ensures.waiting
          (rw c.make_room.ensures.same (rw is.place_is (rw is.sources_is (in_force g at c.take_staged-file.result
          c.take_staged-file.ensures.file (g.D.Disk.honest c.self.inside.disk) (λ h. h)))))))),
      (told is.r, ap job_in is.job_is, is.answer_is ∙ cut_is is.r.kind _),
    )

pub returns-in-Ok-install-clause-step : goal.returns-in-Ok-install-clause-step
returns-in-Ok-install-clause-step g c =
    let at = (goal.at.returns-in-Ok-install-clause-step g c).After-install in
    let is = c.in_ok-made.ensures.made in
    rw (← c.self.view_is) (acknowledged g.D.Disk _ _ _ _ c.install.ensures.honest (run g at)
    (λ h. rw is.now_is (rw c.take_staged-file.ensures.none (rw c.exchange.ensures.files (rw c.exchange.ensures.waiting
    (rw c.make_room.ensures.same (rw is.place_is (rw is.sources_is
    (in_force g at c.take_staged-file.result c.take_staged-file.ensures.file true (λ _. h)))))))))
    c.if-self.false c.if-self.false
    (λ h image left. stands_for _ _ image
    (((invariant_of-self-in-Ok-install g c).0.still_open c.if-self.false).kept.known h image
    (g.met.D.Disk.only_now c.install.new.disk image h left))))
