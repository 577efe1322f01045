-- An archive whose job is given up.
use Rattle.std.proofs.Common.{◌≡◌, ◌≢◌, ℕ, Bool, false, IsTrue, List, [], ◌∷◌, ◌++◌, sym, ◌∙◌, ap, subst}
use Rattle.std.proofs.Common.{Option, Some, None}
use Rattle.std.specs.Prelude.{IfSome}
use Rattle.std.specs.List.{AllByRecursion}
use Rattle.flow_disk.specs.Disk.{Held, Marks, IsImage}
use Rattle.flow_manifest.specs.declared.manifest.Entry.{Entry}
use Rattle.flow_manifest.specs.declared.slots.Slots.{Slots}
use Rattle.flow_segment.specs.Carry.{Carry}
use Rattle.flow_model.specs.State.{Job, StagedFile, State}
use Rattle.flow_archive.specs.JobAnswers.{IsStagedGone}
use Rattle.flow_archive.specs.Frozen.{Frozen}
use Rattle.flow_archive.specs.UnderWay.{job_in, number_in, numbers_of, staged_in, under_way_in, AllDiffer}
use Rattle.flow_archive.specs.UnderWay.{IsStaged, IsUnnamed, IsWaiting, FrozenStaged, RunningJob}
use Rattle.flow_archive.proofs.Removing.{removed_archive, Holds}
use Rattle.flow_archive.proofs.Sharing.{own_numbers}
use Rattle.flow_archive.proofs.Removing as removing
use Rattle.flow_archive.proofs.Undertaking.{job_archive, no_job_work, with_job}

waiting_left : (s : State) (old new : ℕ → Marks) (n : ℕ) → ((k : ℕ) → k ≢ n → new k ≡ old k) → (closed : Bool)
    (files : List Frozen) → AllByRecursion (λ o. o ≢ n) (numbers_of files)
    → AllByRecursion (IsWaiting old s closed) files → AllByRecursion (IsWaiting new (with_job s None) closed) files
waiting_left s old new n marks_too closed [] apart all = tt
waiting_left s old new n marks_too closed (f ∷ files) apart all = (
  record {
    unnamed = record {
      from = all.0.unnamed.from;
      below = all.0.unnamed.below;
      apart = all.0.unnamed.apart;
    };
    frozen = λ is. ap (λ (k : Marks). k.frozen) (marks_too f.entry.file apart.0) ∙ all.0.frozen is;
  },
  waiting_left s old new n marks_too closed files apart.1 all.1,
)

module _ {D : Type 0} (honest : D → Bool) (marks : D → ℕ → Marks) (held : D → ℕ → Held) (slots : Slots) (last : Entry)
    (end total : ℕ) (carry : Carry) (files : List Frozen) (prefix : List ℕ) (messages : List (List ℕ)) (next : ℕ)
    (shared : Bool) (waiting : List Frozen) where
  abbrev pub state : Option RunningJob → State
  state job = removing.state_of honest marks held slots last end total carry files prefix messages next job shared waiting

  abbrev pub Has : D → Bool → Option RunningJob → Type 0
  Has x closed job =
      Holds honest marks held slots last end total carry files prefix messages next job shared x closed waiting

  -- where it has made no file
  pub given_up : (d : D) (closed : Bool) (j : RunningJob) → Has d closed (Some j) → j.staged ≡ None → Has d closed None
  given_up d closed j was none = (
    job_archive (state (Some j)) None honest marks held d slots last end total carry files closed was.0,
    no_job_work honest marks held d (state (Some j)) (under_way_in next (Some j) waiting) closed was.1,
    own_numbers shared files (under_way_in next (Some j) waiting) next None
        (ap (λ (f : Option FrozenStaged). number_in (staged_in f)) (sym none)) was.2,
  )

  -- the file that it has made
  module _ (d : D) (closed : Bool) (j : RunningJob) (f : FrozenStaged) (made : j.staged ≡ Some f) (was : Has d closed (Some j)) where
    pub unnamed : IsUnnamed (state (Some j)) f.file
    unnamed = (subst (λ (o : Option FrozenStaged). IfSome o (IsStaged (honest d) (state (Some j)) j)) made was.1.job.staged).unnamed

    -- is removed
    pub given_up_with : (d1 : D) → honest d1 ≡ honest d → ((k : ℕ) → k ≢ f.file → marks d1 k ≡ marks d k)
        → (IsTrue (honest d) → (k : ℕ) → k ≢ f.file → held d1 k ≡ held d k)
        → (IsTrue (honest d) → IsImage (held d f.file) (held d f.file).reads) → Has d1 closed None
    given_up_with d1 honest_too marks_too held_too readable =
        let numbers = ap (λ (o : Option FrozenStaged). number_in (staged_in o)) made in
        let differ = subst (λ (ns : List ℕ). AllDiffer (ns ++ numbers_of waiting)) numbers was.2.differ in (
          job_archive (state (Some j)) None honest marks held d1 slots last end total carry files closed
              (removed_archive honest marks held d d1 (state (Some j)) f.file unnamed honest_too marks_too held_too
              readable slots last end total carry files closed was.0),
          record {
            job = tt;
            on_disk = λ _. tt;
            waiting = waiting_left (state (Some j)) (marks d) (marks d1) f.file marks_too closed waiting differ.0
                was.1.waiting;
          },
          record { alone = was.2.alone; waiting = was.2.waiting; differ = differ.1 },
        )

-- ---- of its file nothing is left

own_staged : Option Job → Option StagedFile
own_staged None = None
own_staged (Some job) = job.staged

own_number : Option StagedFile → ℕ
own_number None = 0
own_number (Some staged) = staged.file

its_staged : (s : State) (j : RunningJob) (job : Job) (staged : StagedFile) → s.job ≡ job_in (Some j) → s.job ≡ Some job
    → job.staged ≡ Some staged → staged_in j.staged ≡ Some staged
unfolding own_staged
its_staged s j job staged is has own = ap own_staged (sym is ∙ has) ∙ own

pub none_gone : (marks : ℕ → Marks) (s : State) (j : RunningJob) → s.job ≡ job_in (Some j) → j.staged ≡ None
    → IsStagedGone marks s
none_gone marks s j is none job staged has own =
    let no : None ≡ Some staged = ap staged_in (sym none) ∙ its_staged s j job staged is has own in absurd (cc)

pub staged_gone : (marks : ℕ → Marks) (s : State) (j : RunningJob) (f : FrozenStaged) → s.job ≡ job_in (Some j)
    → j.staged ≡ Some f → (marks f.file).listed ≡ false → IsStagedGone marks s
unfolding own_number
staged_gone marks s j f is made gone job staged has own =
    let same : f.file ≡ staged.file = ap own_number (ap staged_in (sym made) ∙ its_staged s j job staged is has own) in
    subst (λ (n : ℕ). (marks n).listed ≡ false) same gone
