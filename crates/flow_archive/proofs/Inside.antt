-- An archive by its fields: its state, and the job that is under way.
use Rattle.std.proofs.Common.{◌≡◌, ℕ, ◌+◌, Bool, List, Option, Some, ap, subst, ◌∙◌, arith}
use Rattle.std.specs.Prelude.{IfSome}
use Rattle.flow_disk.specs.Disk.{Held, Marks}
use Rattle.flow_manifest.specs.declared.following.JobKind.{JobKind}
use Rattle.flow_manifest.specs.declared.manifest.Entry.{Entry}
use Rattle.flow_manifest.specs.declared.manifest.Manifest.{Manifest}
use Rattle.flow_manifest.specs.Following.{count_before, source_of}
use Rattle.flow_model.specs.State.{State}
use Rattle.flow_archive.specs.declared.archive.Archive.TheInside.{Inside}
use Rattle.flow_archive.specs.Seen.{state_in}
use Rattle.flow_archive.specs.UnderWay.{under_way_in, IsOnDisk, IsRunningJob, IsStaged, FrozenStaged, RunningJob, UnderWay}

abbrev pub work_of : {D S F : Type 0} → Inside D S F → UnderWay
work_of a = under_way_in a.next a.job a.waiting.items

-- with another job
abbrev pub with_rolling : {D S F : Type 0} → Inside D S F → Option RunningJob → State
with_rolling a job =
    state_in (under_way_in a.next job a.waiting.items) a.shared a.slots.current a.files.items a.prefix a.messages.items

abbrev pub state_of : {D S F : Type 0} → Inside D S F → State
state_of a = with_rolling a a.job

-- ---- the job that is under way

pub the_rolling : (honest : Bool) (s : State) (job : Option RunningJob) (r : RunningJob) → job ≡ Some r
    → IfSome job (IsRunningJob honest s) → IsRunningJob honest s r
the_rolling honest s job r is has = subst (λ (o : Option RunningJob). IfSome o (IsRunningJob honest s)) is has

pub the_staged : (honest : Bool) (s : State) (r : RunningJob) (f : FrozenStaged) → r.staged ≡ Some f → IsRunningJob honest s r
    → IsStaged honest s r f
the_staged honest s r f is rolling = subst (λ (x : Option FrozenStaged). IfSome x (IsStaged honest s r)) is rolling.staged

-- its file is on the disk
pub made_there : {D : Type 0} (honest : D → Bool) (marks : D → ℕ → Marks) (held : D → ℕ → Held) (d : D)
    (job : Option RunningJob) (r : RunningJob) (f : FrozenStaged) → job ≡ Some r → r.staged ≡ Some f
    → IfSome job (λ x. IfSome x.staged (IsOnDisk honest marks held d)) → IsOnDisk honest marks held d f
made_there honest marks held d job r f is made has =
    subst (λ (x : Option FrozenStaged). IfSome x (IsOnDisk honest marks held d)) made
    (subst (λ (o : Option RunningJob). IfSome o (λ x. IfSome x.staged (IsOnDisk honest marks held d))) is has)

-- where its first source is
pub first_place : (m : Manifest) (r : RunningJob) (list : List Entry) (kind : JobKind) (from : ℕ)
    → from ≡ count_before (source_of kind) list → list ≡ m.entries → kind ≡ r.kind
    → from ≡ count_before (source_of r.kind) m.entries + 0
first_place m r list kind from is all same =
    let at : from ≡ count_before (source_of r.kind) m.entries =
    is ∙ ap (count_before (source_of kind)) all ∙ ap (λ (k : JobKind). count_before (source_of k) m.entries) same in
    omega (arith, at)

-- the place of its next source
pub next_place : (m : Manifest) (r : RunningJob) (list : List Entry) (kind : JobKind) (from read : ℕ)
    → from ≡ count_before (source_of kind) list → list ≡ m.entries → kind ≡ r.kind → read ≡ r.read
    → from + read ≡ count_before (source_of r.kind) m.entries + r.read
next_place m r list kind from read is all same count =
    let at : from ≡ count_before (source_of r.kind) m.entries =
    is ∙ ap (count_before (source_of kind)) all ∙ ap (λ (k : JobKind). count_before (source_of k) m.entries) same in
    omega (arith, at, count)
