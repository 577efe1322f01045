-- What is due in each state of a job.
use Rattle.std.proofs.Common.{◌≡◌, ◌∙◌, ℕ, zero, suc, ◌-◌, ◌<◌, ◌≤◌, min, List, Some, None, sym, ap, refl, arith}
use Rattle.flow_manifest.specs.declared.following.JobKind.{JobKind}
use Rattle.flow_manifest.specs.declared.manifest.Manifest.{Manifest}
use Rattle.flow_manifest.specs.Following.{count_of, source_of}
use Rattle.flow_model.specs.State.{State}
use Rattle.flow_archive.specs.declared.event.Event.TheVariants.{RollStep, RollWrite, RollInstall}
use Rattle.flow_archive.specs.UnderWay.{status_of}
use Rattle.flow_turns.specs.Turns.{begun_by, begun_or_removal, due, due_with, files_over, removal_by, step_by}
use Rattle.flow_turns.proofs.JobStates.{with_file, with_read}

begin_due : (kind : JobKind) (count : ℕ) → 1 ≤ count → begun_or_removal kind count ≡ Some (begun_by kind count)
begin_due kind zero some = absurd (omega (arith, some))
begin_due kind (suc n) some = refl

step_due : (left : ℕ) → 1 ≤ left → step_by left None ≡ RollStep
step_due zero some = absurd (omega (arith, some))
step_due (suc n) some = refl

pub due_first : (kind : JobKind) (keep count : ℕ) (s : State) → s.job ≡ None → count ≡ files_over kind keep s
    → 1 ≤ count → due kind keep s ≡ Some (begun_by kind count)
due_first kind keep count s none is some =
    (λ i. due_with kind (files_over kind keep s) (status_of (none i)))
    ∙ ap (λ (n : ℕ). begun_or_removal kind n) (sym is) ∙ begin_due kind count some

pub due_step : (kind of : JobKind) (keep count read : ℕ) (s : State) → read < count
    → due kind keep (with_read s of count read) ≡ Some RollStep
due_step kind of keep count read s less = ap Some (step_due (count - read) (omega (arith, less)))

pub due_write : (kind of : JobKind) (keep count : ℕ) (s : State)
    → due kind keep (with_read s of count count) ≡ Some RollWrite
due_write kind of keep count s =
    let none : count - count ≡ 0 = omega arith in ap (λ (n : ℕ). Some (step_by n None)) none

pub due_install : (kind of : JobKind) (keep count : ℕ) (s : State) (octets : List ℕ)
    → due kind keep (with_file s of count octets) ≡ Some RollInstall
due_install kind of keep count s octets =
    let none : count - count ≡ 0 = omega arith in ap (λ (n : ℕ). Some (step_by n (Some s.next))) none

pub due_none : (kind : JobKind) (keep : ℕ) (s : State) → s.job ≡ None → files_over kind keep s ≡ 0
    → due kind keep s ≡ removal_by kind
due_none kind keep s none over =
    (λ i. due_with kind (files_over kind keep s) (status_of (none i))) ∙ ap (λ (n : ℕ). begun_or_removal kind n) over

-- as many are left to sum where the manifest is the same
pub over_still : (kind : JobKind) (keep : ℕ) (s after : State) → after.manifest ≡ s.manifest
    → files_over kind keep after ≡ files_over kind keep s
over_still kind keep s after same =
    ap (λ (m : Manifest). min (count_of (source_of kind) m.entries - keep) 4096) same
