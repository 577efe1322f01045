use Rattle.std.proofs.Common.{◌≡◌, refl, sym, subst, ⊎_elim}
use Rattle.flow_manifest.specs.Slots.{reads_of}
use Rattle.flow_memory_disk.specs.Calls.{held_of}
use Rattle.flow_memory_disk.specs.Memory.{story_of}
use Rattle.flow_model.specs.State.{State}
use Rattle.flow_recover.proofs.Recovering.{one_state}
use Rattle.flow_headline.specs.Front.{IsFront}
use Rattle.flow_headline.specs.Machine.{IsStoppedRun}
use Rattle.flow_headline.proofs.reopening.run_and_open.Goals as goal

-- what was opened is what was left
opened : (c : goal.In-Ok) → c.in-Ok.archive.state ≡ c.in_ok-answers.ensures.left.0
opened c =
    let left = c.in_ok-answers.ensures.left in
    one_state (reads_of (held_of (story_of c.in_ok-answers.field-0.disk))) c.in-Ok.archive.state left.0
    (c.in-Ok.ensures.read refl) left.3

pub returns-in-Ok-clause-prefix : goal.returns-in-Ok-clause-prefix
returns-in-Ok-clause-prefix c =
    subst (λ (s : State). IsFront c.args.archive.state c.args.events.now c.in_ok-answers.field-0.answers.items s)
    (sym (opened c)) c.in_ok-answers.ensures.left.1

pub returns-in-Ok-clause-stopped : goal.returns-in-Ok-clause-stopped
returns-in-Ok-clause-stopped c =
    subst (λ (s : State). IsStoppedRun c.args.archive c.args.events.now c.in_ok-answers.field-0.answers.items
    c.args.choice s) (sym (opened c)) c.in_ok-answers.ensures.left.2

pub unreachable-requires : goal.unreachable-requires
unreachable-requires c =
    let left = c.in_ok-answers.ensures.left in
    ⊎_elim (λ told. ⊎_elim c.in_default.not-Fault c.in_default.not-OutOfMemory told) (λ none. none left.0 left.3)
    (c.in-Err.ensures.told refl)
