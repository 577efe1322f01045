use Rattle.std.proofs.Common.{refl, subst, sym, ap, ◌∙◌}
use Rattle.flow_disk.specs.Disk.{IsDiskImage}
use Rattle.flow_manifest.specs.Slots.{reads_of}
use Rattle.flow_memory_disk.specs.Calls.{held_of}
use Rattle.flow_memory_disk.specs.Memory.{story_of}
use Rattle.flow_memory_disk.specs.Stopped.{stopped}
use Rattle.flow_memory_disk.specs.Stopping.{CanCrash}
use Rattle.flow_headline.specs.Machine.{fused_disk, Fused}
use Rattle.flow_headline.proofs.Closing.{ends_at_fault}
use Rattle.flow_headline.proofs.Stopping.{left_by_stop}
use Rattle.flow_headline.proofs.reopening.run_and_stop.Goals as goal

pub returns-in-None-clause-no_stop : goal.returns-in-None-clause-no_stop
returns-in-None-clause-no_stop c is = record {
  answers = c.in_ok-answers.answers.items;
  last = c.run_all.new.archive;
  run = c.in_ok-answers.ensures;
  unfit = λ fits. c.in-None.ensures.none refl (subst (λ (d : Fused). CanCrash d.disk.files.items c.args.choice)
      (sym c.into_disk.ensures) fits);
}

pub returns-in-Some-clause-left : goal.returns-in-Some-clause-left
returns-in-Some-clause-left c =
    let same = c.into_disk.ensures in
    let reads = reads_of (held_of (story_of c.in-Some.disk)) in
    left_by_stop c.args.archive c.run_all.new.archive c.args.events.now c.in_ok-answers.answers.items c.args.choice
    c.in-Some.disk c.in_ok-answers.ensures c.requires.still_open
    (c.is_closed-closed.ensures.stands refl c.requires.still_open)
    (subst (λ (d : Fused). CanCrash d.disk.files.items c.args.choice) same c.in-Some.ensures.fits)
    (subst (λ (d : Fused). IsDiskImage (held_of (story_of d.disk)) reads) same c.in-Some.ensures.image)
    (c.in-Some.ensures.story ∙ ap (λ (d : Fused). stopped (story_of d.disk) c.args.choice) same)

pub returns-in-Some-clause-behind : goal.returns-in-Some-clause-behind
returns-in-Some-clause-behind c =
    ends_at_fault fused_disk c.args.archive c.args.events.now c.in_ok-answers.answers.items c.run_all.new.archive
    c.in_ok-answers.ensures
