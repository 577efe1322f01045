-- What a stop leaves of a disk in memory.
use Rattle.std.proofs.Common.{◌≡◌, ℕ, ◌≤◌, true, false, IsTrue, List, Result, refl, sym, ◌∙◌, ap, subst, arith}
use Rattle.flow_disk.specs.Disk.{AllImages, IsDiskImage, IsImage}
use Rattle.flow_manifest.specs.Slots.{reads_of}
use Rattle.flow_memory_disk.specs.declared.choice.Choice.{Choice}
use Rattle.flow_memory_disk.specs.declared.disk.MemoryDisk.{MemoryDisk}
use Rattle.flow_memory_disk.specs.Calls.{Story, held_of}
use Rattle.flow_memory_disk.specs.Memory.{left_after_stop, moment_of, story_of}
use Rattle.flow_memory_disk.specs.Sound.{now_alone, now_counts, settled_one, sound}
use Rattle.flow_memory_disk.specs.Stopped.{image_of, stopped}
use Rattle.flow_memory_disk.specs.Stopping.{CanCrash}
use Rattle.flow_model.specs.State.{State, reopened}
use Rattle.flow_model.specs.Standing.{StandsFor}
use Rattle.flow_archive.specs.declared.event.Answer.{Answer}
use Rattle.flow_archive.specs.declared.event.Event.{Event}
use Rattle.flow_archive.specs.declared.refusal.ArchiveError.{ArchiveError}
use Rattle.flow_archive.specs.Seen.{Seen}
use Rattle.flow_headline.specs.Front.{IsFront}
use Rattle.flow_headline.specs.Machine.{fused_disk, Fused, IsFusedRun, IsStoppedRun, memory_disk}
use Rattle.flow_headline.specs.Openings.{IsLeftBy}
use Rattle.flow_headline.proofs.Fronts.{front_of, image_of_run}

-- what it reads as is an image of it
some_image : (disk : Fused) → IsTrue true
    → (image : ℕ → List ℕ) × left_after_stop disk.disk (moment_of disk.disk) image
some_image disk h = (
  reads_of (held_of (story_of disk.disk)),
  now_counts (story_of disk.disk) (moment_of disk.disk) (reads_of (held_of (story_of disk.disk))) (omega arith)
      (λ n. (sound (story_of disk.disk) n).image),
)

pub left_by_stop : (old new : Seen Fused) (events : List Event) (answers : List (Result Answer ArchiveError))
    (choice : Choice) (after : MemoryDisk) → IsFusedRun old events answers new → old.closed ≡ false
    → AllImages (held_of (story_of old.disk.disk)) (λ image. StandsFor image (reopened old.state))
    → CanCrash new.disk.disk.files.items choice
    → IsDiskImage (held_of (story_of new.disk.disk)) (reads_of (held_of (story_of after)))
    → story_of after ≡ stopped (story_of new.disk.disk) choice
    → (left : State) × IsFront old.state events answers left × IsStoppedRun old events answers choice left
    × StandsFor (reads_of (held_of (story_of after))) left
left_by_stop old new events answers choice after run still stands fits image story =
    let reads = reads_of (held_of (story_of after)) in
    let found = image_of_run fused_disk some_image old events answers new reads run refl still
    (record {
      images = λ one left. stands one (now_alone (story_of old.disk.disk) one left);
      some = some_image old.disk refl;
    })
    (λ t le. now_counts (story_of new.disk.disk) t reads le image) in (
      reopened found.after,
      front_of old.state events answers reads found,
      record {
        last = new;
        run = run;
        fits = fits;
        stands = subst (λ (s : Story). StandsFor (reads_of (held_of s)) (reopened found.after)) story found.stands;
      },
      found.stands,
    )

-- what a stop leaves by a choice is a disk that a stop leaves
pub left_by_choice : (disk left : MemoryDisk) (choice : Choice) → story_of left ≡ stopped (story_of disk) choice
    → IsDiskImage (held_of (story_of disk)) (λ n. (held_of (story_of left) n).reads)
    → ((n : ℕ) → ((story_of left).marks n).frozen ≡ false) → (early : MemoryDisk) → moment_of early ≤ moment_of disk
    → IsLeftBy memory_disk early disk left
left_by_choice disk left choice story reads thawed early le = record {
  honest = refl;
  thawed = thawed;
  images = λ image is. now_counts (story_of disk) (moment_of early) image le (λ n.
      let own = image_of choice (held_of (story_of disk) n) in
      let one : image n ≡ own = settled_one own (image n)
      (subst (λ (s : Story). IsImage (held_of s n) (image n)) story (is n)) in
      subst (IsImage (held_of (story_of disk) n)) (ap (λ (s : Story). (held_of s n).reads) story ∙ sym one) (reads n));
}
