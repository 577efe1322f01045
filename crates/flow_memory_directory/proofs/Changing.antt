-- What a call that changes one node makes of the files.
use Rattle.std.proofs.Common.{◌≡◌, ◌≢◌, ⊎_elim, ℕ, zero, suc, ◌<◌, List, []}
use Rattle.std.proofs.Common.{◌∷◌, ◌++◌, length, get_or, set, reverse, refl, sym, ◌∙◌, ap, subst}
use Rattle.std.proofs.lemmas.Bool.{cases_eq}
use Rattle.flow_disk.specs.Disk.{Held, IsImage, IsDiskImage, changed}
use Rattle.flow_disk.specs.Moments.{Elapses, Covers}
use Rattle.flow_disk.proofs.Images.{changed_here, changed_there}
use Rattle.flow_directory.specs.File.{File, held_of}
use Rattle.flow_memory_directory.specs.declared.deed.Deed.{Deed}
use Rattle.flow_memory_directory.specs.declared.deed.Deed.TheVariants.{Wrote, Cut, Settled, Unlinked}
use Rattle.flow_memory_directory.specs.declared.memory.MemoryDirectory.{MemoryDirectory}
use Rattle.flow_memory_directory.specs.declared.node.Node.{Node}
use Rattle.flow_memory_directory.specs.Bound.{file_of, made, bound, reading, LeftSince, IsSound}
use Rattle.flow_memory_directory.specs.Nodes.{looked, octets_in, device_in, file_in, no_file}
use Rattle.flow_memory_directory.specs.Views.{files_in, AllSound}
use Rattle.flow_memory_directory.specs.Memory.{deeds_of, files_of, moment_of, left_of, Changes, Keeps}
use Rattle.flow_memory_directory.proofs.Images.{to_reading, of_reading}
use Rattle.flow_memory_directory.proofs.Steps.{NodeStep, step_sound, step_other, step_rule}
use Rattle.flow_memory_directory.proofs.Steps.{bound_here, bound_there, pushed, was_sound, looked_here}
use Rattle.flow_memory_directory.proofs.Time.{elapses_still, elapses_more, covers_more}

-- what is held of a file
pub held_is : (h : Held) (nodes : List Node) (n : ℕ)
    → (looked (file_in h) (no_file h) nodes n).held ≡ reading h (looked octets_in [] nodes n)
held_is h [] n = refl
held_is h (node ∷ nodes) zero = refl
held_is h (node ∷ nodes) (suc n) = held_is h nodes n

pub to_held : (nodes : List Node) (deeds : List Deed) (n : ℕ) (image : List ℕ) → IsImage (bound deeds n) image
    → IsImage (files_in nodes deeds n).held image
to_held nodes deeds n image is = subst (λ (h : Held). IsImage h image) (sym (held_is (bound deeds n) nodes n))
    (to_reading (bound deeds n) (looked octets_in [] nodes n) image is)

pub of_held : (nodes : List Node) (deeds : List Deed) (n : ℕ) (image : List ℕ)
    → IsImage (files_in nodes deeds n).held image → IsImage (bound deeds n) image
of_held nodes deeds n image is = of_reading (bound deeds n) (looked octets_in [] nodes n) image
    (subst (λ (h : Held). IsImage h image) (held_is (bound deeds n) nodes n) is)

-- what a call makes of what a stop may leave doesn't depend on what is read
to_made : (h : Held) (r : List ℕ) (deed : Deed) (image : List ℕ) → IsImage (made h deed) image
    → IsImage (made (reading h r) deed) image
to_made h r (Wrote file at count) image is = record { long = is.long; end = is.end; same = is.same }
to_made h r (Cut file count) image is = record { long = is.long; end = is.end; same = is.same }
to_made h r (Settled file octets) image is = is
to_made h r (Unlinked file) image is = record { long = is.long; end = is.end; same = is.same }

of_made : (h : Held) (r : List ℕ) (deed : Deed) (image : List ℕ) → IsImage (made (reading h r) deed) image
    → IsImage (made h deed) image
of_made h r (Wrote file at count) image is = record { long = is.long; end = is.end; same = is.same }
of_made h r (Cut file count) image is = record { long = is.long; end = is.end; same = is.same }
of_made h r (Settled file octets) image is = is
of_made h r (Unlinked file) image is = record { long = is.long; end = is.end; same = is.same }

module _ (nodes : List Node) (deeds : List Deed) (deed : Deed) where
  files : ℕ → Held
  files = held_of (files_in nodes deeds)

  during : ℕ → Held
  during = changed files (file_of deed) (made (files (file_of deed)) deed)

  pub inside : (image : ℕ → List ℕ) → ((n : ℕ) → IsImage (bound (deed ∷ deeds) n) (image n))
      → IsDiskImage (changed (held_of (files_in nodes deeds)) (file_of deed)
      (made (files_in nodes deeds (file_of deed)).held deed)) image
  unfolding files during
  inside image is n = ⊎_elim
      (λ same. subst (λ (k : ℕ). IsImage (during k) (image k)) (sym same)
      (subst (λ (h : Held). IsImage h (image (file_of deed)))
      (sym (changed_here files (file_of deed) (made (files (file_of deed)) deed)))
      (subst (λ (h : Held). IsImage (made h deed) (image (file_of deed)))
      (sym (held_is (bound deeds (file_of deed)) nodes (file_of deed)))
      (to_made (bound deeds (file_of deed)) (looked octets_in [] nodes (file_of deed)) deed (image (file_of deed))
      (subst (λ (h : Held). IsImage h (image (file_of deed))) (bound_here deeds deed (file_of deed) refl)
      (is (file_of deed)))))))
      (λ differs. subst (λ (h : Held). IsImage h (image n))
      (sym (changed_there files (file_of deed) (made (files (file_of deed)) deed) n differs))
      (to_held nodes deeds n (image n)
      (subst (λ (h : Held). IsImage h (image n)) (bound_there deeds deed n differs) (is n))))
      (cases_eq n (file_of deed))

  pub outside : (image : ℕ → List ℕ) → IsDiskImage (changed (held_of (files_in nodes deeds)) (file_of deed)
      (made (files_in nodes deeds (file_of deed)).held deed)) image
      → (n : ℕ) → IsImage (bound (deed ∷ deeds) n) (image n)
  unfolding files
  outside image is n = ⊎_elim
      (λ same. subst (λ (k : ℕ). IsImage (bound (deed ∷ deeds) k) (image k)) (sym same)
      (subst (λ (h : Held). IsImage h (image (file_of deed))) (sym (bound_here deeds deed (file_of deed) refl))
      (of_made (bound deeds (file_of deed)) (looked octets_in [] nodes (file_of deed)) deed (image (file_of deed))
      (subst (λ (h : Held). IsImage (made h deed) (image (file_of deed)))
      (held_is (bound deeds (file_of deed)) nodes (file_of deed))
      (subst (λ (h : Held). IsImage h (image (file_of deed)))
      (changed_here files (file_of deed) (made (files (file_of deed)) deed)) (is (file_of deed)))))))
      (λ differs. subst (λ (h : Held). IsImage h (image n)) (sym (bound_there deeds deed n differs))
      (of_held nodes deeds n (image n)
      (subst (λ (h : Held). IsImage h (image n))
      (changed_there files (file_of deed) (made (files (file_of deed)) deed) n differs) (is n))))
      (cases_eq n (file_of deed))

-- the node that a call changed, and the calls before and after it
module _ (old new : MemoryDirectory) (i : ℕ) (was to : Node) (after : List Deed)
    (nodes : new.nodes.items ≡ set old.nodes.items i to) (deeds : deeds_of new ≡ after)
    (step : NodeStep old.nodes.items i was to (deeds_of old) after) where
  pub here_by : (rule : File → File → Type 0)
      → rule (file_in (bound (deeds_of old) i) was) (file_in (bound after i) to) → rule (files_of old i) (files_of new i)
  here_by rule holds = subst (λ (l : List Node). rule (files_of old i) (files_in l (deeds_of new) i)) (sym nodes)
      (subst (λ (l : List Deed). rule (files_of old i) (files_in (set old.nodes.items i to) l i)) (sym deeds)
      (step_rule old.nodes.items i was to (deeds_of old) after step rule holds))

  pub others_by : (n : ℕ) → n ≢ i → files_of new n ≡ files_of old n
  others_by n differs = ap (λ (l : List Node). files_in l (deeds_of new) n) nodes
      ∙ ap (λ (l : List Deed). files_in (set old.nodes.items i to) l n) deeds
      ∙ step_other old.nodes.items i was to (deeds_of old) after step n differs

  pub sound_by : AllSound old.nodes.items (deeds_of old) → AllSound new.nodes.items (deeds_of new)
  sound_by all = subst (λ (l : List Node). AllSound l (deeds_of new)) (sym nodes)
      (subst (λ (l : List Deed). AllSound (set old.nodes.items i to) l) (sym deeds)
      (step_sound old.nodes.items i was to (deeds_of old) after step all))

-- a call that the log has
module _ (old new : MemoryDirectory) (was to : Node) (deed : Deed)
    (nodes : new.nodes.items ≡ set old.nodes.items (file_of deed) to) (log : new.log.items ≡ old.log.items ++ deed ∷ [])
    (lt : file_of deed < length old.nodes.items) (stood : was ≡ get_or old.nodes.items (file_of deed) was)
    (sound : IsSound (made (bound (deeds_of old) (file_of deed)) deed) (octets_in to) (device_in to)) where
  after : deeds_of new ≡ deed ∷ deeds_of old
  after = ap reverse log ∙ pushed old.log.items deed

  pub told_step : NodeStep old.nodes.items (file_of deed) was to (deeds_of old) (deed ∷ deeds_of old)
  told_step = record {
    within = lt;
    stood = stood;
    others = λ n differs. bound_there (deeds_of old) deed n differs;
    sound = subst (λ (h : Held). IsSound h (octets_in to) (device_in to))
        (sym (bound_here (deeds_of old) deed (file_of deed) refl)) sound;
  }

  pub told_sound : AllSound old.nodes.items (deeds_of old) → AllSound new.nodes.items (deeds_of new)
  told_sound = sound_by old new (file_of deed) was to (deed ∷ deeds_of old) nodes after told_step

  pub changes_by : (rule : File → File → Type 0)
      → rule (file_in (bound (deeds_of old) (file_of deed)) was)
      (file_in (made (bound (deeds_of old) (file_of deed)) deed) to)
      → Changes old new (file_of deed) rule (made (files_of old (file_of deed)).held deed)
  changes_by rule holds = record {
    here = here_by old new (file_of deed) was to (deed ∷ deeds_of old) nodes after told_step rule
        (subst (λ (h : Held). rule (file_in (bound (deeds_of old) (file_of deed)) was) (file_in h to))
        (sym (bound_here (deeds_of old) deed (file_of deed) refl)) holds);
    others = others_by old new (file_of deed) was to (deed ∷ deeds_of old) nodes after told_step;
    time = subst (λ (l : List Deed). Elapses (moment_of old) (length l) (left_of old) (LeftSince l)
        (changed (held_of (files_of old)) (file_of deed) (made (files_of old (file_of deed)).held deed))) (sym after)
        (elapses_more (deeds_of old) deed
        (changed (held_of (files_of old)) (file_of deed) (made (files_of old (file_of deed)).held deed))
        (inside old.nodes.items (deeds_of old) deed));
    covered = subst (λ (l : List Deed). Covers (moment_of old) (LeftSince l)
        (changed (held_of (files_of old)) (file_of deed) (made (files_of old (file_of deed)).held deed))) (sym after)
        (covers_more (deeds_of old) deed
        (changed (held_of (files_of old)) (file_of deed) (made (files_of old (file_of deed)).held deed))
        (outside old.nodes.items (deeds_of old) deed));
  }

-- a call that it has not
module _ (old new : MemoryDirectory) (i : ℕ) (was to : Node)
    (nodes : new.nodes.items ≡ set old.nodes.items i to) (log : new.log.items ≡ old.log.items)
    (lt : i < length old.nodes.items) (stood : was ≡ get_or old.nodes.items i was)
    (sound : IsSound (bound (deeds_of old) i) (octets_in to) (device_in to)) where
  still : deeds_of new ≡ deeds_of old
  still = ap reverse log

  still_step : NodeStep old.nodes.items i was to (deeds_of old) (deeds_of old)
  still_step = record { within = lt; stood = stood; others = λ n differs. refl; sound = sound }

  pub still_sound : AllSound old.nodes.items (deeds_of old) → AllSound new.nodes.items (deeds_of new)
  still_sound = sound_by old new i was to (deeds_of old) nodes still still_step

  pub keeps_by : (rule : File → File → Type 0)
      → rule (file_in (bound (deeds_of old) i) was) (file_in (bound (deeds_of old) i) to)
      → Keeps old new i rule
  keeps_by rule holds = record {
    here = here_by old new i was to (deeds_of old) nodes still still_step rule holds;
    others = others_by old new i was to (deeds_of old) nodes still still_step;
    time = subst (λ (l : List Deed). Elapses (moment_of old) (length l) (left_of old) (LeftSince l)
        (held_of (files_of old))) (sym still) (elapses_still (deeds_of old) (held_of (files_of old)));
  }

-- the node of a file
pub node_is : (directory : MemoryDirectory) (i : ℕ) (was : Node) → i < length directory.nodes.items
    → was ≡ get_or directory.nodes.items i was → files_of directory i ≡ file_in (bound (deeds_of directory) i) was
node_is directory i was lt stood =
    looked_here (file_in (bound (deeds_of directory) i)) (no_file (bound (deeds_of directory) i)) directory.nodes.items i
    was lt ∙ ap (file_in (bound (deeds_of directory) i)) (sym stood)

-- what it holds is sound
pub node_sound : (directory : MemoryDirectory) (i : ℕ) (was : Node) → i < length directory.nodes.items
    → was ≡ get_or directory.nodes.items i was
    → IsSound (bound (deeds_of directory) i) (octets_in was) (device_in was)
node_sound directory i was lt stood =
    was_sound directory.nodes.items i was (deeds_of directory) lt stood directory.sound

-- the same octets, and the same on the device
pub sound_same : (h : Held) (was to : Node) → IsSound h (octets_in was) (device_in was)
    → octets_in to ≡ octets_in was → device_in to ≡ device_in was → IsSound h (octets_in to) (device_in to)
sound_same h was to sound octets device = subst (λ (l : List ℕ). IsSound h l (device_in to)) (sym octets)
    (subst (λ (l : List ℕ). IsSound h (octets_in was) l) (sym device) sound)

-- a call that the log has, after which a stop leaves no more than before
module _ (old new : MemoryDirectory) (was to : Node) (deed : Deed)
    (nodes : new.nodes.items ≡ set old.nodes.items (file_of deed) to) (log : new.log.items ≡ old.log.items ++ deed ∷ [])
    (lt : file_of deed < length old.nodes.items) (stood : was ≡ get_or old.nodes.items (file_of deed) was)
    (sound : IsSound (made (bound (deeds_of old) (file_of deed)) deed) (octets_in to) (device_in to))
    (fewer : (image : List ℕ) → IsImage (made (bound (deeds_of old) (file_of deed)) deed) image
    → IsImage (bound (deeds_of old) (file_of deed)) image) where
  among : (image : ℕ → List ℕ) → ((n : ℕ) → IsImage (bound (deed ∷ deeds_of old) n) (image n))
      → IsDiskImage (held_of (files_of old)) image
  among image is n = ⊎_elim
      (λ same. subst (λ (k : ℕ). IsImage (files_of old k).held (image k)) (sym same)
      (to_held old.nodes.items (deeds_of old) (file_of deed) (image (file_of deed))
      (fewer (image (file_of deed)) (subst (λ (h : Held). IsImage h (image (file_of deed)))
      (bound_here (deeds_of old) deed (file_of deed) refl) (is (file_of deed))))))
      (λ differs. to_held old.nodes.items (deeds_of old) n (image n)
      (subst (λ (h : Held). IsImage h (image n)) (bound_there (deeds_of old) deed n differs) (is n)))
      (cases_eq n (file_of deed))

  pub keeps_told : (rule : File → File → Type 0)
      → rule (file_in (bound (deeds_of old) (file_of deed)) was)
      (file_in (made (bound (deeds_of old) (file_of deed)) deed) to)
      → Keeps old new (file_of deed) rule
  keeps_told rule holds =
      let changes = changes_by old new was to deed nodes log lt stood sound rule holds in
      record {
        here = changes.here;
        others = changes.others;
        time = subst (λ (l : List Deed). Elapses (moment_of old) (length l) (left_of old) (LeftSince l)
            (held_of (files_of old))) (sym (ap reverse log ∙ pushed old.log.items deed))
            (elapses_more (deeds_of old) deed (held_of (files_of old)) among);
      }
