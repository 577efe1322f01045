-- A call that changes the node at a place that was looked up.
use Rattle.std.proofs.Common.{◌≡◌, ℕ, ◌<◌, List, [], ◌∷◌, ◌++◌, length, get_or, set, reverse, refl, sym, ◌∙◌, ap, subst}
use Rattle.std.proofs.Common.{Result, Ok, Err, OnOk, OnErr}
use Rattle.std.proofs.lemmas.List.{set-get_or}
use Rattle.flow_memory_directory.proofs.Time.{elapses_still}
use Rattle.flow_disk.specs.Disk.{Held, IsImage}
use Rattle.flow_directory.specs.File.{File, held_of}
use Rattle.flow_memory_directory.specs.declared.deed.Deed.{Deed}
use Rattle.flow_memory_directory.specs.declared.memory.MemoryDirectory.{MemoryDirectory}
use Rattle.flow_memory_directory.specs.declared.node.Node.{Node}
use Rattle.flow_memory_directory.specs.Bound.{file_of, made, bound, IsSound}
use Rattle.flow_memory_directory.specs.Nodes.{octets_in, device_in, file_in}
use Rattle.flow_memory_directory.specs.Views.{AllSound}
use Rattle.flow_memory_directory.specs.Memory.{deeds_of, files_of, Changes, Keeps}
use Rattle.flow_memory_directory.proofs.Changing.{changes_by, keeps_by, keeps_told, node_is, node_sound}
use Rattle.flow_memory_directory.proofs.Steps.{step_sound, bound_here, bound_there, pushed}

module _ (old : MemoryDirectory) (index file : ℕ) (was : Node) (same : index ≡ file)
    (lt : index < length old.nodes.items) (stood : was ≡ get_or old.nodes.items index was) where
  pub lt_at : file < length old.nodes.items
  lt_at = subst (λ (k : ℕ). k < length old.nodes.items) same lt

  pub stood_at : was ≡ get_or old.nodes.items file was
  stood_at = subst (λ (k : ℕ). was ≡ get_or old.nodes.items k was) same stood

  pub sound_at : IsSound (bound (deeds_of old) file) (octets_in was) (device_in was)
  sound_at = node_sound old file was lt_at stood_at

  pub file_at : files_of old file ≡ file_in (bound (deeds_of old) file) was
  file_at = node_is old file was lt_at stood_at

  -- the log is as it was
  module _ (to : Node) (sound : IsSound (bound (deeds_of old) file) (octets_in to) (device_in to)) where
    pub still_all : AllSound (set old.nodes.items index to) (deeds_of old)
    still_all = subst (λ (k : ℕ). AllSound (set old.nodes.items k to) (deeds_of old)) (sym same)
        (step_sound old.nodes.items file was to (deeds_of old) (deeds_of old) (record {
          within = lt_at;
          stood = stood_at;
          others = λ n differs. refl;
          sound = sound;
        }) old.sound)

    pub keeps_at : (new : MemoryDirectory) → new.nodes.items ≡ set old.nodes.items index to
        → new.log.items ≡ old.log.items → (rule : File → File → Type 0)
        → rule (file_in (bound (deeds_of old) file) was) (file_in (bound (deeds_of old) file) to)
        → Keeps old new file rule
    keeps_at new nodes log rule holds =
        keeps_by old new file was to (nodes ∙ ap (λ (k : ℕ). set old.nodes.items k to) same) log lt_at stood_at sound rule
        holds

-- the log has the call
module _ (old : MemoryDirectory) (index : ℕ) (was to : Node) (deed : Deed) (same : index ≡ file_of deed)
    (lt : index < length old.nodes.items) (stood : was ≡ get_or old.nodes.items index was)
    (sound : IsSound (made (bound (deeds_of old) (file_of deed)) deed) (octets_in to) (device_in to)) where
  pub told_all : (log : List Deed) → log ≡ old.log.items ++ deed ∷ []
      → AllSound (set old.nodes.items index to) (reverse log)
  told_all log is = subst (λ (k : ℕ). AllSound (set old.nodes.items k to) (reverse log)) (sym same)
      (subst (λ (l : List Deed). AllSound (set old.nodes.items (file_of deed) to) l)
      (sym (ap reverse is ∙ pushed old.log.items deed))
      (step_sound old.nodes.items (file_of deed) was to (deeds_of old) (deed ∷ deeds_of old) (record {
        within = lt_at old index (file_of deed) was same lt stood;
        stood = stood_at old index (file_of deed) was same lt stood;
        others = λ n differs. bound_there (deeds_of old) deed n differs;
        sound = subst (λ (h : Held). IsSound h (octets_in to) (device_in to))
            (sym (bound_here (deeds_of old) deed (file_of deed) refl)) sound;
      }) old.sound))

  pub changes_at : (new : MemoryDirectory) → new.nodes.items ≡ set old.nodes.items index to
      → new.log.items ≡ old.log.items ++ deed ∷ [] → (rule : File → File → Type 0)
      → rule (file_in (bound (deeds_of old) (file_of deed)) was)
      (file_in (made (bound (deeds_of old) (file_of deed)) deed) to)
      → Changes old new (file_of deed) rule (made (files_of old (file_of deed)).held deed)
  changes_at new nodes log rule holds =
      changes_by old new was to deed (nodes ∙ ap (λ (k : ℕ). set old.nodes.items k to) same) log
      (lt_at old index (file_of deed) was same lt stood) (stood_at old index (file_of deed) was same lt stood) sound rule
      holds

  pub keeps_told_at : ((image : List ℕ) → IsImage (made (bound (deeds_of old) (file_of deed)) deed) image
      → IsImage (bound (deeds_of old) (file_of deed)) image)
      → (new : MemoryDirectory) → new.nodes.items ≡ set old.nodes.items index to
      → new.log.items ≡ old.log.items ++ deed ∷ [] → (rule : File → File → Type 0)
      → rule (file_in (bound (deeds_of old) (file_of deed)) was)
      (file_in (made (bound (deeds_of old) (file_of deed)) deed) to)
      → Keeps old new (file_of deed) rule
  keeps_told_at fewer new nodes log rule holds =
      keeps_told old new was to deed (nodes ∙ ap (λ (k : ℕ). set old.nodes.items k to) same) log
      (lt_at old index (file_of deed) was same lt stood) (stood_at old index (file_of deed) was same lt stood) sound fewer
      rule holds

-- whichever the answer was
pub sound_either : {T E : Type 0} (h : Held) (was to : Node) (r : Result T E)
    → IsSound h (octets_in was) (device_in was)
    → OnOk r (IsSound h (octets_in to) (device_in to)) → OnErr r (to ≡ was)
    → IsSound h (octets_in to) (device_in to)
sound_either h was to (Ok x) sound done failed = done
sound_either h was to (Err e) sound done failed =
    subst (λ (n : Node). IsSound h (octets_in n) (device_in n)) (sym failed) sound

-- from what an answer Ok says
pub on_ok : {T E : Type 0} {A B : Type 0} (r : Result T E) → (A → B) → OnOk r A → OnOk r B
on_ok (Ok x) f is = f is
on_ok (Err e) f is = tt

pub on_both : {T E : Type 0} {A B C : Type 0} (r : Result T E) → (A → B → C) → OnOk r A → OnOk r B → OnOk r C
on_both (Ok x) f a b = f a b
on_both (Err e) f a b = tt

-- the log has the call, and the node is as it was
set_same : (nodes : List Node) (index : ℕ) (was : Node) → was ≡ get_or nodes index was → set nodes index was ≡ nodes
set_same nodes index was stood = ap (λ (n : Node). set nodes index n) stood ∙ set-get_or nodes index was

module _ (old : MemoryDirectory) (index : ℕ) (was : Node) (deed : Deed) (same : index ≡ file_of deed)
    (lt : index < length old.nodes.items) (stood : was ≡ get_or old.nodes.items index was)
    (sound : IsSound (made (bound (deeds_of old) (file_of deed)) deed) (octets_in was) (device_in was)) where
  pub noted_all : (log : List Deed) → log ≡ old.log.items ++ deed ∷ [] → AllSound old.nodes.items (reverse log)
  noted_all log is = subst (λ (l : List Node). AllSound l (reverse log)) (set_same old.nodes.items index was stood)
      (told_all old index was was deed same lt stood sound log is)

  pub keeps_noted : ((image : List ℕ) → IsImage (made (bound (deeds_of old) (file_of deed)) deed) image
      → IsImage (bound (deeds_of old) (file_of deed)) image)
      → (new : MemoryDirectory) → new.nodes.items ≡ old.nodes.items
      → new.log.items ≡ old.log.items ++ deed ∷ [] → (rule : File → File → Type 0)
      → rule (file_in (bound (deeds_of old) (file_of deed)) was)
      (file_in (made (bound (deeds_of old) (file_of deed)) deed) was)
      → Keeps old new (file_of deed) rule
  keeps_noted fewer new nodes log rule holds = keeps_told_at old index was was deed same lt stood sound fewer new
      (nodes ∙ sym (set_same old.nodes.items index was stood)) log rule holds

  pub changes_noted : (new : MemoryDirectory) → new.nodes.items ≡ old.nodes.items
      → new.log.items ≡ old.log.items ++ deed ∷ [] → (rule : File → File → Type 0)
      → rule (file_in (bound (deeds_of old) (file_of deed)) was)
      (file_in (made (bound (deeds_of old) (file_of deed)) deed) was)
      → Changes old new (file_of deed) rule (made (files_of old (file_of deed)).held deed)
  changes_noted new nodes log rule holds = changes_at old index was was deed same lt stood sound new
      (nodes ∙ sym (set_same old.nodes.items index was stood)) log rule holds

-- nothing was changed
pub keeps_none : (directory : MemoryDirectory) (file : ℕ) (rule : File → File → Type 0)
    → rule (files_of directory file) (files_of directory file) → Keeps directory directory file rule
keeps_none directory file rule holds = record {
  here = holds;
  others = λ n differs. refl;
  time = elapses_still (deeds_of directory) (held_of (files_of directory));
}
