-- What a sync of the directory makes of all files.
use Rattle.std.proofs.Common.{◌≡◌, ◌≢◌, inl, ⊎_elim, ℕ, ◌+◌, ◌<◌, ◌≤◌, true, false, List, [], ◌∷◌}
use Rattle.std.proofs.Common.{length, get_or, set, refl, sym, ◌∙◌, ap, subst, arith, Ok, Err}
use Rattle.std.proofs.lemmas.Bool.{cases_lt, cases_eq, false≢true}
use Rattle.std.proofs.lemmas.List.{length-set, get_or-set_same, get_or-set_other, get_or_default}
use Rattle.flow_disk.specs.Disk.{Held, IsImage}
use Rattle.flow_directory.specs.File.{File}
use Rattle.flow_directory.specs.Calls.{Entering, Lending}
use Rattle.flow_memory_directory.specs.declared.memory.MemoryDirectory.{MemoryDirectory}
use Rattle.flow_memory_directory.specs.Memory.{deeds_of, files_of}
use Rattle.flow_memory_directory.specs.declared.deed.Deed.{Deed}
use Rattle.flow_memory_directory.specs.declared.mark.Mark.{Mark}
use Rattle.flow_memory_directory.specs.declared.mark.Mark.TheVariants.{Clean, Dirty, Lost}
use Rattle.flow_memory_directory.specs.declared.node.Node.{Node}
use Rattle.flow_memory_directory.specs.Bound.{bound, IsSound}
use Rattle.flow_memory_directory.specs.Marks.{is_dirty}
use Rattle.flow_memory_directory.specs.Nodes.{looked, octets_in, device_in, file_in, no_file, AllNodes, AllSoFar, NodeEnters}
use Rattle.flow_memory_directory.specs.Nodes.{NodeMisses}
use Rattle.flow_memory_directory.specs.Views.{files_in, AllSound}
use Rattle.flow_memory_directory.proofs.Steps.{looked_here, looked_past}

some_node : (nodes : List Node) → 0 < length nodes → Node
some_node [] lt = absurd (omega (arith, lt))
some_node (node ∷ nodes) lt = node

module _ (became : Node → Node → Type 0) (old new : List Node) (all : AllNodes became old new) where
  pub all_rule : (rule : File → File → Type 0) (deeds : List Deed)
      → ((h : Held) (was to : Node) → became was to → rule (file_in h was) (file_in h to))
      → ((h : Held) → rule (no_file h) (no_file h))
      → (n : ℕ) → rule (files_in old deeds n) (files_in new deeds n)
  all_rule rule deeds step none n = ⊎_elim (λ lt. here lt) (λ le. past le) (cases_lt n (length old))
    where
      here : n < length old → rule (files_in old deeds n) (files_in new deeds n)
      here lt =
          let d = some_node old (omega (arith, lt)) in
          let h = bound deeds n in
          subst (λ (f : File). rule f (files_in new deeds n))
          (sym (looked_here (file_in h) (no_file h) old n d lt))
          (subst (λ (f : File). rule (file_in h (get_or old n d)) f)
          (sym (looked_here (file_in h) (no_file h) new n d (omega (arith, lt, all.long))))
          (step h (get_or old n d) (get_or new n d) (all.each n d lt)))

      past : length old ≤ n → rule (files_in old deeds n) (files_in new deeds n)
      past le =
          let h = bound deeds n in
          subst (λ (f : File). rule f (files_in new deeds n)) (sym (looked_past (file_in h) (no_file h) old n le))
          (subst (λ (f : File). rule (no_file h) f)
          (sym (looked_past (file_in h) (no_file h) new n (omega (arith, le, all.long)))) (none h))

  pub all_sound : (deeds : List Deed)
      → ((h : Held) (was to : Node) → became was to → IsSound h (octets_in was) (device_in was)
      → IsSound h (octets_in to) (device_in to))
      → AllSound old deeds → AllSound new deeds
  all_sound deeds step sound n = ⊎_elim (λ lt. here lt) (λ le. past le) (cases_lt n (length old))
    where
      here : n < length old → IsSound (bound deeds n) (looked octets_in [] new n) (looked device_in [] new n)
      here lt =
          let d = some_node old (omega (arith, lt)) in
          let h = bound deeds n in
          let was = subst (λ (l : List ℕ). IsSound h l (device_in (get_or old n d)))
          (looked_here octets_in [] old n d lt)
          (subst (λ (l : List ℕ). IsSound h (looked octets_in [] old n) l) (looked_here device_in [] old n d lt)
          (sound n)) in
          let now = step h (get_or old n d) (get_or new n d) (all.each n d lt) was in
          subst (λ (l : List ℕ). IsSound h l (looked device_in [] new n))
          (sym (looked_here octets_in [] new n d (omega (arith, lt, all.long))))
          (subst (λ (l : List ℕ). IsSound h (octets_in (get_or new n d)) l)
          (sym (looked_here device_in [] new n d (omega (arith, lt, all.long)))) now)

      past : length old ≤ n → IsSound (bound deeds n) (looked octets_in [] new n) (looked device_in [] new n)
      past le =
          let h = bound deeds n in
          subst (λ (l : List ℕ). IsSound h l (looked device_in [] new n))
          (looked_past octets_in [] old n le ∙ sym (looked_past octets_in [] new n (omega (arith, le, all.long))))
          (subst (λ (l : List ℕ). IsSound h (looked octets_in [] old n) l)
          (looked_past device_in [] old n le ∙ sym (looked_past device_in [] new n (omega (arith, le, all.long))))
          (sound n))

-- a name that is on the device now: the file has no octets
pub enters_sound : (h : Held) (was to : Node) → NodeEnters was to → IsSound h (octets_in was) (device_in was)
    → IsSound h (octets_in to) (device_in to)
enters_sound h was to enters sound = subst (λ (l : List ℕ). IsSound h l (device_in to)) (sym enters.octets_are)
    (by_entry was.entry refl)
  where
    same : was.entry ≢ Dirty → IsSound h (octets_in was) (device_in to)
    same differs = subst (λ (l : List ℕ). IsSound h (octets_in was) l) (sym (enters.device_is differs)) sound

    none : was.entry ≡ Dirty → octets_in was ≡ []
    none is = was.unnamed (λ clean. false≢true (ap is_dirty (sym clean ∙ is)))

    by_entry : (m : Mark) → was.entry ≡ m → IsSound h (octets_in was) (device_in to)
    by_entry Clean is = same (λ other. false≢true (ap is_dirty (sym is ∙ other)))
    by_entry Lost is = same (λ other. false≢true (ap is_dirty (sym is ∙ other)))
    by_entry Dirty is = record {
      memory = sound.memory;
      left = subst (λ (l : List ℕ). IsImage h l) (none is ∙ sym (enters.entered is)) sound.memory;
      within = sound.within;
      whole = sound.whole;
    }

pub misses_sound : (h : Held) (was to : Node) → NodeMisses was to → IsSound h (octets_in was) (device_in was)
    → IsSound h (octets_in to) (device_in to)
misses_sound h was to misses sound = subst (λ (l : List ℕ). IsSound h l (device_in to)) (sym misses.octets_are)
    (subst (λ (l : List ℕ). IsSound h (octets_in was) l) (sym misses.device_is) sound)

-- a file that the directory has no room for
pub entering_none : {E : Type 0} (h : Held) → Entering {T = Unit {0}} {E = E} (no_file h) (no_file h) (Ok tt)
entering_none h = record {
  clean = refl;
  lost = λ is. is;
  name = λ is. is;
  dirty_content = λ part content is. is;
  lost_content = λ part content is. is;
  status = record { linked = refl; read_only = refl; lent = refl };
}

pub missing_none : {T E : Type 0} (e : E) (h : Held) → Entering {T = T} {E = E} (no_file h) (no_file h) (Err e)
missing_none e h = record {
  clean = tt;
  lost = tt;
  name = λ is. is;
  dirty_content = λ part content is. is;
  lost_content = λ part content is. is;
  status = record { linked = refl; read_only = refl; lent = refl };
}

-- a file that the directory has no room for isn't lent
pub no_room : (directory : MemoryDirectory) (file : ℕ) → length directory.nodes.items ≤ file
    → Lending (files_of directory file) (files_of directory file) false
no_room directory file le = record {
  lent = ap (λ (f : File). f.lent) (looked_past (file_in (bound (deeds_of directory) file))
      (no_file (bound (deeds_of directory) file)) directory.nodes.items file le);
  held = refl;
  parts = record { dirty = λ part d. inl d; lost = λ part l. l };
  linked = refl;
  read_only = refl;
}

-- a file that has a name has room
pub linked_within : (directory : MemoryDirectory) (n : ℕ) → (files_of directory n).linked ≡ true
    → n < length directory.nodes.items
linked_within directory n linked = ⊎_elim (λ lt. lt)
    (λ past. absurd (false≢true (sym (ap (λ (f : File). f.linked) (looked_past (file_in (bound (deeds_of directory) n))
    (no_file (bound (deeds_of directory) n)) directory.nodes.items n past)) ∙ linked)))
    (cases_lt n (length directory.nodes.items))

-- one node more
module _ (became : Node → Node → Type 0) (old now : List Node) (place : ℕ) (was to : Node)
    (so_far : AllSoFar became old now place) (lt : place < length now) (stood : was ≡ get_or now place was)
    (step : became was to) where
  pub all_more : AllSoFar became old (set now place to) (place + 1)
  all_more = record {
    long = length-set now place to ∙ so_far.long;
    done = λ k d less. ⊎_elim (λ same. here k d same) (λ differs. there k d less differs) (cases_eq k place);
    rest = λ k d le. get_or-set_other now place k to d (λ same. absurd (omega (arith, le, same)))
        ∙ so_far.rest k d (omega (arith, le));
  }
    where
      here : (k : ℕ) (d : Node) → k ≡ place → became (get_or old k d) (get_or (set now place to) k d)
      here k d same = subst (λ (i : ℕ). became (get_or old i d) (get_or (set now place to) i d)) (sym same)
          (subst (λ (n : Node). became n (get_or (set now place to) place d))
          (stood ∙ get_or_default now place was d lt ∙ so_far.rest place d (omega arith))
          (subst (λ (n : Node). became was n) (sym (get_or-set_same now place to d lt)) step))

      there : (k : ℕ) (d : Node) → k < place + 1 → k ≢ place → became (get_or old k d) (get_or (set now place to) k d)
      there k d less differs = subst (λ (n : Node). became (get_or old k d) n)
          (sym (get_or-set_other now place k to d differs)) (so_far.done k d (omega (arith, less, differs)))

pub all_begin : (became : Node → Node → Type 0) (old : List Node) → AllSoFar became old old 0
all_begin became old = record { long = refl; done = λ k d less. absurd (omega (arith, less)); rest = λ k d le. refl }

pub all_end : (became : Node → Node → Type 0) (old now : List Node) (place : ℕ) → AllSoFar became old now place
    → length old ≤ place → AllNodes became old now
all_end became old now place so_far le =
    record { long = so_far.long; each = λ k d less. so_far.done k d (omega (arith, less, le)) }
