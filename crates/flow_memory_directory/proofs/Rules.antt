-- Each rule, of what a call makes of a node.
use Rattle.std.proofs.Common.{◌≡◌, ◌⊎◌, inl, inr, ⊎_elim, ℕ, ◌+◌, Bool, true, false, List, ◌++◌}
use Rattle.std.proofs.Common.{length, take, drop, refl, sym, ◌∙◌, ap, subst, arith, Ok, Err}
use Rattle.std.proofs.Common.{length-take, append_assoc}
use Rattle.std.proofs.lemmas.List.{get_or-take, get_or_past, take_all, take-append-drop, drop-drop}
use Rattle.std.proofs.lemmas.Bool.{cases_lt, false≢true}
use Rattle.flow_disk.specs.Disk.{Held, IsImage, settled_at, touched_at, loosened_at, put_at}
use Rattle.flow_disk.proofs.Images.{settled_one}
use Rattle.flow_directory.specs.File.{Part, octet, size, entry, IsContent, IsClean, IsUnsure}
use Rattle.flow_directory.specs.Calls.{IsPut, IsSize, Dirties, Loses, KeepsStatus}
use Rattle.flow_directory.specs.Calls.{Writing, Rewriting, Truncating, Retruncating, Syncing, Opening}
use Rattle.flow_memory_directory.specs.declared.mark.Mark.{Mark}
use Rattle.flow_memory_directory.specs.declared.mark.Mark.TheVariants.{Clean, Dirty, Lost}
use Rattle.flow_memory_directory.specs.declared.node.Node.{Node}
use Rattle.flow_memory_directory.specs.Bound.{reading, IsSound}
use Rattle.flow_memory_directory.specs.Marks.{is_dirty, is_lost, after_sync, after_failure, mark_at}
use Rattle.flow_memory_directory.specs.Nodes.{file_in, mark_of, KeepsRest, NodeWrites, NodeCuts, NodeSyncs}
use Rattle.flow_memory_directory.specs.Nodes.{NodeFails, NodeFalls, IsNodeWhole, IsNodeClean}
use Rattle.flow_memory_directory.proofs.Images.{of_reading, to_reading}

-- marks
pub clean_by : (m : Mark) → is_dirty m ≡ false → is_lost m ≡ false → m ≡ Clean
clean_by Clean d l = refl
clean_by Dirty d l = absurd (false≢true (sym d))
clean_by Lost d l = absurd (false≢true (sym l))

pub not_dirty : (m : Mark) → is_dirty (after_sync m) ≡ false
not_dirty Clean = refl
not_dirty Dirty = refl
not_dirty Lost = refl

pub still_lost : (m : Mark) → is_lost (after_sync m) ≡ is_lost m
still_lost Clean = refl
still_lost Dirty = refl
still_lost Lost = refl

pub not_dirty_then : (m : Mark) → is_dirty (after_failure m) ≡ false
not_dirty_then Clean = refl
not_dirty_then Dirty = refl
not_dirty_then Lost = refl

pub was_unsure : (m : Mark) → is_lost (after_failure m) ≡ true → (is_dirty m ≡ true) ⊎ (is_lost m ≡ true)
was_unsure Clean is = absurd (false≢true is)
was_unsure Dirty is = inl refl
was_unsure Lost is = inr refl

pub no : {A : Type 0} (b : Bool) → b ≡ false → b ≡ true → A
no b is other = absurd (false≢true (sym is ∙ other))

status : (hb ha : Held) (was to : Node) → KeepsRest was to → KeepsStatus (file_in hb was) (file_in ha to)
status hb ha was to rest = record { linked = rest.linked_is; read_only = rest.read_only_is; lent = rest.lent_is }

-- a write
module _ (hb ha : Held) (was to : Node) (at : ℕ) (octets : List ℕ) (writes : NodeWrites was to at octets) where
  put_dirty : (part : Part) → is_dirty (mark_of to part) ≡ true
      → (is_dirty (mark_of was part) ≡ true) ⊎ IsPut at (at + length octets) part
  put_dirty (octet place) is = ⊎_elim (λ lt. inl (sym (ap is_dirty (writes.marks_are.before place lt)) ∙ is))
      (λ ge. ⊎_elim (λ lt. inr (ge, lt)) (λ le. inl (sym (ap is_dirty (writes.marks_are.behind place le)) ∙ is))
      (cases_lt place (at + length octets)))
      (cases_lt place at)
  put_dirty size is = inr tt
  put_dirty entry is = inl (sym (ap is_dirty writes.rest.entry_is) ∙ is)

  put_lost : (part : Part) → is_lost (mark_of to part) ≡ true → is_lost (mark_of was part) ≡ true
  put_lost (octet place) is = ⊎_elim (λ lt. sym (ap is_lost (writes.marks_are.before place lt)) ∙ is)
      (λ ge. ⊎_elim (λ lt. no (is_lost (mark_at to.marks.items place))
      (ap is_lost (writes.marks_are.inside place ge lt)) is)
      (λ le. sym (ap is_lost (writes.marks_are.behind place le)) ∙ is)
      (cases_lt place (at + length octets)))
      (cases_lt place at)
  put_lost size is = sym writes.size_is ∙ is
  put_lost entry is = sym (ap is_lost writes.rest.entry_is) ∙ is

  put_parts : Dirties (file_in hb was) (file_in ha to) (IsPut at (at + length octets))
  put_parts = record { dirty = put_dirty; lost = put_lost }

  pub writing : {E : Type 0} → ha ≡ touched_at hb at (length octets) hb.reads
      → Writing {T = Unit {0}} {E = E} (file_in hb was) (file_in ha to) at octets (Ok tt)
  writing is = record {
    done = ap (λ (h : Held). reading h to.octets.items) is
        ∙ ap (λ (l : List ℕ). reading (touched_at hb at (length octets) hb.reads) l) writes.octets_are;
    failed = tt;
    mended = λ place among. ap is_lost (writes.marks_are.inside place among.0 among.1);
    parts = put_parts;
    status = status hb ha was to writes.rest;
  }

  pub rewriting : {E : Type 0} → ha ≡ hb → put_at was.octets.items at octets ≡ was.octets.items
      → Rewriting {T = Unit {0}} {E = E} (file_in hb was) (file_in ha to) at (length octets) (Ok tt)
  rewriting is same = record {
    held = ap (λ (h : Held). reading h to.octets.items) is ∙ ap (λ (l : List ℕ). reading hb l) (writes.octets_are ∙ same);
    mended = λ place among. ap is_lost (writes.marks_are.inside place among.0 among.1);
    parts = put_parts;
    status = status hb ha was to writes.rest;
  }

pub put_same : (old : List ℕ) (at : ℕ) (octets : List ℕ) → octets ≡ take (length octets) (drop at old)
    → put_at old at octets ≡ old
put_same old at octets is =
    ap (λ (l : List ℕ). take at old ++ l ++ drop (at + length octets) old) is
    ∙ append_assoc (take at old) (take (length octets) (drop at old)) (drop (at + length octets) old)
    ∙ ap (λ (l : List ℕ). take at old ++ (take (length octets) (drop at old) ++ l))
    (sym (drop-drop (length octets) at old))
    ∙ ap (λ (l : List ℕ). take at old ++ l) (take-append-drop (length octets) (drop at old))
    ∙ take-append-drop at old

-- a cut
module _ (hb ha : Held) (was to : Node) (count : ℕ) (cuts : NodeCuts was to count) where
  mark_cut : (place : ℕ) → (mark_at to.marks.items place ≡ mark_at was.marks.items place)
      ⊎ (mark_at to.marks.items place ≡ Clean)
  mark_cut place = ⊎_elim
      (λ lt. inl (ap (λ (l : List Mark). mark_at l place) cuts.marks_are ∙ get_or-take count was.marks.items place Clean lt))
      (λ ge. inr (ap (λ (l : List Mark). mark_at l place) cuts.marks_are
      ∙ get_or_past (take count was.marks.items) place Clean (omega (arith, length-take count was.marks.items, ge))))
      (cases_lt place count)

  cut_dirty : (part : Part) → is_dirty (mark_of to part) ≡ true → (is_dirty (mark_of was part) ≡ true) ⊎ IsSize part
  cut_dirty (octet place) is = ⊎_elim (λ same. inl (sym (ap is_dirty same) ∙ is))
      (λ clean. no (is_dirty (mark_at to.marks.items place)) (ap is_dirty clean) is) (mark_cut place)
  cut_dirty size is = inr tt
  cut_dirty entry is = inl (sym (ap is_dirty cuts.rest.entry_is) ∙ is)

  cut_lost : (part : Part) → is_lost (mark_of to part) ≡ true → is_lost (mark_of was part) ≡ true
  cut_lost (octet place) is = ⊎_elim (λ same. sym (ap is_lost same) ∙ is)
      (λ clean. no (is_lost (mark_at to.marks.items place)) (ap is_lost clean) is) (mark_cut place)
  cut_lost size is = no (is_lost to.size) (ap is_lost cuts.size_is) is
  cut_lost entry is = sym (ap is_lost cuts.rest.entry_is) ∙ is

  pub truncating : {E : Type 0} → ha ≡ loosened_at hb count hb.reads
      → Truncating {T = Unit {0}} {E = E} (file_in hb was) (file_in ha to) count (Ok tt)
  truncating is = record {
    done = ap (λ (h : Held). reading h to.octets.items) is
        ∙ ap (λ (l : List ℕ). reading (loosened_at hb count hb.reads) l) cuts.octets_are;
    failed = tt;
    mended = ap is_lost cuts.size_is;
    parts = record { dirty = cut_dirty; lost = cut_lost };
    status = status hb ha was to cuts.rest;
  }

  pub retruncating : {E : Type 0} → ha ≡ hb → count ≡ length was.octets.items
      → Retruncating {T = Unit {0}} {E = E} (file_in hb was) (file_in ha to) (Ok tt)
  retruncating is end = record {
    held = ap (λ (h : Held). reading h to.octets.items) is
        ∙ ap (λ (l : List ℕ). reading hb l) (cuts.octets_are ∙ take_all count was.octets.items (omega (arith, end)));
    mended = ap is_lost cuts.size_is;
    parts = record { dirty = cut_dirty; lost = cut_lost };
    status = status hb ha was to cuts.rest;
  }

-- a good sync
module _ (hb ha : Held) (was to : Node) (syncs : NodeSyncs was to) where
  synced_clean : (part : Part) → IsContent part → is_dirty (mark_of to part) ≡ false
  synced_clean (octet place) is = ap is_dirty (syncs.marks_are place) ∙ not_dirty (mark_at was.marks.items place)
  synced_clean size is = ap is_dirty syncs.size_is ∙ not_dirty was.size
  synced_clean entry is = absurd is

  synced_lost : (part : Part) → is_lost (mark_of to part) ≡ true → is_lost (mark_of was part) ≡ true
  synced_lost (octet place) is =
      sym (ap is_lost (syncs.marks_are place) ∙ still_lost (mark_at was.marks.items place)) ∙ is
  synced_lost size is = sym (ap is_lost syncs.size_is ∙ still_lost was.size) ∙ is
  synced_lost entry is = sym (ap is_lost syncs.rest.entry_is) ∙ is

  dirty_before : (part : Part) → is_dirty (mark_of to part) ≡ true → is_dirty (mark_of was part) ≡ true
  dirty_before (octet place) is = no (is_dirty (mark_at to.marks.items place)) (synced_clean (octet place) tt) is
  dirty_before size is = no (is_dirty to.size) (synced_clean size tt) is
  dirty_before entry is = sym (ap is_dirty syncs.rest.entry_is) ∙ is

  synced_parts : Loses (file_in hb was) (file_in ha to)
  synced_parts = record {
    each = λ part is. ⊎_elim (λ d. inl (dirty_before part d)) (λ l. inr (synced_lost part l)) is;
    dirty_entry = dirty_before entry;
    lost_entry = synced_lost entry;
  }

  pub syncing_whole : {E : Type 0} (device : List ℕ) → IsSound hb was.octets.items device
      → ha ≡ settled_at was.octets.items
      → Syncing {T = Unit {0}} {E = E} (file_in hb was) (file_in ha to) (Ok tt)
  syncing_whole device sound is = record {
    settled = λ whole named. ap (λ (h : Held). reading h to.octets.items) is
        ∙ ap (λ (l : List ℕ). reading (settled_at was.octets.items) l) syncs.octets_are;
    reads = syncs.octets_are;
    clean = synced_clean;
    lost = synced_lost;
    stays = λ _. syncs.octets_are;
    within = λ image among. to_reading hb was.octets.items image
        (subst (λ (l : List ℕ). IsImage hb l)
        (sym (settled_one was.octets.items image (subst (λ (h : Held). IsImage h image) is
        (of_reading ha to.octets.items image among)))) sound.memory);
    parts = synced_parts;
    status = status hb ha was to syncs.rest;
  }

  pub syncing_some : {E : Type 0} → ha ≡ hb → (IsNodeWhole was → ⊥)
      → Syncing {T = Unit {0}} {E = E} (file_in hb was) (file_in ha to) (Ok tt)
  syncing_some is not = record {
    settled = λ whole named. absurd (not (record {
      octets = λ place. whole (octet place);
      size_is = whole size;
      entry_is = clean_by was.entry named (whole entry);
    }));
    reads = syncs.octets_are;
    clean = synced_clean;
    lost = synced_lost;
    stays = λ _. syncs.octets_are;
    within = λ image among. to_reading hb was.octets.items image (subst (λ (h : Held). IsImage h image) is
        (of_reading ha to.octets.items image among));
    parts = synced_parts;
    status = status hb ha was to syncs.rest;
  }

-- a failed sync, and an opening
module _ (hb ha : Held) (was to : Node) (fails : NodeFails was to) where
  not_dirty_now : (part : Part) → IsContent part → is_dirty (mark_of to part) ≡ false
  not_dirty_now (octet place) is =
      ap is_dirty (fails.marks_are place) ∙ not_dirty_then (mark_at was.marks.items place)
  not_dirty_now size is = ap is_dirty fails.size_is ∙ not_dirty_then was.size
  not_dirty_now entry is = absurd is

  failed_each : (part : Part) → IsUnsure (file_in ha to) part → IsUnsure (file_in hb was) part
  failed_each (octet place) is = ⊎_elim
      (λ d. no (is_dirty (mark_at to.marks.items place)) (not_dirty_now (octet place) tt) d)
      (λ l. was_unsure (mark_at was.marks.items place) (sym (ap is_lost (fails.marks_are place)) ∙ l)) is
  failed_each size is = ⊎_elim (λ d. no (is_dirty to.size) (not_dirty_now size tt) d)
      (λ l. was_unsure was.size (sym (ap is_lost fails.size_is) ∙ l)) is
  failed_each entry is = ⊎_elim (λ d. inl (sym (ap is_dirty fails.rest.entry_is) ∙ d))
      (λ l. inr (sym (ap is_lost fails.rest.entry_is) ∙ l)) is

  failed_parts : Loses (file_in hb was) (file_in ha to)
  failed_parts = record {
    each = failed_each;
    dirty_entry = λ is. sym (ap is_dirty fails.rest.entry_is) ∙ is;
    lost_entry = λ is. sym (ap is_lost fails.rest.entry_is) ∙ is;
  }

  held_same : ha ≡ hb → reading ha to.octets.items ≡ reading hb was.octets.items
  held_same is = ap (λ (h : Held). reading h to.octets.items) is ∙ ap (λ (l : List ℕ). reading hb l) fails.octets_are

  pub sync_failed : {T E : Type 0} (e : E) → ha ≡ hb
      → Syncing {T = T} {E = E} (file_in hb was) (file_in ha to) (Err e)
  sync_failed e is = record {
    settled = tt;
    reads = tt;
    clean = tt;
    lost = tt;
    stays = λ _. fails.octets_are;
    within = λ image among. subst (λ (h : Held). IsImage h image) (held_same is) among;
    parts = failed_parts;
    status = status hb ha was to fails.rest;
  }

  pub opening : ha ≡ hb → Opening (file_in hb was) (file_in ha to)
  opening is = record { held = held_same is; parts = failed_parts; status = status hb ha was to fails.rest }

-- a failed sync, whose pages may have been dropped
module _ (h : Held) (was to : Node) (falls : NodeFalls was to) where
  fallen_dirty : (part : Part) → IsContent part → is_dirty (mark_of to part) ≡ false
  fallen_dirty (octet place) is =
      ap is_dirty (falls.marks_are place) ∙ not_dirty_then (mark_at was.marks.items place)
  fallen_dirty size is = ap is_dirty falls.size_is ∙ not_dirty_then was.size
  fallen_dirty entry is = absurd is

  fallen_each : (part : Part) → IsUnsure (file_in h to) part → IsUnsure (file_in h was) part
  fallen_each (octet place) is = ⊎_elim
      (λ d. no (is_dirty (mark_at to.marks.items place)) (fallen_dirty (octet place) tt) d)
      (λ l. was_unsure (mark_at was.marks.items place) (sym (ap is_lost (falls.marks_are place)) ∙ l)) is
  fallen_each size is = ⊎_elim (λ d. no (is_dirty to.size) (fallen_dirty size tt) d)
      (λ l. was_unsure was.size (sym (ap is_lost falls.size_is) ∙ l)) is
  fallen_each entry is = ⊎_elim (λ d. inl (sym (ap is_dirty falls.rest.entry_is) ∙ d))
      (λ l. inr (sym (ap is_lost falls.rest.entry_is) ∙ l)) is

  node_clean : IsClean (file_in h was) → IsNodeClean was
  node_clean clean = record {
    octets = λ place. let both = clean (octet place) tt in clean_by (mark_at was.marks.items place) both.0 both.1;
    size_is = let both = clean size tt in clean_by was.size both.0 both.1;
  }

  pub sync_fell : {T E : Type 0} (e : E) → Syncing {T = T} {E = E} (file_in h was) (file_in h to) (Err e)
  sync_fell e = record {
    settled = tt;
    reads = tt;
    clean = tt;
    lost = tt;
    stays = λ clean. falls.clean (node_clean clean);
    within = λ image among.
        to_reading h was.octets.items image (of_reading h to.octets.items image among);
    parts = record {
      each = fallen_each;
      dirty_entry = λ is. sym (ap is_dirty falls.rest.entry_is) ∙ is;
      lost_entry = λ is. sym (ap is_lost falls.rest.entry_is) ∙ is;
    };
    status = status h h was to falls.rest;
  }
