-- Each rule of a name, of what a call makes of a node.
use Rattle.std.proofs.Common.{◌≡◌, ◌⊎◌, inl, inr, ⊎_elim, ℕ, Bool, true, false, List, [], refl, sym, ◌∙◌, ap}
use Rattle.std.proofs.Common.{subst, Ok, Err}
use Rattle.std.proofs.lemmas.Bool.{false≢true}
use Rattle.flow_disk.specs.Disk.{Held}
use Rattle.flow_directory.specs.File.{Part, octet, size, entry, IsContent}
use Rattle.flow_directory.specs.Calls.{IsEntry, IsNothing, Dirties}
use Rattle.flow_directory.specs.Calls.{Creating, Unnaming, Unlinking, UnlinkingEmpty, Entering, ChangingMode, Lending}
use Rattle.flow_memory_directory.specs.declared.mark.Mark.{Mark}
use Rattle.flow_memory_directory.specs.declared.mark.Mark.TheVariants.{Clean, Dirty}
use Rattle.flow_memory_directory.specs.declared.node.Node.{Node}
use Rattle.flow_memory_directory.specs.Bound.{reading}
use Rattle.flow_memory_directory.specs.Marks.{is_dirty, is_lost, mark_at}
use Rattle.flow_memory_directory.specs.Nodes.{file_in, mark_of, device_in, NodeCreates, NodeUnlinks, NodeEnters, NodeMisses}
use Rattle.flow_memory_directory.specs.Nodes.{NodeKeeps}
use Rattle.flow_memory_directory.proofs.Images.{given_image}
use Rattle.flow_memory_directory.proofs.Rules.{no, not_dirty, still_lost, not_dirty_then, was_unsure}

-- the marks of no octets
module _ (to : Node) (none : to.marks.items ≡ []) where
  pub none_at : (place : ℕ) → mark_at to.marks.items place ≡ Clean
  none_at place = ap (λ (l : List Mark). mark_at l place) none

  pub none_dirty : {A : Type 0} (place : ℕ) → is_dirty (mark_at to.marks.items place) ≡ true → A
  none_dirty place is = no (is_dirty (mark_at to.marks.items place)) (ap is_dirty (none_at place)) is

  pub none_lost : {A : Type 0} (place : ℕ) → is_lost (mark_at to.marks.items place) ≡ true → A
  none_lost place is = no (is_lost (mark_at to.marks.items place)) (ap is_lost (none_at place)) is

module _ (hb ha : Held) (was to : Node) (none : to.marks.items ≡ []) (size_is : to.size ≡ Clean)
    (entry_is : to.entry ≡ Dirty) where
  fresh_dirty : (part : Part) → is_dirty (mark_of to part) ≡ true → (is_dirty (mark_of was part) ≡ true) ⊎ IsEntry part
  fresh_dirty (octet place) is = none_dirty to none place is
  fresh_dirty size is = no (is_dirty to.size) (ap is_dirty size_is) is
  fresh_dirty entry is = inr tt

  fresh_lost : (part : Part) → is_lost (mark_of to part) ≡ true → is_lost (mark_of was part) ≡ true
  fresh_lost (octet place) is = none_lost to none place is
  fresh_lost size is = no (is_lost to.size) (ap is_lost size_is) is
  fresh_lost entry is = no (is_lost to.entry) (ap is_lost entry_is) is

  pub fresh_parts : Dirties (file_in hb was) (file_in ha to) IsEntry
  fresh_parts = record { dirty = fresh_dirty; lost = fresh_lost }

  pub fresh_clean : (part : Part) → IsContent part
      → (is_dirty (mark_of to part) ≡ false) × (is_lost (mark_of to part) ≡ false)
  fresh_clean (octet place) is = (ap is_dirty (none_at to none place), ap is_lost (none_at to none place))
  fresh_clean size is = (ap is_dirty size_is, ap is_lost size_is)
  fresh_clean entry is = absurd is

-- a new name
pub creating : {E : Type 0} (hb ha : Held) (was to : Node) → NodeCreates was to → was.linked ≡ false → ha ≡ hb
    → Creating {T = Unit {0}} {E = E} (file_in hb was) (file_in ha to) (Ok tt)
creating hb ha was to creates absent is = record {
  absent = absent;
  linked = creates.linked_is;
  writable = creates.read_only_is;
  clean = fresh_clean hb ha was to creates.marks_are creates.size_is creates.entry_is;
  mended = ap is_lost creates.entry_is;
  held = ap (λ (h : Held). reading h to.octets.items) is
      ∙ ap (λ (l : List ℕ). reading hb l) (creates.octets_are ∙ sym (was.absent absent));
  parts = fresh_parts hb ha was to creates.marks_are creates.size_is creates.entry_is;
  lent = creates.lent_is;
}

-- a name that was taken away
module _ (hb ha : Held) (was to : Node) (unlinks : NodeUnlinks was to) (linked : was.linked ≡ true) where
  unnaming : {E : Type 0} → Unnaming {E = E} (file_in hb was) (file_in ha to) (Ok true)
  unnaming = record {
    linked = linked;
    gone = unlinks.linked_is;
    mended = λ _. ap is_lost unlinks.entry_is;
    parts = fresh_parts hb ha was to unlinks.marks_are unlinks.size_is unlinks.entry_is;
    lent = unlinks.lent_is;
  }

  pub unlinking : {E : Type 0} → Unlinking {E = E} (file_in hb was) (file_in ha to) (Ok true)
  unlinking = record {
    name = unnaming;
    reads = unlinks.octets_are;
    within = λ image among. given_image (reading hb was.octets.items) was.octets.items image;
  }

  pub unlinking_empty : {E : Type 0} → was.octets.items ≡ [] → ha ≡ hb
      → UnlinkingEmpty {E = E} (file_in hb was) (file_in ha to) (Ok true)
  unlinking_empty none is = record {
    name = unnaming;
    held = ap (λ (h : Held). reading h to.octets.items) is
        ∙ ap (λ (l : List ℕ). reading hb l) (unlinks.octets_are ∙ sym none);
  }

-- one that wasn't there
module _ (hb ha : Held) (was : Node) (absent : was.linked ≡ false) where
  unnaming_none : {E : Type 0} → Unnaming {E = E} (file_in hb was) (file_in ha was) (Ok false)
  unnaming_none = record {
    linked = absent;
    gone = absent;
    mended = λ there. absurd (false≢true there);
    parts = record { dirty = λ part d. inl d; lost = λ part l. l };
    lent = refl;
  }

  pub unlinking_none : {E : Type 0} → Unlinking {E = E} (file_in hb was) (file_in ha was) (Ok false)
  unlinking_none = record {
    name = unnaming_none;
    reads = was.absent absent;
    within = λ image among. given_image (reading hb was.octets.items) was.octets.items image;
  }

  pub unlinking_empty_none : {E : Type 0} → ha ≡ hb
      → UnlinkingEmpty {E = E} (file_in hb was) (file_in ha was) (Ok false)
  unlinking_empty_none is =
      record { name = unnaming_none; held = ap (λ (h : Held). reading h was.octets.items) is }

-- a good sync of the directory
module _ (hb ha : Held) (was to : Node) (enters : NodeEnters was to) where
  same_dirty : (part : Part) → IsContent part → is_dirty (mark_of to part) ≡ true → is_dirty (mark_of was part) ≡ true
  same_dirty (octet place) content is =
      sym (ap (λ (l : List Mark). is_dirty (mark_at l place)) enters.marks_are) ∙ is
  same_dirty size content is = sym (ap is_dirty enters.size_is) ∙ is
  same_dirty entry content is = absurd content

  same_lost : (part : Part) → IsContent part → is_lost (mark_of to part) ≡ true → is_lost (mark_of was part) ≡ true
  same_lost (octet place) content is =
      sym (ap (λ (l : List Mark). is_lost (mark_at l place)) enters.marks_are) ∙ is
  same_lost size content is = sym (ap is_lost enters.size_is) ∙ is
  same_lost entry content is = absurd content

  pub entering : {E : Type 0} → Entering {T = Unit {0}} {E = E} (file_in hb was) (file_in ha to) (Ok tt)
  entering = record {
    clean = ap is_dirty enters.entry_is ∙ not_dirty was.entry;
    lost = λ is. sym (ap is_lost enters.entry_is ∙ still_lost was.entry) ∙ is;
    name = λ is. ⊎_elim
        (λ d. no (is_dirty to.entry) (ap is_dirty enters.entry_is ∙ not_dirty was.entry) d)
        (λ l. inr (sym (ap is_lost enters.entry_is ∙ still_lost was.entry) ∙ l)) is;
    dirty_content = same_dirty;
    lost_content = same_lost;
    status = record { linked = enters.linked_is; read_only = enters.read_only_is; lent = enters.lent_is };
  }

-- a failed one
module _ (hb ha : Held) (was to : Node) (misses : NodeMisses was to) where
  missed_dirty : (part : Part) → IsContent part → is_dirty (mark_of to part) ≡ true
      → is_dirty (mark_of was part) ≡ true
  missed_dirty (octet place) content is =
      sym (ap (λ (l : List Mark). is_dirty (mark_at l place)) misses.marks_are) ∙ is
  missed_dirty size content is = sym (ap is_dirty misses.size_is) ∙ is
  missed_dirty entry content is = absurd content

  missed_lost : (part : Part) → IsContent part → is_lost (mark_of to part) ≡ true → is_lost (mark_of was part) ≡ true
  missed_lost (octet place) content is =
      sym (ap (λ (l : List Mark). is_lost (mark_at l place)) misses.marks_are) ∙ is
  missed_lost size content is = sym (ap is_lost misses.size_is) ∙ is
  missed_lost entry content is = absurd content

  pub missing : {T E : Type 0} (e : E) → Entering {T = T} {E = E} (file_in hb was) (file_in ha to) (Err e)
  missing e = record {
    clean = tt;
    lost = tt;
    name = λ is. ⊎_elim
        (λ d. no (is_dirty to.entry) (ap is_dirty misses.entry_is ∙ not_dirty_then was.entry) d)
        (λ l. was_unsure was.entry (sym (ap is_lost misses.entry_is) ∙ l)) is;
    dirty_content = missed_dirty;
    lost_content = missed_lost;
    status = record { linked = misses.linked_is; read_only = misses.read_only_is; lent = misses.lent_is };
  }

-- nothing happened
pub entering_not : {T E : Type 0} (hb : Held) (was : Node) (e : E)
    → Entering {T = T} {E = E} (file_in hb was) (file_in hb was) (Err e)
entering_not hb was e = record {
  clean = tt;
  lost = tt;
  name = λ is. is;
  dirty_content = λ part content is. is;
  lost_content = λ part content is. is;
  status = record { linked = refl; read_only = refl; lent = refl };
}

-- its mode, and whether it is lent
module _ (hb ha : Held) (was to : Node) (keeps : NodeKeeps was to) (is : ha ≡ hb) where
  kept_dirty : (part : Part) → is_dirty (mark_of to part) ≡ true → (is_dirty (mark_of was part) ≡ true) ⊎ IsNothing part
  kept_dirty (octet place) d =
      inl (sym (ap (λ (l : List Mark). is_dirty (mark_at l place)) keeps.marks_are) ∙ d)
  kept_dirty size d = inl (sym (ap is_dirty keeps.size_is) ∙ d)
  kept_dirty entry d = inl (sym (ap is_dirty keeps.entry_is) ∙ d)

  kept_lost : (part : Part) → is_lost (mark_of to part) ≡ true → is_lost (mark_of was part) ≡ true
  kept_lost (octet place) l = sym (ap (λ (m : List Mark). is_lost (mark_at m place)) keeps.marks_are) ∙ l
  kept_lost size l = sym (ap is_lost keeps.size_is) ∙ l
  kept_lost entry l = sym (ap is_lost keeps.entry_is) ∙ l

  kept_held : reading ha to.octets.items ≡ reading hb was.octets.items
  kept_held = ap (λ (h : Held). reading h to.octets.items) is ∙ ap (λ (l : List ℕ). reading hb l) keeps.octets_are

  pub changing_mode : {E : Type 0} (mode : Bool) → to.read_only ≡ mode → to.lent ≡ was.lent
      → ChangingMode {T = Unit {0}} {E = E} (file_in hb was) (file_in ha to) mode (Ok tt)
  changing_mode mode done lent = record {
    mode = done;
    held = kept_held;
    parts = record { dirty = kept_dirty; lost = kept_lost };
    linked = keeps.linked_is;
    lent = lent;
  }

  pub lending : (lent : Bool) → to.lent ≡ lent → to.read_only ≡ was.read_only
      → Lending (file_in hb was) (file_in ha to) lent
  lending lent done mode = record {
    lent = done;
    held = kept_held;
    parts = record { dirty = kept_dirty; lost = kept_lost };
    linked = keeps.linked_is;
    read_only = mode;
  }

-- whether it was there or not
module _ (hb ha : Held) (was to : Node) (done : was.linked ≡ true → NodeUnlinks was to) (none : was.linked ≡ false → to ≡ was) where
  pub unlinking_either : {E : Type 0} (b : Bool) → b ≡ was.linked
      → Unlinking {E = E} (file_in hb was) (file_in ha to) (Ok b)
  unlinking_either true is = unlinking hb ha was to (done (sym is)) (sym is)
  unlinking_either {E} false is = subst (λ (n : Node). Unlinking {E = E} (file_in hb was) (file_in ha n) (Ok false))
      (sym (none (sym is))) (unlinking_none hb ha was (sym is))

  pub unlinking_empty_either : {E : Type 0} (b : Bool) → b ≡ was.linked → was.octets.items ≡ [] → ha ≡ hb
      → UnlinkingEmpty {E = E} (file_in hb was) (file_in ha to) (Ok b)
  unlinking_empty_either true is empty same = unlinking_empty hb ha was to (done (sym is)) (sym is) empty same
  unlinking_empty_either {E} false is empty same =
      subst (λ (n : Node). UnlinkingEmpty {E = E} (file_in hb was) (file_in ha n) (Ok false))
      (sym (none (sym is))) (unlinking_empty_none hb ha was (sym is) same)

  pub still_empty : (b : Bool) → b ≡ was.linked → was.octets.items ≡ [] → to.octets.items ≡ was.octets.items
  still_empty true is empty = (done (sym is)).octets_are ∙ sym empty
  still_empty false is empty = ap (λ (n : Node). n.octets.items) (none (sym is))

  pub still_there : (b : Bool) → b ≡ was.linked → device_in to ≡ device_in was
  still_there true is = (done (sym is)).device_is
  still_there false is = ap device_in (none (sym is))
