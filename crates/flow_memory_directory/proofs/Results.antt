-- A call that answers Ok or a failure.
use Rattle.std.proofs.Common.{◌≡◌, ◌≢◌, ℕ, List, length, reverse, refl, sym, ◌∙◌, ap, subst}
use Rattle.std.proofs.Common.{Result, Ok, Err, OnOk, OnErr, Bool, inl}
use Rattle.flow_disk.specs.Disk.{Held, changed}
use Rattle.flow_disk.specs.Moments.{Elapses, Covers, Passes}
use Rattle.flow_directory.specs.File.{File, held_of}
use Rattle.flow_directory.specs.Calls.{KeepsStatus, Writing, Rewriting}
use Rattle.flow_directory.specs.Calls.{Truncating, Retruncating, Syncing, Creating, Unnaming, Unlinking, UnlinkingEmpty}
use Rattle.flow_directory.specs.Calls.{ChangingMode, Opening, Loosening}
use Rattle.flow_memory_directory.specs.declared.deed.Deed.{Deed}
use Rattle.flow_memory_directory.specs.declared.memory.MemoryDirectory.{MemoryDirectory}
use Rattle.flow_memory_directory.specs.declared.node.Node.{Node}
use Rattle.flow_memory_directory.specs.Bound.{LeftSince}
use Rattle.flow_memory_directory.specs.Views.{files_in}
use Rattle.flow_memory_directory.specs.Memory.{deeds_of, files_of, moment_of, left_of, IsUntouched, Changes, Keeps}
use Rattle.flow_memory_directory.proofs.Images.{loosened_image, touched_image, given_image}
use Rattle.flow_memory_directory.proofs.Time.{elapses_still}

-- nothing was changed
module _ (old new : MemoryDirectory) (same : IsUntouched old new) where
  pub same_deeds : deeds_of new ≡ deeds_of old
  same_deeds = ap reverse same.log_is

  pub same_file : (n : ℕ) → files_of new n ≡ files_of old n
  same_file n = ap (λ (l : List Node). files_in l (deeds_of new) n) same.nodes_are
      ∙ ap (λ (l : List Deed). files_in old.nodes.items l n) same_deeds

  pub same_time : (during : ℕ → Held) → Passes moment_of left_of old new during
  same_time during = subst (λ (l : List Deed). Elapses (moment_of old) (length l) (left_of old) (LeftSince l) during)
      (sym same_deeds) (elapses_still (deeds_of old) during)

module _ {T E : Type 0} (old new : MemoryDirectory) (file : ℕ) where
  pub changes_rule : (r : Result T E) (rule : Result T E → File → File → Type 0) (during : Held)
      → OnOk r (Changes old new file (rule r) during) → OnErr r (IsUntouched old new)
      → ((e : E) (f : File) → rule (Err e) f f) → rule r (files_of old file) (files_of new file)
  changes_rule (Ok x) rule during done failed none = done.here
  changes_rule (Err e) rule during done failed none =
      subst (λ (f : File). rule (Err e) (files_of old file) f) (sym (same_file old new failed file))
      (none e (files_of old file))

  pub changes_others : (r : Result T E) (rule : File → File → Type 0) (during : Held)
      → OnOk r (Changes old new file rule during) → OnErr r (IsUntouched old new)
      → (n : ℕ) → n ≢ file → files_of new n ≡ files_of old n
  changes_others (Ok x) rule during done failed n differs = done.others n differs
  changes_others (Err e) rule during done failed n differs = same_file old new failed n

  pub changes_time : (r : Result T E) (rule : File → File → Type 0) (during : Held)
      → OnOk r (Changes old new file rule during) → OnErr r (IsUntouched old new)
      → Passes moment_of left_of old new (changed (held_of (files_of old)) file during)
  changes_time (Ok x) rule during done failed = done.time
  changes_time (Err e) rule during done failed =
      same_time old new failed (changed (held_of (files_of old)) file during)

  pub changes_covered : (r : Result T E) (rule : File → File → Type 0) (during : Held)
      → OnOk r (Changes old new file rule during)
      → OnOk r (Covers (moment_of old) (left_of new) (changed (held_of (files_of old)) file during))
  changes_covered (Ok x) rule during done = done.covered
  changes_covered (Err e) rule during done = tt

  pub keeps_rule : (r : Result T E) (rule : Result T E → File → File → Type 0)
      → OnOk r (Keeps old new file (rule r)) → OnErr r (IsUntouched old new)
      → ((e : E) (f : File) → rule (Err e) f f) → rule r (files_of old file) (files_of new file)
  keeps_rule (Ok x) rule done failed none = done.here
  keeps_rule (Err e) rule done failed none =
      subst (λ (f : File). rule (Err e) (files_of old file) f) (sym (same_file old new failed file))
      (none e (files_of old file))

  pub keeps_others : (r : Result T E) (rule : File → File → Type 0)
      → OnOk r (Keeps old new file rule) → OnErr r (IsUntouched old new)
      → (n : ℕ) → n ≢ file → files_of new n ≡ files_of old n
  keeps_others (Ok x) rule done failed n differs = done.others n differs
  keeps_others (Err e) rule done failed n differs = same_file old new failed n

  pub keeps_time : (r : Result T E) (rule : File → File → Type 0)
      → OnOk r (Keeps old new file rule) → OnErr r (IsUntouched old new)
      → Passes moment_of left_of old new (held_of (files_of old))
  keeps_time (Ok x) rule done failed = done.time
  keeps_time (Err e) rule done failed = same_time old new failed (held_of (files_of old))

-- each rule, of a call that failed and did nothing
status_same : (f : File) → KeepsStatus f f
status_same f = record { linked = refl; read_only = refl; lent = refl }

module _ {T E : Type 0} (e : E) (f : File) where
  pub writing_not : (at : ℕ) (octets : List ℕ) → Writing {T = T} {E = E} f f at octets (Err e)
  writing_not at octets = record {
    done = tt;
    failed = λ image is. touched_image f.held f.held.reads at (length octets) image is;
    mended = tt;
    parts = record { dirty = λ part d. inl d; lost = λ part l. l };
    status = status_same f;
  }

  pub rewriting_not : (at count : ℕ) → Rewriting {T = T} {E = E} f f at count (Err e)
  rewriting_not at count = record {
    held = refl;
    mended = tt;
    parts = record { dirty = λ part d. inl d; lost = λ part l. l };
    status = status_same f;
  }

  pub truncating_not : (count : ℕ) → Truncating {T = T} {E = E} f f count (Err e)
  truncating_not count = record {
    done = tt;
    failed = λ image is. loosened_image f.held f.held.reads count image is;
    mended = tt;
    parts = record { dirty = λ part d. inl d; lost = λ part l. l };
    status = status_same f;
  }

  pub retruncating_not : Retruncating {T = T} {E = E} f f (Err e)
  retruncating_not = record {
    held = refl;
    mended = tt;
    parts = record { dirty = λ part d. inl d; lost = λ part l. l };
    status = status_same f;
  }

  pub loosening_not : Loosening {T = T} {E = E} f f (Err e)
  loosening_not = record {
    done = tt;
    failed = refl;
    parts = record { dirty = λ part d. inl d; lost = λ part l. l };
    status = status_same f;
  }

  pub syncing_not : Syncing {T = T} {E = E} f f (Err e)
  syncing_not = record {
    settled = tt;
    reads = tt;
    clean = tt;
    lost = tt;
    stays = λ _. refl;
    within = λ image is. is;
    parts = record { each = λ part is. is; dirty_entry = λ is. is; lost_entry = λ is. is };
    status = status_same f;
  }

  pub creating_not : Creating {T = T} {E = E} f f (Err e)
  creating_not = record {
    absent = tt;
    linked = tt;
    writable = tt;
    clean = tt;
    mended = tt;
    held = refl;
    parts = record { dirty = λ part d. inl d; lost = λ part l. l };
    lent = refl;
  }

  pub changing_mode_not : (mode : Bool) → ChangingMode {T = T} {E = E} f f mode (Err e)
  changing_mode_not mode = record {
    mode = tt;
    held = refl;
    parts = record { dirty = λ part d. inl d; lost = λ part l. l };
    linked = refl;
    lent = refl;
  }

module _ {E : Type 0} (e : E) (f : File) where
  unnaming_not : Unnaming {E = E} f f (Err e)
  unnaming_not = record {
    linked = tt;
    gone = tt;
    mended = tt;
    parts = record { dirty = λ part d. inl d; lost = λ part l. l };
    lent = refl;
  }

  pub unlinking_not : Unlinking {E = E} f f (Err e)
  unlinking_not = record {
    name = unnaming_not;
    reads = tt;
    within = λ image is. given_image f.held f.held.reads image;
  }

  pub unlinking_empty_not : UnlinkingEmpty {E = E} f f (Err e)
  unlinking_empty_not = record { name = unnaming_not; held = refl }

pub opening_not : (f : File) → Opening f f
opening_not f = record {
  held = refl;
  parts = record { each = λ part is. is; dirty_entry = λ is. is; lost_entry = λ is. is };
  status = status_same f;
}

-- the log is as it was
pub log_time : (old new : MemoryDirectory) → new.log.items ≡ old.log.items → (during : ℕ → Held)
    → Passes moment_of left_of old new during
log_time old new same during = subst (λ (l : List Deed). Elapses (moment_of old) (length l) (left_of old) (LeftSince l)
    during) (sym (ap reverse same)) (elapses_still (deeds_of old) during)
