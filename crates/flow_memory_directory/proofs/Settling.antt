-- A file that is settled for its name's sake.
use Rattle.std.proofs.Common.{◌≡◌, inl, ℕ, List, length, refl, sym, ◌∙◌, ap, subst}
use Rattle.std.proofs.Common.{Result, Ok, Err, OnOk, OnErr}
use Rattle.flow_disk.specs.Disk.{Held, IsImage, settled_at, loosened_at}
use Rattle.flow_disk.proofs.Images.{settled_one}
use Rattle.flow_directory.specs.File.{octet, size, File}
use Rattle.flow_memory_directory.specs.declared.mark.Mark.TheVariants.{Clean}
use Rattle.flow_memory_directory.specs.declared.node.Node.{Node}
use Rattle.flow_memory_directory.specs.Bound.{reading, IsSound}
use Rattle.flow_directory.specs.Calls.{Settling, Loosening}
use Rattle.flow_memory_directory.specs.declared.memory.MemoryDirectory.{MemoryDirectory}
use Rattle.flow_memory_directory.specs.Memory.{files_of, IsUntouched, Changes, Keeps, Settles}
use Rattle.flow_memory_directory.proofs.Results.{same_file}
use Rattle.flow_memory_directory.specs.Nodes.{file_in, IsNodeClean}
use Rattle.flow_memory_directory.proofs.Images.{of_reading, to_reading}
use Rattle.flow_memory_directory.proofs.Rules.{clean_by}

-- the device has just what it reads as
pub settles_here : (hb ha : Held) (was : Node) (device : List ℕ) → IsSound hb was.octets.items device
    → ha ≡ settled_at was.octets.items → Settles (file_in hb was) (file_in ha was)
settles_here hb ha was device sound is = record {
  settled = λ named clean. ap (λ (h : Held). reading h was.octets.items) is;
  reads = refl;
  within = λ image among. to_reading hb was.octets.items image
      (subst (λ (l : List ℕ). IsImage hb l)
      (sym (settled_one was.octets.items image (subst (λ (h : Held). IsImage h image) is
      (of_reading ha was.octets.items image among)))) sound.memory);
  dirty = λ part. refl;
  lost = λ part. refl;
  status = record { linked = refl; read_only = refl; lent = refl };
}

-- it may not have it
pub settles_not : (h : Held) (was : Node) → (was.entry ≡ Clean → IsNodeClean was → ⊥)
    → Settles (file_in h was) (file_in h was)
settles_not h was not = record {
  settled = λ named clean. absurd (not (clean_by was.entry named.0 named.1) (record {
    octets = λ place. let both = clean (octet place) tt in clean_by _ both.0 both.1;
    size_is = let both = clean size tt in clean_by was.size both.0 both.1;
  }));
  reads = refl;
  within = λ image among. among;
  dirty = λ part. refl;
  lost = λ part. refl;
  status = record { linked = refl; read_only = refl; lent = refl };
}

-- the rule, whatever the answer
settled_rule : {T E : Type 0} (was now : File) (r : Result T E) → Settles was now → Settling {T = T} {E = E} was now r
settled_rule {T} {E} was now r settles = record {
  settled = always r settles.settled;
  reads = settles.reads;
  within = settles.within;
  parts = record {
    dirty = λ part d. inl (sym (settles.dirty part) ∙ d);
    lost = λ part l. sym (settles.lost part) ∙ l;
  };
  status = settles.status;
}
  where
    always : {A : Type 0} (r : Result T E) → A → OnOk r A
    always (Ok x) a = a
    always (Err e) a = tt

settling_not : {T E : Type 0} (e : E) (f : File) → Settling {T = T} {E = E} f f (Err e)
settling_not e f = record {
  settled = tt;
  reads = refl;
  within = λ image is. is;
  parts = record { dirty = λ part d. inl d; lost = λ part l. l };
  status = record { linked = refl; read_only = refl; lent = refl };
}

pub settling : {T E : Type 0} (old new : MemoryDirectory) (file : ℕ) (r : Result T E)
    → OnOk r (Keeps old new file (λ was now. Settles was now)) → OnErr r (IsUntouched old new)
    → Settling {T = T} {E = E} (files_of old file) (files_of new file) r
settling old new file (Ok x) done failed = settled_rule (files_of old file) (files_of new file) (Ok x) done.here
settling {T} {E} old new file (Err e) done failed =
    subst (λ (f : File). Settling {T = T} {E = E} (files_of old file) f (Err e)) (sym (same_file old new failed file))
    (settling_not e (files_of old file))

-- anything may follow what it reads as
pub loosening : {E : Type 0} (hb ha : Held) (was : Node) (count : ℕ) → ha ≡ loosened_at hb count hb.reads
    → count ≡ length was.octets.items
    → Loosening {T = Unit {0}} {E = E} (file_in hb was) (file_in ha was) (Ok tt)
loosening hb ha was count is end = record {
  done = ap (λ (h : Held). reading h was.octets.items) is
      ∙ ap (λ (n : ℕ). loosened_at (reading hb was.octets.items) n was.octets.items) end;
  failed = tt;
  parts = record { dirty = λ part d. inl d; lost = λ part l. l };
  status = record { linked = refl; read_only = refl; lent = refl };
}

pub loosens_all : (old new : MemoryDirectory) (file n m : ℕ) (rule : File → File → Type 0) (h : Held) → n ≡ m
    → Changes old new file rule (loosened_at h n h.reads) → Changes old new file rule (loosened_at h m h.reads)
loosens_all old new file n m rule h same changes =
    subst (λ (k : ℕ). Changes old new file rule (loosened_at h k h.reads)) same changes
