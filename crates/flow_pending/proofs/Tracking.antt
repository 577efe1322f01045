-- What a pending file remembers after a change.
use Rattle.std.proofs.Common.{◌≡◌, ◌≢◌, ◌⊎◌, inl, inr, ⊎_elim, ℕ, ◌+◌, ◌<◌, ◌≤◌, Bool, true, false, List, length, take}
use Rattle.std.proofs.Common.{refl, sym, ◌∙◌, ap, subst, Result, Ok, Err, OnOk, OnErr}
use Rattle.std.proofs.lemmas.Bool.{false≢true}
use Rattle.flow_disk.specs.Disk.{Held, IsWithin, put_at, touched_at, loosened_at}
use Rattle.flow_disk.specs.Files.{Writes, Cuts}
use Rattle.flow_directory.specs.File.{Part, octet, size, entry, File, held_of, IsUnsure, IsWhole}
use Rattle.flow_directory.specs.Calls.{IsBetween, IsPut, IsSize, Dirties, KeepsStatus, Writing, Truncating}
use Rattle.flow_pending.specs.declared.pending.Pending.{Pending}
use Rattle.flow_pending.specs.declared.pending.Stage.TheVariants.{Doubtful}
use Rattle.flow_pending.specs.Tracked.{IsChangeable, IsRemembered, IsTracked}
use Rattle.flow_pending.specs.Written.{IsWritten}

pub not_true : (b : Bool) → (b ≡ true → ⊥) → b ≡ false
not_true true not = absurd (not refl)
not_true false not = refl

-- a file that a call changed, but not in its name
module _ (was now : File) (parts : Part → Type 0) (dirties : Dirties was now parts) (status : KeepsStatus was now)
    (none : parts entry → ⊥) where
  pub still_changeable : IsChangeable was → IsChangeable now
  still_changeable is = record {
    name = (
      not_true (now.dirty entry) (λ d. ⊎_elim (λ old. false≢true (sym is.name.0 ∙ old)) none (dirties.dirty entry d)),
      not_true (now.lost entry) (λ l. false≢true (sym is.name.1 ∙ dirties.lost entry l)),
    );
    writable = status.read_only ∙ is.writable;
    free = status.lent ∙ is.free;
  }

-- what it remembers
module _ (was now : File) (parts : Part → Type 0) (dirties : Dirties was now parts) (p q : Pending)
    (before : (place : ℕ) → IsWritten p.written.ranges.items place → IsWritten q.written.ranges.items place)
    (new : (place : ℕ) → parts (octet place) → IsWritten q.written.ranges.items place)
    (stage : q.stage ≢ Doubtful → p.stage ≢ Doubtful) where
  pub still_tracked : IsTracked was p → IsTracked now q
  still_tracked is = record {
    remembered = λ place none unsure. ⊎_elim
        (λ d. ⊎_elim (λ old. is.remembered place (λ w. none (before place w)) (inl old)) (λ put. none (new place put))
        (dirties.dirty (octet place) d))
        (λ l. is.remembered place (λ w. none (before place w)) (inr (dirties.lost (octet place) l))) unsure;
    sure = λ other part. not_true (now.lost part)
        (λ l. false≢true (sym (is.sure (stage other) part) ∙ dirties.lost part l));
  }

-- the disk's rule of a write, and of a cut
pub writes_by : {T E : Type 0} (files now : ℕ → File) (file at : ℕ) (octets : List ℕ) (result : Result T E)
    → Writing (files file) (now file) at octets result → ((n : ℕ) → n ≢ file → now n ≡ files n)
    → Writes (held_of files) (held_of now) file at octets result
writes_by files now file at octets result writing others = record {
  done = writing.done;
  failed = writing.failed;
  others = λ n differs. ap (λ (f : File). f.held) (others n differs);
}

pub cuts_by : {T E : Type 0} (files now : ℕ → File) (file count : ℕ) (result : Result T E)
    → Truncating (files file) (now file) count result → ((n : ℕ) → n ≢ file → now n ≡ files n)
    → Cuts (held_of files) (held_of now) file count result
cuts_by files now file count result cutting others = record {
  done = cutting.done;
  failed = cutting.failed;
  others = λ n differs. ap (λ (f : File). f.held) (others n differs);
}
