-- Syncs, step by step.
use Rattle.std.proofs.Common.{◌≡◌, inl, inr, sym, ◌∙◌, ap, subst, Result, Ok}
use Rattle.std.proofs.Common.{Bool, Err, OnOk}
use Rattle.std.specs.Prelude.{IsErr}
use Rattle.std.proofs.lemmas.Bool.{false≢true}
use Rattle.flow_disk.specs.Disk.{Held, IsImage, IsWithin, settled_at}
use Rattle.flow_directory.specs.File.{entry, File}
use Rattle.flow_directory.specs.Calls.{Syncing, Settling}
use Rattle.flow_pending.specs.Tracked.{Settles}
use Rattle.flow_folder_disk.specs.Known.{IsSure, IsSettled, IsSeen, IsReached, IsSynced, KeepsLost}
use Rattle.flow_folder_disk.proofs.Knowing.{not_true}
use Rattle.flow_folder_disk.proofs.Removing.{on_ok, on_any, sure_seen, settling_sure}

pub held_within : (was now : Held) → now ≡ was → IsWithin now was
held_within was now same image is = subst (λ (h : Held). IsImage h image) same is

-- it failed
pub synced_failed : {T E : Type 0} (was now : File) (r : Result T E) → IsErr r → IsWithin now.held was.held
    → IsSynced was now r
synced_failed was now (Ok x) is within = absurd (false≢true is)
synced_failed was now (Err e) is within = record { done = tt; sure = tt; within = within }

pub not_ok : {T E : Type 0} (A : Type 0) (r : Result T E) → IsErr r → OnOk r A
not_ok A (Ok x) is = absurd (false≢true is)
not_ok A (Err e) is = tt

pub lost_failed : {T E : Type 0} (was now : Bool) (r : Result T E) → IsErr r → now ≡ was → KeepsLost was now r
lost_failed was now r is same = record { done = not_ok (now ≡ was) r is; still = λ lost. same ∙ lost }

pub lent_then : (was mid now : File) → now.lent ≡ mid.lent → mid.lent ≡ was.lent → now.lent ≡ was.lent
lent_then was mid now second first = second ∙ first

-- a sync of a file of which nothing waits
pub synced_open : {T E : Type 0} (was now : File) (r : Result T E) → Syncing was now r → IsSure was → IsSynced was now r
synced_open was now r rule sure = record {
  done = on_ok r (λ settled. settled (λ part. not_true (was.lost part) (λ l. sure part (inr l)))
      (not_true (was.dirty entry) (λ d. sure entry (inl d)))) rule.settled;
  sure = on_any r (λ part unsure. sure part (rule.parts.each part unsure));
  within = rule.within;
}

-- a sync of a pending one
pub synced_pending : {T E : Type 0} (was now : File) (r : Result T E) → Settles was now r → IsSynced was now r
synced_pending was now r rule = record { done = rule.settled; sure = rule.clean; within = rule.within }

-- a call after a good sync, which leaves the file as it is
pub synced_seen : {T U E F : Type 0} (was mid now : File) (x : T) (r : Result U F)
    → IsSynced {T = T} {E = E} was mid (Ok x) → IsSeen mid now → IsSynced was now r
synced_seen was mid now x r synced seen = record {
  done = on_any r (seen.held ∙ synced.done);
  sure = on_any r (sure_seen mid now synced.sure seen);
  within = λ image is. synced.within image (held_within mid.held now.held seen.held image is);
}

-- a sync after a call that left the file as it was
pub synced_from : {T E : Type 0} (was mid now : File) (r : Result T E) → mid.held ≡ was.held → IsSynced mid now r
    → IsSynced was now r
synced_from was mid now r same synced = record {
  done = on_ok r (λ done. done ∙ ap (λ (h : Held). settled_at h.reads) same) synced.done;
  sure = synced.sure;
  within = λ image is. held_within was.held mid.held same image (synced.within image is);
}

-- a settled file stays settled where no more may be left of it, and it reads as it did
pub settled_within : (was now : File) → IsSettled was → IsWithin now.held was.held → now.held.reads ≡ was.held.reads
    → IsSure now → IsSettled now
settled_within was now settled within reads sure = record {
  alone = λ image is. settled.alone image (within image is) ∙ sym reads;
  sure = sure;
}

pub settled_again : {T E : Type 0} (was now : File) (r : Result T E) → IsSettled was → Settling was now r
    → IsSettled now
settled_again was now r settled rule =
    settled_within was now settled rule.within rule.reads (settling_sure was now r rule settled.sure)

pub settled_reached : (was now : File) → IsSettled was → IsReached was now → IsSettled now
settled_reached was now settled reached = settled_within was now settled (held_within was.held now.held reached.held)
    (ap (λ (h : Held). h.reads) reached.held) (λ part unsure. settled.sure part (reached.unsure part unsure))
