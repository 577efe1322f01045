-- Files that are gone for good, or settled.
use Rattle.std.proofs.Common.{◌≡◌, inl, inr, ⊎_elim, ℕ, true, false, List, sym, ◌∙◌, ap, subst}
use Rattle.std.proofs.Common.{Result, Ok, Err, OnOk}
use Rattle.std.proofs.lemmas.Bool.{false≢true}
use Rattle.flow_disk.specs.Disk.{Held, IsImage, settled_at}
use Rattle.flow_disk.proofs.Images.{settled_one}
use Rattle.flow_directory.specs.File.{entry, File, IsClean, IsNamed}
use Rattle.flow_directory.specs.Calls.{Settling}
use Rattle.flow_folder_disk.specs.Known.{IsSure, IsSettled, IsGone, IsSeen, IsSynced, IsRemoved}
use Rattle.flow_folder_disk.proofs.Knowing.{not_true, sure_by}

pub on_ok : {T E : Type 0} {A B : Type 0} (r : Result T E) → (A → B) → OnOk r A → OnOk r B
on_ok (Ok x) f is = f is
on_ok (Err e) f is = tt

pub on_any : {T E : Type 0} {A : Type 0} (r : Result T E) → A → OnOk r A
on_any (Ok x) is = is
on_any (Err e) is = tt

-- settling adds nothing that waits
pub settling_sure : {T E : Type 0} (c d : File) (r : Result T E) → Settling c d r → IsSure c → IsSure d
settling_sure c d r rule sure part unsure = ⊎_elim
    (λ dirty. ⊎_elim (λ old. sure part (inl old)) (λ none. none) (rule.parts.dirty part dirty))
    (λ lost. sure part (inr (rule.parts.lost part lost))) unsure

module _ (b c d : File) (gone : IsGone b) (seen : IsSeen b c) (entered : c.dirty entry ≡ false)
    (mended : c.lost entry ≡ true → b.lost entry ≡ true) (clean : c.linked ≡ false → IsClean c) where
  named_gone : IsNamed c
  named_gone = (entered, not_true (c.lost entry) (λ l. false≢true (sym gone.mended ∙ mended l)))

  clean_gone : IsClean c
  clean_gone = clean (seen.status.linked ∙ gone.linked)

  pub removed_by : {T E : Type 0} (r : Result T E) → Settling c d r → b.lent ≡ false → IsRemoved d r
  removed_by r rule free = record {
    done = on_ok r (λ settled. settled named_gone clean_gone
        ∙ ap (λ (l : List ℕ). settled_at l) (ap (λ (h : Held). h.reads) seen.held ∙ gone.reads)) rule.settled;
    sure = on_any r (settling_sure c d r rule (sure_by c clean_gone named_gone));
    linked = on_any r (rule.status.linked ∙ seen.status.linked ∙ gone.linked);
    lent = rule.status.lent ∙ seen.status.lent ∙ free;
  }

  pub synced_gone : {T E : Type 0} (a : File) (r : Result T E) → b.held ≡ a.held → Settling c d r → IsSynced a d r
  synced_gone a r same rule = record {
    done = on_ok r (λ settled. settled named_gone clean_gone
        ∙ ap (λ (h : Held). settled_at h.reads) (seen.held ∙ same)) rule.settled;
    sure = on_any r (settling_sure c d r rule (sure_by c clean_gone named_gone));
    within = λ image is. subst (λ (h : Held). IsImage h image) (seen.held ∙ same) (rule.within image is);
  }

-- a file of which nothing waits, and whose name is durable
pub sure_clean : (file : File) → IsSure file → IsClean file
sure_clean file sure part content = (
  not_true (file.dirty part) (λ d. sure part (inl d)),
  not_true (file.lost part) (λ l. sure part (inr l)),
)

pub sure_named : (file : File) → IsSure file → IsNamed file
sure_named file sure = (
  not_true (file.dirty entry) (λ d. sure entry (inl d)),
  not_true (file.lost entry) (λ l. sure entry (inr l)),
)

pub sure_seen : (was now : File) → IsSure was → IsSeen was now → IsSure now
sure_seen was now sure seen part unsure = sure part (seen.unsure part unsure)

pub synced_sure : {T E : Type 0} (a c d : File) (r : Result T E) → IsSure c → c.held ≡ a.held → Settling c d r
    → IsSynced a d r
synced_sure a c d r sure same rule = record {
  done = on_ok r (λ settled. settled (sure_named c sure) (sure_clean c sure)
      ∙ ap (λ (h : Held). settled_at h.reads) same) rule.settled;
  sure = on_any r (settling_sure c d r rule sure);
  within = λ image is. subst (λ (h : Held). IsImage h image) same (rule.within image is);
}

-- it didn't come to that
pub synced_not : {T E : Type 0} (a d : File) (e : E) → d.held ≡ a.held → IsSynced {T = T} {E = E} a d (Err e)
synced_not a d e same = record {
  done = tt;
  sure = tt;
  within = λ image is. subst (λ (h : Held). IsImage h image) same is;
}

pub removed_not : {T E : Type 0} (d : File) (e : E) → d.lent ≡ false → IsRemoved {T = T} {E = E} d (Err e)
removed_not d e free = record { done = tt; sure = tt; linked = tt; lent = free }

-- settled files
pub settled_seen : (was now : File) → IsSettled was → IsSeen was now → IsSettled now
settled_seen was now settled seen = record {
  alone = λ image is. settled.alone image (subst (λ (h : Held). IsImage h image) seen.held is)
      ∙ sym (ap (λ (h : Held). h.reads) seen.held);
  sure = sure_seen was now settled.sure seen;
}

pub settled_by : (now : File) (octets : List ℕ) → now.held ≡ settled_at octets → IsSure now → IsSettled now
settled_by now octets is sure = record {
  alone = λ image among. settled_one octets image (subst (λ (h : Held). IsImage h image) is among)
      ∙ sym (ap (λ (h : Held). h.reads) is);
  sure = sure;
}
