-- What a disk has reported agrees with its folder after a call on one file.
use Rattle.std.proofs.Common.{◌≡◌, ◌≢◌, ⊎_elim, ℕ, true, false, Option, is_some, sym, ◌∙◌, ap, subst}
use Rattle.std.proofs.lemmas.Bool.{cases_eq, false≢true}
use Rattle.flow_disk.specs.Disk.{Marks, Changes, Stays}
use Rattle.flow_directory.specs.File.{File}
use Rattle.flow_pending.specs.declared.pending.Pending.{Pending}
use Rattle.flow_folder_disk.specs.Known.{IsSettled, IsSeen}
use Rattle.flow_folder_disk.proofs.Knowing.{not_true}
use Rattle.flow_folder_disk.proofs.Removing.{settled_seen}
use Rattle.flow_folder_disk.specs.Agreeing.{AreUnchanged, AreSettled, AreFrozen}

-- the file isn't reported as settled
pub unchanged_kept : (marks : ℕ → Marks) (pending after : ℕ → Option Pending) (file : ℕ) → AreUnchanged marks pending
    → (marks file).settled ≡ false → ((n : ℕ) → n ≢ file → is_some (after n) ≡ is_some (pending n))
    → AreUnchanged marks after
unchanged_kept marks pending after file are not_settled others n settled = ⊎_elim
    (λ same. absurd (false≢true (sym not_settled ∙ ap (λ (k : ℕ). (marks k).settled) (sym same) ∙ settled)))
    (λ differs. others n differs ∙ are n settled) (cases_eq n file)

pub settled_kept : (marks : ℕ → Marks) (files now : ℕ → File) (file : ℕ) → AreSettled marks files
    → (marks file).settled ≡ false → ((n : ℕ) → n ≢ file → IsSeen (files n) (now n)) → AreSettled marks now
settled_kept marks files now file are not_settled others n settled = ⊎_elim
    (λ same. absurd (false≢true (sym not_settled ∙ ap (λ (k : ℕ). (marks k).settled) (sym same) ∙ settled)))
    (λ differs. settled_seen (files n) (now n) (are n settled) (others n differs)) (cases_eq n file)

pub frozen_kept : (marks : ℕ → Marks) (files now : ℕ → File) (file : ℕ) → AreFrozen marks files
    → (now file).lent ≡ false → ((n : ℕ) → n ≢ file → IsSeen (files n) (now n)) → AreFrozen marks now
frozen_kept marks files now file are free others n lent = ⊎_elim
    (λ same. absurd (false≢true (sym free ∙ ap (λ (k : ℕ). (now k).lent) (sym same) ∙ lent)))
    (λ differs. are n (sym (others n differs).status.lent ∙ lent)) (cases_eq n file)

-- all files are seen as they were
pub settled_stays : (marks : ℕ → Marks) (files now : ℕ → File) → AreSettled marks files
    → ((n : ℕ) → IsSeen (files n) (now n)) → AreSettled marks now
settled_stays marks files now are seen n settled = settled_seen (files n) (now n) (are n settled) (seen n)

pub frozen_stays : (marks : ℕ → Marks) (files now : ℕ → File) → AreFrozen marks files
    → ((n : ℕ) → IsSeen (files n) (now n)) → AreFrozen marks now
frozen_stays marks files now are seen n lent = are n (sym (seen n).status.lent ∙ lent)

-- a settled file is settled after the call too
pub settled_with : (marks : ℕ → Marks) (files now : ℕ → File) (file : ℕ) → AreSettled marks files
    → (IsSettled (files file) → IsSettled (now file)) → ((n : ℕ) → n ≢ file → IsSeen (files n) (now n))
    → AreSettled marks now
settled_with marks files now file are keeps others n settled = ⊎_elim
    (λ same. subst (λ (k : ℕ). IsSettled (now k)) (sym same)
    (keeps (are file (ap (λ (k : ℕ). (marks k).settled) (sym same) ∙ settled))))
    (λ differs. settled_seen (files n) (now n) (are n settled) (others n differs)) (cases_eq n file)

pub frozen_with : (marks : ℕ → Marks) (files now : ℕ → File) (file : ℕ) → AreFrozen marks files
    → (now file).lent ≡ (files file).lent → ((n : ℕ) → n ≢ file → IsSeen (files n) (now n)) → AreFrozen marks now
frozen_with marks files now file are same_lent others n lent = ⊎_elim
    (λ same. are n (ap (λ (k : ℕ). (files k).lent) same ∙ sym same_lent ∙ ap (λ (k : ℕ). (now k).lent) (sym same) ∙
    lent))
    (λ differs. are n (sym (others n differs).status.lent ∙ lent)) (cases_eq n file)

-- a file that isn't reported as frozen isn't lent
pub thawed_free : (marks : ℕ → Marks) (files : ℕ → File) (file : ℕ) → AreFrozen marks files
    → (marks file).frozen ≡ false → (files file).lent ≡ false
thawed_free marks files file are thawed =
    not_true (files file).lent (λ lent. false≢true (sym thawed ∙ (are file lent).0))

-- all files are seen as they were
pub seen_all : (files now : ℕ → File) (file : ℕ) → IsSeen (files file) (now file)
    → ((n : ℕ) → n ≢ file → IsSeen (files n) (now n)) → (n : ℕ) → IsSeen (files n) (now n)
seen_all files now file here others n = ⊎_elim
    (λ same. subst (λ (k : ℕ). IsSeen (files k) (now k)) (sym same) here) (λ differs. others n differs) (cases_eq n
    file)

-- a file that is settled is reported as frozen
module _ (marks after : ℕ → Marks) (file : ℕ) (to : Marks) (is : Changes marks after file to) where
  pub unchanged_reported : (pending : ℕ → Option Pending) → AreUnchanged marks pending → is_some (pending file) ≡ false
      → AreUnchanged after pending
  unchanged_reported pending are absent n settled = ⊎_elim
      (λ same. subst (λ (k : ℕ). is_some (pending k) ≡ false) (sym same) absent)
      (λ differs. are n (ap (λ (m : Marks). m.settled) (sym (is.others n differs)) ∙ settled)) (cases_eq n file)

  pub settled_reported : (files now : ℕ → File) → AreSettled marks files → IsSettled (now file)
      → ((n : ℕ) → n ≢ file → IsSeen (files n) (now n)) → AreSettled after now
  settled_reported files now are here others n settled = ⊎_elim
      (λ same. subst (λ (k : ℕ). IsSettled (now k)) (sym same) here)
      (λ differs. settled_seen (files n) (now n)
      (are n (ap (λ (m : Marks). m.settled) (sym (is.others n differs)) ∙ settled)) (others n differs)) (cases_eq n
      file)

  pub frozen_reported : (files now : ℕ → File) → AreFrozen marks files → to.frozen ≡ true → to.settled ≡ true
      → ((n : ℕ) → n ≢ file → IsSeen (files n) (now n)) → AreFrozen after now
  frozen_reported files now are frozen settled others n lent = ⊎_elim
      (λ same. subst (λ (k : ℕ). ((after k).frozen ≡ true) × ((after k).settled ≡ true)) (sym same)
      (ap (λ (m : Marks). m.frozen) is.here ∙ frozen, ap (λ (m : Marks). m.settled) is.here ∙ settled))
      (λ differs. subst (λ (m : Marks). (m.frozen ≡ true) × (m.settled ≡ true)) (sym (is.others n differs))
      (are n (sym (others n differs).status.lent ∙ lent))) (cases_eq n file)

-- octets and names after a call that one file is read by
pub held_all : (files now : ℕ → File) (file : ℕ) → (now file).held ≡ (files file).held
    → ((n : ℕ) → n ≢ file → IsSeen (files n) (now n)) → (n : ℕ) → (now n).held ≡ (files n).held
held_all files now file here others n = ⊎_elim
    (λ same. subst (λ (k : ℕ). (now k).held ≡ (files k).held) (sym same) here)
    (λ differs. (others n differs).held) (cases_eq n file)

pub linked_all : (files now : ℕ → File) (file : ℕ) → (now file).linked ≡ (files file).linked
    → ((n : ℕ) → n ≢ file → IsSeen (files n) (now n)) → (n : ℕ) → (now n).linked ≡ (files n).linked
linked_all files now file here others n = ⊎_elim
    (λ same. subst (λ (k : ℕ). (now k).linked ≡ (files k).linked) (sym same) here)
    (λ differs. (others n differs).status.linked) (cases_eq n file)

-- a table that says the same
module _ (marks after : ℕ → Marks) (same : Stays marks after) where
  pub unchanged_table : (pending : ℕ → Option Pending) → AreUnchanged marks pending → AreUnchanged after pending
  unchanged_table pending are n settled = are n (ap (λ (m : Marks). m.settled) (sym (same n)) ∙ settled)

  pub settled_table : (files : ℕ → File) → AreSettled marks files → AreSettled after files
  settled_table files are n settled = are n (ap (λ (m : Marks). m.settled) (sym (same n)) ∙ settled)

  pub frozen_table : (files : ℕ → File) → AreFrozen marks files → AreFrozen after files
  frozen_table files are n lent = subst (λ (m : Marks). (m.frozen ≡ true) × (m.settled ≡ true)) (sym (same n)) (are n
      lent)
