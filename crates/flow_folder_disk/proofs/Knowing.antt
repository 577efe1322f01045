-- What a folder knows of its files after a call.
use Rattle.std.proofs.Common.{◌≡◌, ◌≢◌, inl, inr, ⊎_elim, ℕ, ◌<◌, Bool, true, false, Option}
use Rattle.std.proofs.Common.{Some, None, is_some}
use Rattle.std.proofs.Common.{refl, sym, ◌∙◌, ap, subst, Result}
use Rattle.std.proofs.lemmas.Bool.{cases_eq, false≢true}
use Rattle.flow_directory.specs.File.{Part, octet, size, entry, File, IsClean, IsNamed, IsUnsure, IsWhole}
use Rattle.flow_directory.specs.Calls.{Entering, Settling}
use Rattle.flow_pending.specs.declared.pending.Pending.{Pending}
use Rattle.flow_pending.specs.declared.pending.Stage.TheVariants.{Doubtful}
use Rattle.flow_pending.specs.Tracked.{IsTracked}
use Rattle.flow_pending.specs.Written.{IsWritten}
use Rattle.flow_folder_disk.specs.Known.{IsSure, IsPending, IsKnown, IsSeen}

pub not_true : (b : Bool) → (b ≡ true → ⊥) → b ≡ false
not_true true not = absurd (not refl)
not_true false not = refl

-- a sync of the folder leaves octets, sizes and status of each file
pub entering_seen : {T E : Type 0} (was now : File) (r : Result T E) → Entering was now r → now.held ≡ was.held
    → IsSeen was now
entering_seen was now r rule held = record { held = held; unsure = unsure; status = rule.status }
  where
    unsure : (part : Part) → IsUnsure now part → IsUnsure was part
    unsure (octet place) is = ⊎_elim (λ d. inl (rule.dirty_content (octet place) tt d))
        (λ l. inr (rule.lost_content (octet place) tt l)) is
    unsure size is = ⊎_elim (λ d. inl (rule.dirty_content size tt d)) (λ l. inr (rule.lost_content size tt l)) is
    unsure entry is = rule.name is

-- and what is remembered of a pending one
pub entering_pending : {T E : Type 0} (was now : File) (r : Result T E) (n : ℕ) (p : Pending) → Entering was now r
    → IsPending was n p → IsPending now n p
entering_pending was now r n p rule is = record {
  number_is = is.number_is;
  changeable = record {
    name = (
      not_true (now.dirty entry) (λ d. sure_entry (inl d)),
      not_true (now.lost entry) (λ l. sure_entry (inr l)),
    );
    writable = rule.status.read_only ∙ is.changeable.writable;
    free = rule.status.lent ∙ is.changeable.free;
  };
  tracked = record {
    remembered = λ place none unsure. is.tracked.remembered place none
        (⊎_elim (λ d. inl (rule.dirty_content (octet place) tt d)) (λ l. inr (rule.lost_content (octet place) tt l))
        unsure);
    sure = λ other. whole (is.tracked.sure other);
  };
}
  where
    sure_entry : IsUnsure now entry → ⊥
    sure_entry unsure = ⊎_elim (λ d. false≢true (sym is.changeable.name.0 ∙ d))
        (λ l. false≢true (sym is.changeable.name.1 ∙ l)) (rule.name unsure)

    whole : IsWhole was → IsWhole now
    whole all (octet place) = not_true (now.lost (octet place))
        (λ l. false≢true (sym (all (octet place)) ∙ rule.lost_content (octet place) tt l))
    whole all size = not_true (now.lost size) (λ l. false≢true (sym (all size) ∙ rule.lost_content size tt l))
    whole all entry = not_true (now.lost entry) (λ l. sure_entry (inr l))

-- a value is some or none
pub none_of : {A : Type 0} (o : Option A) → is_some o ≡ false → o ≡ None
none_of None is = refl
none_of (Some x) is = absurd (false≢true (sym is))

none_there : (pending : ℕ → Option Pending) (file n : ℕ) (p : Pending) → is_some (pending file) ≡ false → n ≡ file
    → pending n ≡ Some p → ⊥
none_there pending file n p absent same is =
    false≢true (sym absent ∙ ap (λ (o : Option Pending). is_some o) (sym (ap pending same) ∙ is))

-- a call that changed one file, which isn't pending
pub known_one : (files now : ℕ → File) (pending : ℕ → Option Pending) (waits lost : Bool) (file : ℕ)
    → IsKnown files pending waits lost → is_some (pending file) ≡ false → ((n : ℕ) → n ≢ file → now n ≡ files n)
    → ((now file).dirty entry ≡ true → (files file).dirty entry ≡ true)
    → ((now file).lost entry ≡ true → (files file).lost entry ≡ true)
    → IsKnown now pending waits lost
known_one files now pending waits lost file known absent others dirty lost_entry = record {
  each = λ n p is. ⊎_elim (λ same. absurd (none_there pending file n p absent same is))
      (λ differs. subst (λ (f : File). IsPending f n p) (sym (others n differs)) (known.each n p is)) (cases_eq n file);
  entered = λ no n. ⊎_elim
      (λ same. subst (λ (k : ℕ). (now k).dirty entry ≡ false) (sym same)
      (not_true ((now file).dirty entry) (λ d. false≢true (sym (known.entered no file) ∙ dirty d))))
      (λ differs. subst (λ (f : File). f.dirty entry ≡ false) (sym (others n differs)) (known.entered no n))
      (cases_eq n file);
  found = λ no n. ⊎_elim
      (λ same. subst (λ (k : ℕ). (now k).lost entry ≡ false) (sym same)
      (not_true ((now file).lost entry) (λ l. false≢true (sym (known.found no file) ∙ lost_entry l))))
      (λ differs. subst (λ (f : File). f.lost entry ≡ false) (sym (others n differs)) (known.found no n))
      (cases_eq n file);
}

-- a file was looked at again
pub known_settled : {T E : Type 0} (files now : ℕ → File) (pending : ℕ → Option Pending) (waits lost : Bool) (file : ℕ)
    (r : Result T E) → IsKnown files pending waits lost → is_some (pending file) ≡ false
    → Settling (files file) (now file) r → ((n : ℕ) → n ≢ file → now n ≡ files n) → IsKnown now pending waits lost
known_settled files now pending waits lost file r known absent rule others =
    known_one files now pending waits lost file known absent others
    (λ d. ⊎_elim (λ old. old) (λ none. absurd none) (rule.parts.dirty entry d)) (rule.parts.lost entry)

-- a call that changed one file, which isn't pending, and its name
pub known_named : (files now : ℕ → File) (pending : ℕ → Option Pending) (waits lost : Bool) (file : ℕ)
    → IsKnown files pending waits lost → is_some (pending file) ≡ false → ((n : ℕ) → n ≢ file → now n ≡ files n)
    → ((now file).lost entry ≡ true → (files file).lost entry ≡ true)
    → IsKnown now pending true lost
known_named files now pending waits lost file known absent others lost_entry = record {
  each = λ n p is. ⊎_elim (λ same. absurd (none_there pending file n p absent same is))
      (λ differs. subst (λ (f : File). IsPending f n p) (sym (others n differs)) (known.each n p is)) (cases_eq n file);
  entered = λ no. absurd (false≢true (sym no));
  found = λ no n. ⊎_elim
      (λ same. subst (λ (k : ℕ). (now k).lost entry ≡ false) (sym same)
      (not_true ((now file).lost entry) (λ l. false≢true (sym (known.found no file) ∙ lost_entry l))))
      (λ differs. subst (λ (f : File). f.lost entry ≡ false) (sym (others n differs)) (known.found no n))
      (cases_eq n file);
}

-- a sync of the folder
pub known_missed : {T E : Type 0} (files now : ℕ → File) (pending : ℕ → Option Pending) (waits lost : Bool)
    (r : Result T E) → IsKnown files pending waits lost → ((n : ℕ) → Entering (files n) (now n) r)
    → IsKnown now pending true true
known_missed files now pending waits lost r known rule = record {
  each = λ n p is. entering_pending (files n) (now n) r n p (rule n) (known.each n p is);
  entered = λ no. absurd (false≢true (sym no));
  found = λ no. absurd (false≢true (sym no));
}

pub known_entered : {T E : Type 0} (files now : ℕ → File) (pending : ℕ → Option Pending) (waits lost : Bool)
    (r : Result T E) → IsKnown files pending waits lost → ((n : ℕ) → Entering (files n) (now n) r)
    → ((n : ℕ) → (now n).dirty entry ≡ false)
    → ((n : ℕ) → (now n).lost entry ≡ true → (files n).lost entry ≡ true)
    → IsKnown now pending false lost
known_entered files now pending waits lost r known rule clean lost_entry = record {
  each = λ n p is. entering_pending (files n) (now n) r n p (rule n) (known.each n p is);
  entered = λ no n. clean n;
  found = λ no n. not_true ((now n).lost entry) (λ l. false≢true (sym (known.found no n) ∙ lost_entry n l));
}

-- a file is pending from here on, or is changed while it is
pub known_kept : (files now : ℕ → File) (pending after : ℕ → Option Pending) (waits lost : Bool) (file : ℕ)
    (q : Pending)
    → IsKnown files pending waits lost → ((n : ℕ) → n ≢ file → now n ≡ files n)
    → ((n : ℕ) → n ≢ file → after n ≡ pending n) → after file ≡ Some q → IsPending (now file) file q
    → IsKnown now after waits lost
known_kept files now pending after waits lost file q known others rest here is = record {
  each = λ n p some. ⊎_elim
      (λ same. subst (λ (k : ℕ). IsPending (now k) k p) (sym same)
      (subst (λ (x : Pending). IsPending (now file) file x)
      (some_one (sym here ∙ sym (ap after same) ∙ some)) is))
      (λ differs. subst (λ (f : File). IsPending f n p) (sym (others n differs))
      (known.each n p (sym (rest n differs) ∙ some))) (cases_eq n file);
  entered = λ no n. ⊎_elim
      (λ same. subst (λ (k : ℕ). (now k).dirty entry ≡ false) (sym same) is.changeable.name.0)
      (λ differs. subst (λ (f : File). f.dirty entry ≡ false) (sym (others n differs)) (known.entered no n))
      (cases_eq n file);
  found = λ no n. ⊎_elim
      (λ same. subst (λ (k : ℕ). (now k).lost entry ≡ false) (sym same) is.changeable.name.1)
      (λ differs. subst (λ (f : File). f.lost entry ≡ false) (sym (others n differs)) (known.found no n))
      (cases_eq n file);
}
  where
    some_one : {p : Pending} → Some q ≡ Some p → q ≡ p
    some_one e = cc

-- a file isn't pending any more
pub known_gone : (files : ℕ → File) (pending after : ℕ → Option Pending) (waits lost : Bool)
    → IsKnown files pending waits lost → ((n : ℕ) (p : Pending) → after n ≡ Some p → pending n ≡ Some p)
    → IsKnown files after waits lost
known_gone files pending after waits lost known fewer = record {
  each = λ n p is. known.each n p (fewer n p is);
  entered = known.entered;
  found = known.found;
}

-- nothing differs
pub known_same : (files now : ℕ → File) (pending : ℕ → Option Pending) (waits lost : Bool)
    → IsKnown files pending waits lost → ((n : ℕ) → now n ≡ files n) → IsKnown now pending waits lost
known_same files now pending waits lost known same = record {
  each = λ n p is. subst (λ (f : File). IsPending f n p) (sym (same n)) (known.each n p is);
  entered = λ none n. subst (λ (f : File). f.dirty entry ≡ false) (sym (same n)) (known.entered none n);
  found = λ none n. subst (λ (f : File). f.lost entry ≡ false) (sym (same n)) (known.found none n);
}

-- a pending file begins
pub settled_tracked : (file : File) (p : Pending) → IsSure file → IsTracked file p
settled_tracked file p sure = record {
  remembered = λ place none unsure. sure (octet place) unsure;
  sure = λ other part. not_true (file.lost part) (λ l. sure part (inr l));
}

pub doubtful_tracked : (file : File) (p : Pending) (count : ℕ) → p.stage ≡ Doubtful
    → ((place : ℕ) → place < count → IsWritten p.written.ranges.items place)
    → ((place : ℕ) → IsUnsure file (octet place) → place < count) → IsTracked file p
doubtful_tracked file p count stage written within = record {
  remembered = λ place none unsure. none (written place (within place unsure));
  sure = λ other. absurd (other stage);
}

pub sure_by : (file : File) → IsClean file → IsNamed file → IsSure file
sure_by file clean named (octet place) unsure = ⊎_elim (λ d. false≢true (sym (clean (octet place) tt).0 ∙ d))
    (λ l. false≢true (sym (clean (octet place) tt).1 ∙ l)) unsure
sure_by file clean named size unsure = ⊎_elim (λ d. false≢true (sym (clean size tt).0 ∙ d))
    (λ l. false≢true (sym (clean size tt).1 ∙ l)) unsure
sure_by file clean named entry unsure = ⊎_elim (λ d. false≢true (sym named.0 ∙ d)) (λ l. false≢true (sym named.1 ∙ l))
    unsure
