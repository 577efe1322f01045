-- A value that reads a file is lent, or taken back.
use Rattle.std.proofs.Common.{◌≡◌, ◌≢◌, ⊎_elim, inl, inr, ℕ, Bool, true, false, Option, is_some, sym, ◌∙◌}
use Rattle.std.proofs.Common.{ap, subst}
use Rattle.std.proofs.Common.{Result, Ok, Err, OnOk, OnErr}
use Rattle.std.proofs.lemmas.Bool.{cases_eq, false≢true}
use Rattle.flow_disk.specs.Disk.{Held}
use Rattle.flow_directory.specs.File.{Part, octet, entry, File, IsUnsure}
use Rattle.flow_directory.specs.Calls.{Dirties, IsNothing, Lending}
use Rattle.flow_pending.specs.declared.pending.Pending.{Pending}
use Rattle.flow_folder_disk.specs.Known.{IsSettled, IsPending, IsKnown}
use Rattle.flow_folder_disk.proofs.Knowing.{not_true, known_one, known_same}
use Rattle.flow_folder_disk.proofs.Synced.{settled_within, held_within}

-- a call that writes nothing
pub unsure_nothing : (was now : File) → Dirties was now IsNothing → (part : Part) → IsUnsure now part
    → IsUnsure was part
unsure_nothing was now parts part unsure = ⊎_elim
    (λ dirty. ⊎_elim (λ old. inl old) (λ none. absurd none) (parts.dirty part dirty))
    (λ lost. inr (parts.lost part lost)) unsure

dirty_nothing : (was now : File) → Dirties was now IsNothing → (part : Part) → now.dirty part ≡ true
    → was.dirty part ≡ true
dirty_nothing was now parts part dirty = ⊎_elim (λ old. old) (λ none. absurd none) (parts.dirty part dirty)

pub settled_lent : (was now : File) (to : Bool) → IsSettled was → Lending was now to → IsSettled now
settled_lent was now to settled rule = settled_within was now settled (held_within was.held now.held rule.held)
    (ap (λ (h : Held). h.reads) rule.held)
    (λ part unsure. settled.sure part (unsure_nothing was now rule.parts part unsure))

-- one that was lent, or not
pub settled_lending : {T E : Type 0} (was now : File) (r : Result T E) → IsSettled was → OnOk r (Lending was now true)
    → OnErr r (now ≡ was) → IsSettled now
settled_lending was now (Ok x) settled done failed = settled_lent was now true settled done
settled_lending was now (Err e) settled done failed = subst (λ (f : File). IsSettled f) (sym failed) settled

pub held_lending : {T E : Type 0} (was now : File) (r : Result T E) → OnOk r (Lending was now true)
    → OnErr r (now ≡ was) → now.held ≡ was.held
held_lending was now (Ok x) done failed = done.held
held_lending was now (Err e) done failed = ap (λ (f : File). f.held) failed

pub linked_lending : {T E : Type 0} (was now : File) (r : Result T E) → OnOk r (Lending was now true)
    → OnErr r (now ≡ was) → now.linked ≡ was.linked
linked_lending was now (Ok x) done failed = done.linked
linked_lending was now (Err e) done failed = ap (λ (f : File). f.linked) failed

pub stays_here : {T E : Type 0} (files now : ℕ → File) (file : ℕ) (r : Result T E)
    → OnErr r ((n : ℕ) → now n ≡ files n) → OnErr r (now file ≡ files file)
stays_here files now file (Ok x) same = tt
stays_here files now file (Err e) same = same file

pub known_lending : {T E : Type 0} (files now : ℕ → File) (pending : ℕ → Option Pending) (waits lost : Bool) (file : ℕ)
    (r : Result T E) → IsKnown files pending waits lost → is_some (pending file) ≡ false
    → OnOk r (Lending (files file) (now file) true) → OnErr r ((n : ℕ) → now n ≡ files n)
    → ((n : ℕ) → n ≢ file → now n ≡ files n) → IsKnown now pending waits lost
known_lending files now pending waits lost file (Ok x) known absent done failed others =
    known_one files now pending waits lost file known absent others
    (dirty_nothing (files file) (now file) done.parts entry)
    (done.parts.lost entry)
known_lending files now pending waits lost file (Err e) known absent done failed others =
    known_same files now pending waits lost known failed

-- what is remembered of a pending one stays true
pending_back : (was now : File) (n : ℕ) (p : Pending) → IsPending was n p → Lending was now false → IsPending now n p
pending_back was now n p is rule = record {
  number_is = is.number_is;
  changeable = record {
    name = (
      not_true (now.dirty entry) (λ d. false≢true (sym is.changeable.name.0
          ∙ dirty_nothing was now rule.parts entry d)),
      not_true (now.lost entry) (λ l. false≢true (sym is.changeable.name.1 ∙ rule.parts.lost entry l)),
    );
    writable = rule.read_only ∙ is.changeable.writable;
    free = rule.lent;
  };
  tracked = record {
    remembered = λ place none unsure. is.tracked.remembered place none
        (unsure_nothing was now rule.parts (octet place) unsure);
    sure = λ other part. not_true (now.lost part)
        (λ l. false≢true (sym (is.tracked.sure other part) ∙ rule.parts.lost part l));
  };
}

pub known_back : (files now : ℕ → File) (pending : ℕ → Option Pending) (waits lost : Bool) (file : ℕ)
    → IsKnown files pending waits lost → Lending (files file) (now file) false
    → ((n : ℕ) → n ≢ file → now n ≡ files n) → IsKnown now pending waits lost
known_back files now pending waits lost file known rule others = record {
  each = λ n p is. ⊎_elim
      (λ same. subst (λ (k : ℕ). IsPending (now k) k p) (sym same) (pending_back (files file) (now file) file p
      (subst (λ (k : ℕ). IsPending (files k) k p) same (known.each n p is)) rule))
      (λ differs. subst (λ (f : File). IsPending f n p) (sym (others n differs)) (known.each n p is)) (cases_eq n file);
  entered = λ no n. ⊎_elim
      (λ same. subst (λ (k : ℕ). (now k).dirty entry ≡ false) (sym same) (not_true ((now file).dirty entry)
      (λ d. false≢true (sym (known.entered no file) ∙ dirty_nothing (files file) (now file) rule.parts entry d))))
      (λ differs. subst (λ (f : File). f.dirty entry ≡ false) (sym (others n differs)) (known.entered no n))
      (cases_eq n file);
  found = λ no n. ⊎_elim
      (λ same. subst (λ (k : ℕ). (now k).lost entry ≡ false) (sym same) (not_true ((now file).lost entry)
      (λ l. false≢true (sym (known.found no file) ∙ rule.parts.lost entry l))))
      (λ differs. subst (λ (f : File). f.lost entry ≡ false) (sym (others n differs)) (known.found no n))
      (cases_eq n file);
}
