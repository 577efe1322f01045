-- A file that becomes pending.
use Rattle.std.proofs.Common.{◌≡◌, ◌≢◌, ℕ, Bool, true, false, cond, is_some, Option, None, Some, refl, sym, ◌∙◌, ap}
use Rattle.std.proofs.Common.{subst}
use Rattle.std.proofs.Common.{Result, Ok, Err, OnOk, OnErr}
use Rattle.std.proofs.Common.{⊎_elim}
use Rattle.std.proofs.lemmas.Bool.{cases_eq, false≢true}
use Rattle.std.proofs.lemmas.Map.Lookups.{exact_unsigned}
use Rattle.std.specs.declared.cmp.Ordering.{Ordering}
use Rattle.std.specs.declared.cmp.Ordering.TheVariants.{Less, Equal, Greater}
use Rattle.std.specs.Ordering.{nat_cmp, is_eq}
use Rattle.std.specs.BTreeMap.{BTreeMap, get, is_at, Updates, UpdatesBy, IsUnchanged}
use Rattle.flow_directory.specs.File.{File}
use Rattle.flow_pending.specs.declared.pending.Pending.{Pending}
use Rattle.flow_pending.specs.Tracked.{IsChangeable, IsTracked}
use Rattle.flow_folder_disk.specs.Known.{IsPending, IsKnown}
use Rattle.flow_folder_disk.proofs.Knowing.{known_kept, known_gone, known_same}

-- a key that differs isn't found there
not_at : (file n : ℕ) → n ≢ file → is_at (nat_cmp file) n ≡ false
not_at file n differs = by_order (nat_cmp file n) refl
  where
    by_order : (o : Ordering) → nat_cmp file n ≡ o → is_eq o ≡ false
    by_order Less is = refl
    by_order Greater is = refl
    by_order Equal is = absurd (differs (sym (exact_unsigned file n is)))

pub known_inserted : {T E : Type 0} (files : ℕ → File) (m n : BTreeMap ℕ Pending) (waits lost : Bool) (file : ℕ)
    (q : Pending) (r : Result T E) → IsKnown files (λ k. get nat_cmp m k) waits lost → IsPending (files file) file q
    → OnOk r (Updates nat_cmp m n file (Some q)) → OnErr r (IsUnchanged m n)
    → IsKnown files (λ k. get nat_cmp n k) waits lost
known_inserted files m n waits lost file q (Ok x) known is updates same =
    known_kept files files (λ k. get nat_cmp m k) (λ k. get nat_cmp n k) waits lost file q known (λ k differs. refl)
    (λ k differs. updates.2 k (not_at file k differs)) updates.1 is
known_inserted files m n waits lost file q (Err e) known is updates same =
    known_gone files (λ k. get nat_cmp m k) (λ k. get nat_cmp n k) waits lost known
    (λ k p some. sym (unchanged k) ∙ some)
  where
    unchanged : (k : ℕ) → get nat_cmp n k ≡ get nat_cmp m k
    unchanged k = rw same refl

-- a file that isn't pending any more
pub known_removed : (files now : ℕ → File) (m n : BTreeMap ℕ Pending) (waits lost : Bool) (file : ℕ)
    → IsKnown files (λ k. get nat_cmp m k) waits lost → UpdatesBy nat_cmp (nat_cmp file) m n None
    → ((k : ℕ) → now k ≡ files k) → IsKnown now (λ k. get nat_cmp n k) waits lost
known_removed files now m n waits lost file known updates same =
    known_same files now (λ k. get nat_cmp n k) waits lost
    (known_gone files (λ k. get nat_cmp m k) (λ k. get nat_cmp n k) waits lost known fewer) same
  where
    fewer : (k : ℕ) (p : Pending) → get nat_cmp n k ≡ Some p → get nat_cmp m k ≡ Some p
    fewer k p some = by_test (is_at (nat_cmp file) k) refl
      where
        by_test : (b : Bool) → is_at (nat_cmp file) k ≡ b → get nat_cmp m k ≡ Some p
        by_test true is = absurd (false≢true (ap (λ (o : Option Pending). is_some o)
            (sym (ap (λ (b : Bool). cond b None (get nat_cmp m k)) is) ∙ sym (updates.0 k) ∙ some)))
        by_test false is = sym (updates.2 k is) ∙ some

-- a pending file was changed
pub known_written : (files now : ℕ → File) (m n : BTreeMap ℕ Pending) (waits lost : Bool) (file : ℕ) (p q : Pending)
    → IsKnown files (λ k. get nat_cmp m k) waits lost → get nat_cmp m file ≡ Some p
    → UpdatesBy nat_cmp (nat_cmp file) m n (Some q) → ((k : ℕ) → k ≢ p.file → now k ≡ files k) → q.file ≡ p.file
    → IsChangeable (now p.file) → IsTracked (now p.file) q
    → IsKnown now (λ k. get nat_cmp n k) waits lost
known_written files now m n waits lost file p q known some updates others same changeable tracked =
    known_kept files now (λ k. get nat_cmp m k) (λ k. get nat_cmp n k) waits lost file q known
    (λ k differs. others k (λ is. differs (is ∙ number)))
    (λ k differs. updates.2 k (not_at file k differs)) updates.1
    (record {
      number_is = same ∙ number;
      changeable = subst (λ (k : ℕ). IsChangeable (now k)) number changeable;
      tracked = subst (λ (k : ℕ). IsTracked (now k) q) number tracked;
    })
  where
    number : p.file ≡ file
    number = (known.each file p some).number_is

-- and is pending still, as is each that was
pub pending_written : (m n : BTreeMap ℕ Pending) (file : ℕ) (p q : Pending) → get nat_cmp m file ≡ Some p
    → UpdatesBy nat_cmp (nat_cmp file) m n (Some q) → (k : ℕ)
    → is_some (get nat_cmp n k) ≡ is_some (get nat_cmp m k)
pending_written m n file p q some updates k = ⊎_elim
    (λ same. subst (λ (j : ℕ). is_some (get nat_cmp n j) ≡ is_some (get nat_cmp m j)) (sym same)
    (ap (λ (o : Option Pending). is_some o) updates.1 ∙ sym (ap (λ (o : Option Pending). is_some o) some)))
    (λ differs. ap (λ (o : Option Pending). is_some o) (updates.2 k (not_at file k differs)))
    (cases_eq k file)
