-- Which files are listed.
use Rattle.std.proofs.Common.{◌≡◌, ◌≢◌, ◌⊎◌, ⊎_elim, inl, inr, ℕ, ◌+◌, ◌<◌, Bool, true, false, ◌||◌, ◌&&◌, List}
use Rattle.std.proofs.Common.{length, take, get_or}
use Rattle.std.proofs.Common.{◌↔◌, Contains, refl, sym, ◌∙◌, ap, subst, arith}
use Rattle.std.proofs.lemmas.Bool.{cases_eq, false≢true}
use Rattle.std.proofs.lemmas.Bool.Decides.{nat_tests}
use Rattle.std.proofs.lemmas.List.Folds.{list_any_more}
use Rattle.std.proofs.lemmas.Map.Lookups.{exact_unsigned}
use Rattle.std.specs.declared.cmp.Ordering.{Ordering}
use Rattle.std.specs.declared.cmp.Ordering.TheVariants.{Less, Equal, Greater}
use Rattle.std.specs.Ordering.{nat_cmp, is_eq, eq_by_cmp}
use Rattle.std.specs.BTreeSet.{BTreeSet, contains, Updates}
use Rattle.std.specs.List.{list_any}
use Rattle.std.specs.Bool.{Decides}
use Rattle.std.proofs.lemmas.Map.Made.{is_member-Decides}
use Rattle.flow_disk.specs.Disk.{Marks}

-- whether a number is this one
pub same_is : (k : ℕ) → is_eq (nat_cmp k k) ≡ true
same_is k = by_order (nat_cmp k k) refl
  where
    by_order : (o : Ordering) → nat_cmp k k ≡ o → is_eq o ≡ true
    by_order Less is = absurd (grind (arith, nat_tests))
    by_order Greater is = absurd (grind (arith, nat_tests))
    by_order Equal is = refl

pub other_is : (k n : ℕ) → n ≢ k → is_eq (nat_cmp k n) ≡ false
other_is k n differs = by_order (nat_cmp k n) refl
  where
    by_order : (o : Ordering) → nat_cmp k n ≡ o → is_eq o ≡ false
    by_order Less is = refl
    by_order Greater is = refl
    by_order Equal is = absurd (differs (sym (exact_unsigned k n is)))

pub or_true : (b : Bool) → (b || true) ≡ true
or_true true = refl
or_true false = refl

or_false : (b : Bool) → (b || false) ≡ b
or_false true = refl
or_false false = refl

-- a number was inserted
pub inserted_is : (old new : BTreeSet ℕ) (k n : ℕ) → Updates nat_cmp old new k true
    → contains nat_cmp new n ≡ (contains nat_cmp old n || eq_by_cmp nat_cmp n k)
inserted_is old new k n updates = ⊎_elim
    (λ same. subst (λ (x : ℕ). contains nat_cmp new x ≡ (contains nat_cmp old x || eq_by_cmp nat_cmp x k)) (sym same)
    (updates.1 ∙ sym (ap (λ (b : Bool). contains nat_cmp old k || b) (same_is k) ∙ or_true (contains nat_cmp old k))))
    (λ differs. updates.2 n (other_is k n differs)
    ∙ sym (ap (λ (b : Bool). contains nat_cmp old n || b) (other_is n k (λ e. differs (sym e))) ∙ or_false (contains
    nat_cmp old n)))
    (cases_eq n k)

-- of those so far
pub inserted_more : (old new : BTreeSet ℕ) (list : List ℕ) (i n : ℕ) → i < length list
    → contains nat_cmp old n ≡ list_any (eq_by_cmp nat_cmp n) (take i list)
    → Updates nat_cmp old new (get_or list i 0) true
    → contains nat_cmp new n ≡ list_any (eq_by_cmp nat_cmp n) (take (i + 1) list)
inserted_more old new list i n lt so_far updates =
    inserted_is old new (get_or list i 0) n updates
    ∙ ap (λ (b : Bool). b || eq_by_cmp nat_cmp n (get_or list i 0)) so_far
    ∙ sym (list_any_more (eq_by_cmp nat_cmp n) list i 0 lt)

-- and of those that are listed
or_and : (a b c d : Bool) → ((a || (b && d)) || (c && d)) ≡ (a || ((b || c) && d))
or_and true b c d = refl
or_and false true true true = refl
or_and false true true false = refl
or_and false true false true = refl
or_and false true false false = refl
or_and false false true true = refl
or_and false false true false = refl
or_and false false false d = refl

pub added_more : (first old new : BTreeSet ℕ) (list : List ℕ) (i n : ℕ) (listed : Bool) → i < length list
    → contains nat_cmp old n ≡ (contains nat_cmp first n || (list_any (eq_by_cmp nat_cmp n) (take i list) && listed))
    → contains nat_cmp new n ≡ (contains nat_cmp old n || (eq_by_cmp nat_cmp n (get_or list i 0) && listed))
    → contains nat_cmp new n
    ≡ (contains nat_cmp first n || (list_any (eq_by_cmp nat_cmp n) (take (i + 1) list) && listed))
added_more first old new list i n listed lt so_far added =
    added ∙ ap (λ (b : Bool). b || (eq_by_cmp nat_cmp n (get_or list i 0) && listed)) so_far
    ∙ or_and (contains nat_cmp first n) (list_any (eq_by_cmp nat_cmp n) (take i list)) (eq_by_cmp nat_cmp n (get_or
    list i 0)) listed
    ∙ ap (λ (b : Bool). contains nat_cmp first n || (b && listed))
    (sym (list_any_more (eq_by_cmp nat_cmp n) list i 0 lt))

-- one file is added, where it is listed
pub and_here : (marks : ℕ → Marks) (n file : ℕ) → (marks file).listed ≡ true
    → eq_by_cmp nat_cmp n file ≡ (eq_by_cmp nat_cmp n file && (marks n).listed)
and_here marks n file is = ⊎_elim
    (λ same. subst (λ (x : ℕ). eq_by_cmp nat_cmp x file ≡ (eq_by_cmp nat_cmp x file && (marks x).listed)) (sym same)
    (by_equal (eq_by_cmp nat_cmp file file) (marks file).listed (same_is file) is))
    (λ differs. by_other (eq_by_cmp nat_cmp n file) (marks n).listed (other_is n file (λ e. differs (sym e))))
    (cases_eq n file)
  where
    by_equal : (b l : Bool) → b ≡ true → l ≡ true → b ≡ (b && l)
    by_equal b l e f = e ∙ sym (ap (λ (x : Bool). x && l) e ∙ f)

    by_other : (b l : Bool) → b ≡ false → b ≡ (b && l)
    by_other b l e = e ∙ sym (ap (λ (x : Bool). x && l) e)

pub and_not : (marks : ℕ → Marks) (n file : ℕ) → (marks file).listed ≡ false
    → (eq_by_cmp nat_cmp n file && (marks n).listed) ≡ false
and_not marks n file is = ⊎_elim
    (λ same. subst (λ (x : ℕ). (eq_by_cmp nat_cmp x file && (marks x).listed) ≡ false) (sym same)
    (ap (λ (b : Bool). b && (marks file).listed) (same_is file) ∙ is))
    (λ differs. ap (λ (b : Bool). b && (marks n).listed) (other_is n file (λ e. differs (sym e))))
    (cases_eq n file)

pub added_none : (old : Bool) (more : Bool) → more ≡ false → old ≡ (old || more)
added_none old more is = sym (ap (λ (b : Bool). old || b) is ∙ or_false old)

-- what a list has
pub member_iff : (list : List ℕ) (n : ℕ) → (list_any (eq_by_cmp nat_cmp n) list ≡ true) ↔ Contains list n
member_iff list n = let is = is_member-Decides {eq = eq_by_cmp nat_cmp} same list n in (
  λ any. is.0 any,
  λ has. is.1
      has,
)
  where
    same : (a b : ℕ) → Decides (eq_by_cmp nat_cmp a b) (a ≡ b)
    same a b = (
      λ e. ⊎_elim (λ is. is)
          (λ differs. absurd (false≢true (sym (other_is a b (λ x. differs (sym x))) ∙ e))) (cases_eq a b),
      λ is. subst (λ (x : ℕ). eq_by_cmp nat_cmp a x ≡ true) is (same_is a),
    )

and_with : (b listed : Bool) → (listed ≡ true → b ≡ true) → (b && listed) ≡ listed
and_with true true is = refl
and_with true false is = refl
and_with false true is = absurd (false≢true (is refl))
and_with false false is = refl

pub all_listed : (first new : BTreeSet ℕ) (list : List ℕ) (n : ℕ) (listed : Bool)
    → (listed ≡ true → list_any (eq_by_cmp nat_cmp n) list ≡ true)
    → contains nat_cmp new n ≡ (contains nat_cmp first n || (list_any (eq_by_cmp nat_cmp n) list && listed))
    → contains nat_cmp new n ≡ (contains nat_cmp first n || listed)
all_listed first new list n listed found is =
    is ∙ ap (λ (b : Bool). contains nat_cmp first n || b) (and_with (list_any (eq_by_cmp nat_cmp n) list) listed found)

-- the names, and what was reported
or_is : (b l : Bool) → (b ≡ true) ⊎ (l ≡ true) → (b || l) ≡ true
or_is true l any = refl
or_is false l any = ⊎_elim (λ no. absurd (false≢true no)) (λ is. is) any

pub is_or : (b l : Bool) → (b || l) ≡ true → (b ≡ true) ⊎ (l ≡ true)
is_or true l is = inl refl
is_or false l is = inr is

pub listed_all : {P Q : Type 0} (in_named linked listed : Bool) → (P ↔ Q) → (Q ↔ ((in_named || listed) ≡ true))
    → ((in_named ≡ true) ↔ (linked ≡ true)) → P ↔ ((linked || listed) ≡ true)
listed_all in_named linked listed first second third = (
  λ p. or_is linked listed (⊎_elim (λ is. inl (third.0 is)) (λ is. inr is) (is_or in_named listed (second.0 (first.0
      p)))),
  λ is. first.1 (second.1 (or_is in_named listed (⊎_elim (λ l. inl (third.1 l)) (λ l. inr l) (is_or linked listed
      is)))),
)

-- one that is among the first of a list is among those before it, or is this one
pub any_more : (list : List ℕ) (i n : ℕ) → i < length list
    → list_any (eq_by_cmp nat_cmp n) (take (i + 1) list) ≡ true
    → (list_any (eq_by_cmp nat_cmp n) (take i list) ≡ true) ⊎ (n ≡ get_or list i 0)
any_more list i n lt any = ⊎_elim (λ early. inl early) (λ here. inr (is_same n (get_or list i 0) here))
    (is_or (list_any (eq_by_cmp nat_cmp n) (take i list)) (eq_by_cmp nat_cmp n (get_or list i 0))
    (sym (list_any_more (eq_by_cmp nat_cmp n) list i 0 lt) ∙ any))
  where
    is_same : (a b : ℕ) → eq_by_cmp nat_cmp a b ≡ true → a ≡ b
    is_same a b e = ⊎_elim (λ is. is)
        (λ differs. absurd (false≢true (sym (other_is a b (λ x. differs (sym x))) ∙ e))) (cases_eq a b)
