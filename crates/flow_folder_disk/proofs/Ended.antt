-- Files that are made read-only.
use Rattle.std.proofs.Common.{◌≡◌, ◌≢◌, ⊎_elim, inl, inr, ℕ, ◌+◌, ◌<◌, ◌≤◌, Bool, true, false, ◌&&◌, not, cond, List}
use Rattle.std.proofs.Common.{length, take, get_or, refl, sym, ◌∙◌, ap, subst, arith, Result, Ok, Err, OnOk, OnErr}
use Rattle.std.proofs.lemmas.Bool.{cases_eq, false≢true}
use Rattle.std.proofs.lemmas.List.Sums.{count_by_more_yes, count_by_more_no, sum_by-le-sum_by}
use Rattle.std.specs.List.{count_by}
use Rattle.std.specs.Result.{result_and, is_ok}
use Rattle.std.specs.Ordering.{nat_cmp, eq_by_cmp}
use Rattle.std.specs.List.{list_any}
use Rattle.flow_disk.specs.Cause.{HasRisen, FailsOnlyByFault}
use Rattle.flow_disk.specs.Disk.{Marks}
use Rattle.flow_disk.specs.declared.error.DiskError.{DiskError}
use Rattle.flow_disk.specs.Moments.{Passes}
use Rattle.flow_directory.specs.File.{File, held_of}
use Rattle.flow_folder_disk.specs.Ended.{is_left, left_of, HasRisenBy}
use Rattle.flow_folder_disk.specs.Known.{IsMarked, IsReached, IsSeen, KeepsAll, Leaves}
use Rattle.flow_folder_disk.proofs.Kept.{held_all, linked_all}
use Rattle.flow_folder_disk.proofs.Listed.{any_more}
use Rattle.flow_folder_disk.proofs.Removing.{on_ok}
use Rattle.flow_folder_disk.proofs.Reports.{elapses_still, passes_then}

module _ {D : Type 0} (files : D → ℕ → File) (moment : D → ℕ) (left : D → ℕ → (ℕ → List ℕ) → Type 0) where
  pub keeps_one : (a b : D) (file : ℕ) → IsReached (files a file) (files b file)
      → Leaves files moment left a b file (held_of (files a)) → KeepsAll files moment left a b
  keeps_one a b file reached leaves = record {
    held = held_all (files a) (files b) file reached.held leaves.others;
    linked = linked_all (files a) (files b) file reached.linked leaves.others;
    time = leaves.time;
  }

  pub keeps_same : (a b : D) → b ≡ a → KeepsAll files moment left a b
  keeps_same a b same = record {
    held = λ n. ap (λ (x : D). (files x n).held) same;
    linked = λ n. ap (λ (x : D). (files x n).linked) same;
    time = subst (λ (x : D). Passes moment left a x (held_of (files a))) (sym same)
        (elapses_still (moment a) (left a) (held_of (files a)));
  }

  pub keeps_then : (a b c : D) → KeepsAll files moment left a b → KeepsAll files moment left b c
      → KeepsAll files moment left a c
  keeps_then a b c first second = record {
    held = λ n. second.held n ∙ first.held n;
    linked = λ n. second.linked n ∙ first.linked n;
    time = passes_then files moment left a b c first.time first.held second.time;
  }

-- others are as they were
pub marked_still : (files now : ℕ → File) (file : ℕ) → (IsMarked (files file) → IsMarked (now file))
    → ((n : ℕ) → n ≢ file → IsSeen (files n) (now n)) → (n : ℕ) → IsMarked (files n) → IsMarked (now n)
marked_still files now file here others n is = ⊎_elim
    (λ same. subst (λ (k : ℕ). IsMarked (files k) → IsMarked (now k)) (sym same) here is)
    (λ differs linked. (others n differs).status.read_only ∙ is (sym (others n differs).status.linked ∙ linked))
    (cases_eq n file)

-- of those so far
pub marked_more : (files now : ℕ → File) (settled : ℕ → Type 0) (list : List ℕ) (i : ℕ) → i < length list
    → ((n : ℕ) → list_any (eq_by_cmp nat_cmp n) (take i list) ≡ true → settled n → IsMarked (files n))
    → ((n : ℕ) → IsMarked (files n) → IsMarked (now n))
    → (settled (get_or list i 0) → IsMarked (now (get_or list i 0)))
    → (n : ℕ) → list_any (eq_by_cmp nat_cmp n) (take (i + 1) list) ≡ true → settled n → IsMarked (now n)
marked_more files now settled list i lt so_far still here n any is = ⊎_elim
    (λ early. still n (so_far n early is))
    (λ same. subst (λ (k : ℕ). IsMarked (now k)) (sym same) (here (subst settled same is)))
    (any_more list i n lt any)

-- a file that is marked isn't left
not_left : (marks : Marks) (file : File) → (marks.settled ≡ true → IsMarked file) → is_left marks file ≡ false
not_left marks file marked = by marks.settled file.linked file.read_only marked
  where
    by : (s l r : Bool) → (s ≡ true → l ≡ true → r ≡ true) → (s && (l && not r)) ≡ false
    by false l r is = refl
    by true false r is = refl
    by true true true is = refl
    by true true false is = absurd (false≢true (is refl refl))

-- one that is left was so before
left_before : (marks : Marks) (file now : File) → now.linked ≡ file.linked → (IsMarked file → IsMarked now)
    → cond (is_left marks now) 1 0 ≤ cond (is_left marks file) 1 0
left_before marks file now same still =
    by marks.settled now.linked now.read_only file.linked file.read_only same still
  where
    by : (s l r k q : Bool) → l ≡ k → ((k ≡ true → q ≡ true) → l ≡ true → r ≡ true)
        → cond (s && (l && not r)) 1 0 ≤ cond (s && (k && not q)) 1 0
    by false l r k q e is = omega arith
    by true false r k q e is = omega arith
    by true true true k q e is = omega arith
    by true true false false q e is = absurd (false≢true (sym e))
    by true true false true false e is = omega arith
    by true true false true true e is = absurd (false≢true (is (λ t. refl) refl))

-- so a call leaves no more
left_still : (marks : ℕ → Marks) (files now : ℕ → File) (list : List ℕ)
    → ((n : ℕ) → (now n).linked ≡ (files n).linked) → ((n : ℕ) → IsMarked (files n) → IsMarked (now n))
    → left_of marks now list ≤ left_of marks files list
left_still marks files now list same still = sum_by-le-sum_by
    (λ n. cond (is_left (marks n) (now n)) 1 0) (λ n. cond (is_left (marks n) (files n)) 1 0) list
    (λ n. left_before (marks n) (files n) (now n) (same n) (still n))

one_more : (p : ℕ → Bool) (xs : List ℕ) (k : ℕ) → k < length xs
    → count_by p (take (k + 1) xs) ≤ count_by p (take k xs) + 1
one_more p xs k at = by (p (get_or xs k 0)) refl
  where
    by : (b : Bool) → p (get_or xs k 0) ≡ b → count_by p (take (k + 1) xs) ≤ count_by p (take k xs) + 1
    by true is = let more = count_by_more_yes p xs k 0 at is in omega (arith, more)
    by false is = let more = count_by_more_no p xs k 0 at is in omega (arith, more)

-- and of the files so far as many as faults
pub left_more : {T E : Type 0} (marks : ℕ → Marks) (files now : ℕ → File) (list : List ℕ) (i before was after : ℕ)
    (result : Result T E) → i < length list → ((n : ℕ) → (now n).linked ≡ (files n).linked)
    → ((n : ℕ) → IsMarked (files n) → IsMarked (now n))
    → OnOk result ((marks (get_or list i 0)).settled ≡ true → IsMarked (now (get_or list i 0)))
    → was ≤ after → OnErr result (HasRisen was after) → HasRisenBy (left_of marks files (take i list)) before was
    → HasRisenBy (left_of marks now (take (i + 1) list)) before after
left_more marks files now list i before was after (Ok x) lt same still marked le risen by =
    let none = count_by_more_no (λ n. is_left (marks n) (now n)) list i 0 lt
    (not_left (marks (get_or list i 0)) (now (get_or list i 0)) marked) in
    let less = left_still marks files now (take i list) same still in
    ⊎_elim (λ a. inl (omega (arith, none, less, a, le))) (λ a. inr (omega (arith, a, le))) by
left_more marks files now list i before was after (Err e) lt same still marked le risen by =
    let less = left_still marks files now (take i list) same still in
    ⊎_elim
    (λ a. ⊎_elim (λ b. inl (omega (arith, a, b, less, one_more (λ n. is_left (marks n) (now n)) list i lt)))
    (λ b. inr b) risen)
    (λ a. inr (omega (arith, a, le))) by

on_err : {T E : Type 0} {A B : Type 0} (r : Result T E) → (A → B) → OnErr r A → OnErr r B
on_err (Ok x) f is = tt
on_err (Err e) f is = f is

-- a call, and then another, refused where either is
pub fails_then : {T : Type 0} (before was now : ℕ) (first second : Result T DiskError)
    → FailsOnlyByFault before was first → FailsOnlyByFault was now second
    → FailsOnlyByFault before now (result_and first second)
fails_then before was now (Ok x) second one two = record {
  later = let a = one.later in let b = two.later in omega (arith, a, b);
  done = on_ok second (λ same. same ∙ one.done) two.done;
  risen = on_err second (λ up. subst (λ (k : ℕ). HasRisen k now) one.done up) two.risen;
  memory = two.memory;
}
fails_then before was now (Err e) second one two = record {
  later = let a = one.later in let b = two.later in omega (arith, a, b);
  done = tt;
  risen = let b = two.later in ⊎_elim (λ a. inl (omega (arith, a, b))) (λ a. inr (omega (arith, a, b))) one.risen;
  memory = one.memory;
}

pub fails_none : {T : Type 0} {x : T} (now : ℕ) → FailsOnlyByFault now now (Ok x)
fails_none now = record { later = omega arith; done = refl; risen = tt; memory = λ is. false≢true (sym (ap is_ok is)) }

-- what both say, where both are good
pub ok_both : {T U E : Type 0} {A B C : Type 0} (r : Result T E) (s : Result U E) → (A → B → C) → OnOk r A → OnOk s B
    → OnOk (result_and r s) C
ok_both (Ok x) (Ok y) f a b = f a b
ok_both (Ok x) (Err e) f a b = tt
ok_both (Err e) s f a b = tt
