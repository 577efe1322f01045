-- Files that several owners share.
use Rattle.std.proofs.Common.{◌≡◌, ℕ, zero, suc, Bool, true, false, List, [], ◌∷◌, ◌++◌, map, drop, refl, sym, ap}
use Rattle.std.proofs.Common.{subst, ◌∙◌}
use Rattle.std.specs.Prelude.{◌&&◌, IsTrue, OnErr, OnOk, Result, Ok, Err}
use Rattle.std.specs.List.{AllZip, list_all}
use Rattle.std.specs.Arc.{arc_value}
use Rattle.std.specs.declared.sync.Arc.{Arc}
use Rattle.std.proofs.lemmas.List.{drop-map, map-append}
use Rattle.flow_disk.specs.declared.sealed.SealedFile.{Ghosts}
use Rattle.flow_snapshot.specs.declared.files.Files.{Files}
use Rattle.flow_snapshot.specs.Files.{is_honest, is_honest_sum, rollup_of, segment_of, shared}
use Rattle.flow_snapshot.specs.Directories.{sight_of}

pub shared_same : {P Z : Type 0} (xs ys : List (Arc P Z)) → AllZip (λ c d. arc_value d ≡ arc_value c) xs ys
    → shared ys ≡ shared xs
shared_same [] [] h = refl
shared_same [] (y ∷ ys) h = absurd h
shared_same (x ∷ xs) [] h = absurd h
shared_same {P} (x ∷ xs) (y ∷ ys) h =
    ap (λ (v : P). v ∷ shared ys) h.0 ∙ ap (λ (vs : List P). arc_value x ∷ vs) (shared_same xs ys h.1)

pub messages_same : (xs ys : List (List ℕ)) → AllZip (λ b copy. copy ≡ b) xs ys → ys ≡ xs
messages_same [] [] h = refl
messages_same [] (y ∷ ys) h = absurd h
messages_same (x ∷ xs) [] h = absurd h
messages_same (x ∷ xs) (y ∷ ys) h =
    ap (λ (v : List ℕ). v ∷ ys) h.0 ∙ ap (λ (vs : List (List ℕ)). x ∷ vs) (messages_same xs ys h.1)

-- files that share the same are seen as the same
pub same_sight : {F X : Type 0} {files : Ghosts F X} (f h : Files F X files)
    → shared f.merged.items ≡ shared h.merged.items → shared f.rolled.items ≡ shared h.rolled.items
    → shared f.sealed.items ≡ shared h.sealed.items → f.prefix ≡ h.prefix → f.active.items ≡ h.active.items
    → (width wide : ℕ) → sight_of width wide f ≡ sight_of width wide h
same_sight f h merged rolled sealed prefix active width wide = λ i. record {
  honest = list_all is_honest_sum (merged i) && list_all is_honest_sum (rolled i) && list_all is_honest (sealed i);
  shelf = record {
    width = width;
    wide = wide;
    merged = map rollup_of (merged i);
    rolled = map rollup_of (rolled i);
    sealed = map segment_of (sealed i);
    prefix = prefix i;
    active = active i;
  };
}

-- one more at the end, which is shared with another owner
pub shared_then : {P Z V : Type 0} (f : P → V) (xs zs : List (Arc P Z)) (a p : Arc P Z) → zs ≡ xs ++ a ∷ []
    → arc_value a ≡ arc_value p → map f (shared zs) ≡ map f (shared xs) ++ f (arc_value p) ∷ []
shared_then {P} {Z} {V} f xs zs a p is same =
    ap (λ (list : List (Arc P Z)). map f (shared list)) is ∙ ap (map f) (map-append arc_value xs (a ∷ []))
    ∙ map-append f (shared xs) (arc_value a ∷ [])
    ∙ ap (λ (v : P). map f (shared xs) ++ f v ∷ []) same

-- without the first ones
pub shared_rest : {P Z V : Type 0} (f : P → V) (k : ℕ) (xs zs : List (Arc P Z)) → zs ≡ drop k xs
    → map f (shared zs) ≡ drop k (map f (shared xs))
shared_rest {P} {Z} f k xs zs is =
    ap (λ (list : List (Arc P Z)). map f (shared list)) is ∙ ap (map f) (sym (drop-map arc_value k xs))
    ∙ sym (drop-map f k (shared xs))

-- ---- honest files

pub both : (a b : Bool) → IsTrue a → IsTrue b → IsTrue (a && b)
both true b p q = q
both false b p q = p

pub first_of_two : (a b : Bool) → IsTrue (a && b) → IsTrue a
first_of_two true b p = refl
first_of_two false b p = p

pub second_of_two : (a b : Bool) → IsTrue (a && b) → IsTrue b
second_of_two true b p = p
second_of_two false b p = absurd cc

pub all_then : {P : Type 0} (test : P → Bool) (xs : List P) (x : P) → IsTrue (list_all test xs) → IsTrue (test x)
    → IsTrue (list_all test (xs ++ x ∷ []))
all_then test [] x h is = both (test x) true is refl
all_then test (y ∷ ys) x h is =
    both (test y) (list_all test (ys ++ x ∷ [])) (first_of_two (test y) (list_all test ys) h)
    (all_then test ys x (second_of_two (test y) (list_all test ys) h) is)

pub all_rest : {P : Type 0} (test : P → Bool) (k : ℕ) (xs : List P) → IsTrue (list_all test xs)
    → IsTrue (list_all test (drop k xs))
all_rest test zero xs h = h
all_rest test (suc k) [] h = h
all_rest test (suc k) (x ∷ xs) h = all_rest test k xs (second_of_two (test x) (list_all test xs) h)

honest_then : {P Z : Type 0} (test : P → Bool) (xs zs : List (Arc P Z)) (a p : Arc P Z) → zs ≡ xs ++ a ∷ []
    → arc_value a ≡ arc_value p → IsTrue (list_all test (shared xs)) → IsTrue (test (arc_value p))
    → IsTrue (list_all test (shared zs))
honest_then {P} {Z} test xs zs a p is same h here =
    subst (λ (vs : List P). IsTrue (list_all test vs))
    (sym (ap shared is ∙ map-append arc_value xs (a ∷ []) ∙ ap (λ (v : P). shared xs ++ v ∷ []) same))
    (all_then test (shared xs) (arc_value p) h here)

honest_rest : {P Z : Type 0} (test : P → Bool) (k : ℕ) (xs zs : List (Arc P Z)) → zs ≡ drop k xs
    → IsTrue (list_all test (shared xs)) → IsTrue (list_all test (shared zs))
honest_rest {P} test k xs zs is h =
    subst (λ (vs : List P). IsTrue (list_all test vs)) (sym (ap shared is ∙ sym (drop-map arc_value k xs)))
    (all_rest test k (shared xs) h)

-- of three lists the second grows and the third loses its first files
pub still_honest_rolled : {P Q Z : Type 0} (test : P → Bool) (other : Q → Bool) (m : Bool) (rs xs : List (Arc P Z))
    (gs ys : List (Arc Q Z)) (a p : Arc P Z) (k : ℕ) → xs ≡ rs ++ a ∷ [] → arc_value a ≡ arc_value p → ys ≡ drop k gs
    → IsTrue ((m && list_all test (shared rs)) && list_all other (shared gs)) → IsTrue (test (arc_value p))
    → IsTrue ((m && list_all test (shared xs)) && list_all other (shared ys))
still_honest_rolled test other m rs xs gs ys a p k is same left h here =
    let front = first_of_two (m && list_all test (shared rs)) (list_all other (shared gs)) h in
    both (m && list_all test (shared xs)) (list_all other (shared ys))
    (both m (list_all test (shared xs)) (first_of_two m (list_all test (shared rs)) front)
    (honest_then test rs xs a p is same (second_of_two m (list_all test (shared rs)) front) here))
    (honest_rest other k gs ys left
    (second_of_two (m && list_all test (shared rs)) (list_all other (shared gs)) h))

-- the first grows and the second loses its first files
pub still_honest_merged : {P Z : Type 0} (test : P → Bool) (m : Bool) (rs xs gs ys : List (Arc P Z)) (a p : Arc P Z)
    (k : ℕ) → xs ≡ rs ++ a ∷ [] → arc_value a ≡ arc_value p → ys ≡ drop k gs
    → IsTrue ((list_all test (shared rs) && list_all test (shared gs)) && m) → IsTrue (test (arc_value p))
    → IsTrue ((list_all test (shared xs) && list_all test (shared ys)) && m)
still_honest_merged test m rs xs gs ys a p k is same left h here =
    let front = first_of_two (list_all test (shared rs) && list_all test (shared gs)) m h in
    both (list_all test (shared xs) && list_all test (shared ys)) m
    (both (list_all test (shared xs)) (list_all test (shared ys))
    (honest_then test rs xs a p is same
    (first_of_two (list_all test (shared rs)) (list_all test (shared gs)) front) here)
    (honest_rest test k gs ys left (second_of_two (list_all test (shared rs)) (list_all test (shared gs)) front)))
    (second_of_two (list_all test (shared rs) && list_all test (shared gs)) m h)

-- ---- by cases of an answer

pub on_ok : {X E : Type 0} (r : Result X E) (P Q : Type 0) → (P → Q) → OnOk r P → OnOk r Q
on_ok (Ok x) P Q f h = f h
on_ok (Err e) P Q f h = tt

pub on_err : {X E : Type 0} (r : Result X E) (P Q : Type 0) → (P → Q) → OnErr r P → OnErr r Q
on_err (Ok x) P Q f h = tt
on_err (Err e) P Q f h = f h
