-- Lists of entries and their parts.
use Rattle.std.proofs.Common.{◌≡◌, ◌≢◌, ⊎_elim, ℕ, zero, suc, ◌+◌, ◌<◌, ◌≤◌, Bool, List, [], ◌∷◌, ◌++◌}
use Rattle.std.proofs.Common.{length, take, drop, refl, sym, subst, arith}
use Rattle.std.specs.Prelude.{◌==◌, nat_lt, cond}
use Rattle.std.specs.List.{AllByRecursion, sum_by}
use Rattle.std.proofs.lemmas.List.{take-append-drop}
use Rattle.std.proofs.lemmas.List.Sums.{sum_by-cons}
use Rattle.std.proofs.lemmas.Bool.{cases_lt}
use Rattle.std.proofs.lemmas.Bool.Decides.{nat_tests}
use Rattle.flow_manifest.specs.declared.manifest.Kind.{Kind}
use Rattle.flow_manifest.specs.declared.manifest.Entry.{Entry}
use Rattle.flow_manifest.specs.Manifest.{IsInOrder, HaveOwnFiles, rank}
use Rattle.flow_manifest.specs.Following.{count_of, count_before, messages_of}

-- ---- what holds of each

pub all_left : (P : Entry → Type 0) (xs ys : List Entry) → AllByRecursion P (xs ++ ys) → AllByRecursion P xs
all_left P [] ys all = tt
all_left P (e ∷ xs) ys all = (all.0, all_left P xs ys all.1)

pub all_right : (P : Entry → Type 0) (xs ys : List Entry) → AllByRecursion P (xs ++ ys) → AllByRecursion P ys
all_right P [] ys all = all
all_right P (e ∷ xs) ys all = all_right P xs ys all.1

pub all_join : (P : Entry → Type 0) (xs ys : List Entry) → AllByRecursion P xs → AllByRecursion P ys
    → AllByRecursion P (xs ++ ys)
all_join P [] ys all others = others
all_join P (e ∷ xs) ys all others = (all.0, all_join P xs ys all.1 others)

pub all_by : (P Q : Entry → Type 0) → ((e : Entry) → P e → Q e) → (xs : List Entry) → AllByRecursion P xs
    → AllByRecursion Q xs
all_by P Q so [] all = tt
all_by P Q so (e ∷ xs) all = (so e all.0, all_by P Q so xs all.1)

pub all_both : (P Q R : Entry → Type 0) → ((e : Entry) → P e → Q e → R e) → (xs : List Entry) → AllByRecursion P xs
    → AllByRecursion Q xs → AllByRecursion R xs
all_both P Q R so [] all too = tt
all_both P Q R so (e ∷ xs) all too = (so e all.0 too.0, all_both P Q R so xs all.1 too.1)

pub all_take : (P : Entry → Type 0) (n : ℕ) (xs : List Entry) → AllByRecursion P xs → AllByRecursion P (take n xs)
all_take P n xs all = all_left P (take n xs) (drop n xs) (subst (AllByRecursion P) (sym (take-append-drop n xs)) all)

pub all_drop : (P : Entry → Type 0) (n : ℕ) (xs : List Entry) → AllByRecursion P xs → AllByRecursion P (drop n xs)
all_drop P n xs all = all_right P (take n xs) (drop n xs) (subst (AllByRecursion P) (sym (take-append-drop n xs)) all)

-- ---- files

-- no file of one list is one of another
abbrev pub AreApart : List Entry → List Entry → Type 0
AreApart xs ys = AllByRecursion (λ e. AllByRecursion (λ o. o.file ≢ e.file) ys) xs

pub own_left : (xs ys : List Entry) → HaveOwnFiles (xs ++ ys) → HaveOwnFiles xs
own_left [] ys own = tt
own_left (e ∷ xs) ys own = (all_left (λ o. o.file ≢ e.file) xs ys own.0, own_left xs ys own.1)

pub own_right : (xs ys : List Entry) → HaveOwnFiles (xs ++ ys) → HaveOwnFiles ys
own_right [] ys own = own
own_right (e ∷ xs) ys own = own_right xs ys own.1

pub own_apart : (xs ys : List Entry) → HaveOwnFiles (xs ++ ys) → AreApart xs ys
own_apart [] ys own = tt
own_apart (e ∷ xs) ys own = (all_right (λ o. o.file ≢ e.file) xs ys own.0, own_apart xs ys own.1)

pub own_join : (xs ys : List Entry) → HaveOwnFiles xs → HaveOwnFiles ys → AreApart xs ys → HaveOwnFiles (xs ++ ys)
own_join [] ys own others apart = others
own_join (e ∷ xs) ys own others apart =
    (all_join (λ o. o.file ≢ e.file) xs ys own.0 apart.0, own_join xs ys own.1 others apart.1)

-- ---- order

-- no entry comes before one of a lower rank
abbrev pub AreSorted : List Entry → Type 0
AreSorted [] = Unit {0}
AreSorted (e ∷ xs) = AllByRecursion (λ o. rank e.kind ≤ rank o.kind) xs × AreSorted xs

pub sorted : (xs : List Entry) → IsInOrder xs → AreSorted xs
sorted [] is = tt
sorted (e ∷ []) is = (tt, tt)
sorted (e ∷ f ∷ xs) is =
    let others = sorted (f ∷ xs) is.2 in (
      (
        is.1,
        all_by (λ o. rank f.kind ≤ rank o.kind) (λ o. rank e.kind ≤ rank o.kind)
            (λ o le. omega (arith, le, is.1)) xs others.0,
      ),
      others,
    )

-- the last one is the active segment
pub order_last : (xs : List Entry) (x : Entry) → IsInOrder (xs ++ x ∷ []) → rank x.kind ≡ 3
order_last [] x is = is
order_last (e ∷ []) x is = is.2
order_last (e ∷ f ∷ xs) x is = order_last (f ∷ xs) x is.2

-- and the others are not
pub order_front : (xs : List Entry) (x : Entry) → IsInOrder (xs ++ x ∷ []) → AllByRecursion (λ e. rank e.kind < 3) xs
order_front [] x is = tt
order_front (e ∷ []) x is = (is.0, tt)
order_front (e ∷ f ∷ xs) x is = (is.0, order_front (f ∷ xs) x is.2)

pub order_right : (xs ys : List Entry) → 1 ≤ length ys → IsInOrder (xs ++ ys) → IsInOrder ys
order_right [] ys some is = is
order_right (e ∷ []) [] some is = absurd (omega (arith, some))
order_right (e ∷ []) (y ∷ ys) some is = is.2
order_right (e ∷ f ∷ xs) ys some is = order_right (f ∷ xs) ys some is.2

pub order_cons : (n : Entry) (ys : List Entry) → rank n.kind < 3 → 1 ≤ length ys
    → AllByRecursion (λ e. rank n.kind ≤ rank e.kind) ys → IsInOrder ys → IsInOrder (n ∷ ys)
order_cons n [] below some high is = absurd (omega (arith, some))
order_cons n (y ∷ ys) below some high is = (below, high.0, is)

-- other entries after the same first ones
pub order_join : (xs zs : List Entry) (n : Entry) (ys : List Entry) → rank n.kind < 3 → IsInOrder (xs ++ zs)
    → AllByRecursion (λ e. rank e.kind ≤ rank n.kind) xs → IsInOrder (n ∷ ys) → IsInOrder (xs ++ n ∷ ys)
order_join [] zs n ys below is low next = next
order_join (e ∷ []) zs n ys below is low next = (omega (arith, below, low.0), low.0, next)
order_join (e ∷ f ∷ xs) zs n ys below is low next = (is.0, is.1, order_join (f ∷ xs) zs n ys below is.2 low.1 next)

-- ---- how many entries rank below a number

-- 1 of what passes a test, else 0
abbrev pub counted : Bool → ℕ
counted test = cond test 1 0

abbrev pub below : ℕ → List Entry → ℕ
below r xs = sum_by (λ e. counted (nat_lt (rank e.kind) r)) xs

below_cons : (r : ℕ) (e : Entry) (xs : List Entry) → below r (e ∷ xs) ≡ counted (nat_lt (rank e.kind) r) + below r xs
below_cons r e xs = sum_by-cons (λ e. counted (nat_lt (rank e.kind) r)) e xs

one : (a r : ℕ) → a < r → counted (nat_lt a r) ≡ 1
one a r lt = grind (arith, nat_tests)

none : (a r : ℕ) → r ≤ a → counted (nat_lt a r) ≡ 0
none a r le = grind (arith, nat_tests)

none_below : (r : ℕ) (xs : List Entry) → AllByRecursion (λ e. r ≤ rank e.kind) xs → below r xs ≡ 0
none_below r [] high = refl
none_below r (e ∷ xs) high = omega (arith, below_cons r e xs, none (rank e.kind) r high.0, none_below r xs high.1)

higher : (r : ℕ) (e : Entry) (xs : List Entry) → AreSorted (e ∷ xs) → r ≤ rank e.kind
    → AllByRecursion (λ o. r ≤ rank o.kind) (e ∷ xs)
higher r e xs is le =
    (le, all_by (λ o. rank e.kind ≤ rank o.kind) (λ o. r ≤ rank o.kind) (λ o more. omega (arith, more, le)) xs is.0)

-- so many come first,
pub front_low : (r n : ℕ) (xs : List Entry) → AreSorted xs → n ≤ below r xs
    → AllByRecursion (λ e. rank e.kind < r) (take n xs)
front_low r zero xs is le = tt
front_low r (suc n) [] is le = tt
front_low r (suc n) (e ∷ xs) is le = ⊎_elim
    (λ lt. (lt, front_low r n xs is.1 (omega (arith, le, below_cons r e xs, one (rank e.kind) r lt))))
    (λ high. absurd (omega (arith, le, none_below r (e ∷ xs) (higher r e xs is high))))
    (cases_lt (rank e.kind) r)

-- and the others after them
pub rest_high : (r : ℕ) (xs : List Entry) → AreSorted xs → AllByRecursion (λ e. r ≤ rank e.kind) (drop (below r xs) xs)
rest_high r [] is = tt
rest_high r (e ∷ xs) is = ⊎_elim
    (λ lt. subst (λ (n : ℕ). AllByRecursion (λ e. r ≤ rank e.kind) (drop n (e ∷ xs))) (sym (more lt))
    (rest_high r xs is.1))
    (λ high. all_drop (λ o. r ≤ rank o.kind) (below r (e ∷ xs)) (e ∷ xs) (higher r e xs is high))
    (cases_lt (rank e.kind) r)
  where
    more : rank e.kind < r → below r (e ∷ xs) ≡ suc (below r xs)
    more lt = omega (arith, below_cons r e xs, one (rank e.kind) r lt)

-- one at least, the active segment, ranks no lower than 3
pub below_short : (r : ℕ) (xs : List Entry) → r ≤ 3 → IsInOrder xs → below r xs < length xs
below_short r [] le is = absurd is
below_short r (e ∷ []) le is = omega (arith, below_cons r e [], none (rank e.kind) r (omega (arith, le, is)))
below_short r (e ∷ f ∷ xs) le is =
    omega (arith, below_cons r e (f ∷ xs), at_most (rank e.kind), below_short r (f ∷ xs) le is.2)
  where
    at_most : (a : ℕ) → counted (nat_lt a r) ≤ 1
    at_most a = grind (arith, nat_tests)

-- those of one rank more are those of this rank besides
pub below_next : (kind : Kind) (xs : List Entry) → count_before kind xs + count_of kind xs ≡ below (rank kind + 1) xs
below_next kind [] = refl
below_next kind (e ∷ xs) =
    omega (
      arith,
      below_cons (rank kind) e xs,
      below_cons (rank kind + 1) e xs,
      sum_by-cons (λ e. counted (rank e.kind == rank kind)) e xs,
      split (rank e.kind) (rank kind),
      below_next kind xs,
    )
  where
    split : (a r : ℕ) → counted (nat_lt a r) + counted (a == r) ≡ counted (nat_lt a (r + 1))
    split a r = grind (arith, nat_tests)

-- ---- sums

pub sum_same : (f g : Entry → ℕ) (P : Entry → Type 0) → ((e : Entry) → P e → f e ≡ g e) → (xs : List Entry)
    → AllByRecursion P xs → sum_by f xs ≡ sum_by g xs
sum_same f g P so [] all = refl
sum_same f g P so (e ∷ xs) all =
    omega (arith, sum_by-cons f e xs, sum_by-cons g e xs, so e all.0, sum_same f g P so xs all.1)

pub sum_none : (f : Entry → ℕ) (P : Entry → Type 0) → ((e : Entry) → P e → f e ≡ 0) → (xs : List Entry)
    → AllByRecursion P xs → sum_by f xs ≡ 0
sum_none f P so [] all = refl
sum_none f P so (e ∷ xs) all = omega (arith, sum_by-cons f e xs, so e all.0, sum_none f P so xs all.1)

pub sum_some : (xs : List Entry) → AllByRecursion (λ e. 1 ≤ e.messages) xs → length xs ≤ messages_of xs
sum_some [] all = omega arith
sum_some (e ∷ xs) all = omega (arith, sum_by-cons (λ (o : Entry). o.messages) e xs, all.0, sum_some xs all.1)
