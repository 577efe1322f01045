-- What came of the Files of a feed, each at its place.
use Rattle.std.proofs.Common.{inl, inr, ◌≡◌, ◌≢◌, ◌<◌, ◌≤◌, ◌+◌, ℕ, zero, suc, Bool, List, [], ◌∷◌, ◌++◌, Option, Some, None}
use Rattle.std.proofs.Common.{length, map, take, drop, set, get_or, append-nil, refl, ap, sym, subst, ◌∙◌, arith, codes}
use Rattle.std.specs.Prelude.{is_some, option_map, replicate, IfSome, IsTrue}
use Rattle.std.specs.List.{slice_get}
use Rattle.std.proofs.Math.ListN.{drop_of_length-le}
use Rattle.std.proofs.lemmas.Bool.{cases_eq, cases_lt}
use Rattle.std.proofs.lemmas.List.{length-map, length-replicate, length-set, take_all}
use Rattle.std.proofs.lemmas.Option.{get_or_from_slice_get, slice_get-map, slice_get_read, slice_get_within}
use Rattle.flow_disk.specs.declared.disk.Disk.{Ghosts}
use Rattle.flow_model.specs.Shelf.{Shelf}
use Rattle.flow_feed.specs.declared.batch.Fed.{Fed}
use Rattle.flow_commands.specs.declared.plan.FeedPlan.{FeedPlan}
use Rattle.flow_commands.specs.declared.plan.InputPlan.{InputPlan}
use Rattle.flow_commands.specs.Feeding.{unfed, AreFed, AreFilesFed, IsFedAt, IsFedBy, IsInputAt, IsInputFed}
use Rattle.flow_commands.specs.Plans.{input_kind_in, kind_in, planned}

-- what a list of equal elements has
at_replicate : {A : Type 0} (n k : ℕ) (x : A) → get_or (replicate n x) k x ≡ x
at_replicate zero k x = refl
at_replicate (suc n) zero x = refl
at_replicate (suc n) (suc k) x = at_replicate n k x

-- what is read of a list after a write
get-set_same : {A : Type 0} (xs : List A) (i : ℕ) (x : A) → i < length xs → slice_get (set xs i x) i ≡ Some x
get-set_same [] i x h = absurd (omega arith)
get-set_same (y ∷ ys) zero x h = refl
get-set_same (y ∷ ys) (suc i) x h = get-set_same ys i x (omega arith)

get-set_other : {A : Type 0} (xs : List A) (i k : ℕ) (x : A) → k ≢ i → slice_get (set xs i x) k ≡ slice_get xs k
get-set_other [] i k x h = refl
get-set_other (y ∷ ys) zero zero x h = absurd (h refl)
get-set_other (y ∷ ys) zero (suc k) x h = refl
get-set_other (y ∷ ys) (suc i) zero x h = refl
get-set_other (y ∷ ys) (suc i) (suc k) x h = get-set_other ys i k x (λ e. h (ap suc e))

-- ---- the place of standard input

-- the text of the path at a place
pub text_at : {P : Type 0} (text : P → List ℕ) (paths : List P) (i : ℕ) (path : P) → i < length paths
    → path ≡ get_or paths i path → slice_get (map text paths) i ≡ Some (text path)
text_at text paths i path within read =
    slice_get-map text paths i ∙ ap (option_map text) (slice_get_read paths (length paths) i path refl within read)

-- none of the paths before this place is that of standard input
abbrev pub NoneBefore : List (List ℕ) → ℕ → Type 0
NoneBefore paths i = (k : ℕ) → k < i → slice_get paths k ≢ Some (codes "-")

pub input_here : {P : Type 0} (text : P → List ℕ) (paths : List P) (i : ℕ) (path : P) → i < length paths
    → path ≡ get_or paths i path → text path ≡ codes "-" → NoneBefore (map text paths) i
    → IsInputAt (map text paths) i
input_here text paths i path within read is none = record {
  here = text_at text paths i path within read ∙ ap (λ (l : List ℕ). Some l) is;
  first = none;
}

pub none_more : {P : Type 0} (text : P → List ℕ) (paths : List P) (i : ℕ) (path : P) → i < length paths
    → path ≡ get_or paths i path → text path ≢ codes "-" → NoneBefore (map text paths) i
    → NoneBefore (map text paths) (i + 1)
none_more text paths i path within read other none k below at = elim (cases_eq k i) [
  | inl e ↦ other (let there = text_at text paths i path within read in cc (at, there, e))
  | inr ne ↦ none k (omega (arith, below, ne)) at
]

pub none_at_all : {P : Type 0} (text : P → List ℕ) (paths : List P) (i : ℕ) → length paths ≤ i
    → NoneBefore (map text paths) i → (k : ℕ) → slice_get (map text paths) k ≢ Some (codes "-")
none_at_all text paths i all none k at =
    let within = slice_get_within (map text paths) k (codes "-") at in
    let long = length-map paths text in
    none k (omega (arith, within, long, all)) at

-- ---- what came of Files

-- what a list is after a slice of the whole was written to
pub written_back : {A : Type 0} (len : ℕ) (old new : List A) → len ≡ length old → length new ≡ length old
    → take len (new ++ drop (length new) old) ≡ new
written_back len old new all same =
    let none : drop (length new) old ≡ [] = drop_of_length-le old (omega (arith, same)) in
    let whole : new ++ drop (length new) old ≡ new = ap (λ (l : List _). new ++ l) none ∙ append-nil new in
    ap (take len) whole ∙ take_all len new (omega (arith, all, same))

-- what a call left
pub moved : {A : Type 0} (P : A → A → Type 0) (a b x y : A) → a ≡ x → b ≡ y → P a b → P x y
moved P a b x y first second is = subst (λ z. P x z) second (subst (λ z. P z b) first is)

-- what each call left at its place, of Files of which nothing was taken in before
pub each_fed : {D S X F P : Type 0} (g : Ghosts D S X) (octets : F → Option (List ℕ)) (opening : Shelf)
    (kind : InputPlan) (text : P → List ℕ) (paths : List P) (old new : List Fed) → old ≡ replicate (length paths) unfed
    → length new ≡ length old
    → ((k : ℕ) (path : P) → slice_get paths k ≡ Some path
    → IsFedAt g octets opening kind (text path) (get_or old k unfed) (get_or new k unfed))
    → AreFilesFed g octets opening kind (map text paths) new
each_fed g octets opening kind text paths old new was size each = record {
  count = size ∙ ap length was ∙ length-replicate (length paths) unfed ∙ sym (length-map paths text);
  each = λ k path fed at there. by k path fed there (slice_get paths k) refl (sym (slice_get-map text paths k) ∙ at);
}
  where
    by : (k : ℕ) (path : List ℕ) (fed : Fed) → slice_get new k ≡ Some fed → (o : Option _) → slice_get paths k ≡ o
        → option_map text o ≡ Some path → IsFedAt g octets opening kind path unfed fed
    by k path fed there None is at = absurd cc
    by k path fed there (Some p) is at =
        let same : text p ≡ path = cc at in
        let before : get_or old k unfed ≡ unfed =
        ap (λ (l : List Fed). get_or l k unfed) was ∙ at_replicate (length paths) k unfed in
        let after : get_or new k unfed ≡ fed = get_or_from_slice_get new k fed unfed there in
        subst (λ (q : List ℕ). IsFedAt g octets opening kind q unfed fed) same
        (subst (λ (f : Fed). IsFedAt g octets opening kind (text p) unfed f) after
        (subst (λ (b : Fed). IsFedAt g octets opening kind (text p) b (get_or new k unfed)) before (each k p is)))

-- standard input is one File at most
one_input : (paths : List (List ℕ)) (j k : ℕ) → IsInputAt paths j → IsInputAt paths k → j ≡ k
one_input paths j k a b = elim (cases_lt j k) [
  | inl lt ↦ absurd (b.first j lt a.here)
  | inr ge ↦ elim (cases_lt k j) [
    | inl more ↦ absurd (a.first k more b.here)
    | inr less ↦ omega (arith, ge, less)
  ]
]

-- standard input was read, and is the File at this place
pub with_input : {D S X F : Type 0} (g : Ghosts D S X) (octets : F → Option (List ℕ)) (opening : Shelf)
    (plan : FeedPlan) (known : Option (List ℕ)) (paths : List (List ℕ)) (place : ℕ) (feds : List Fed) (own : Fed)
    → AreFilesFed g octets opening (planned plan (kind_in plan)) paths feds → IsInputAt paths place
    → IsInputFed g opening plan known own → AreFed g octets opening plan (Some known) paths (set feds place own)
with_input g octets opening plan known paths place feds own all here streamed =
    let within : place < length feds =
    let lt = slice_get_within paths place (codes "-") here.here in omega (arith, lt, all.count) in
    record {
      count = length-set feds place own ∙ all.count;
      files = λ k path fed at there not. elim (cases_eq k place) [
        | inl e ↦ absurd (not (cc (at, e, here.here)))
        | inr ne ↦ (all.each k path fed at (sym (get-set_other feds place k own ne) ∙ there)).file not
      ];
      input_fed = λ k fed is there.
          let e : k ≡ place = one_input paths k place is here in
          let at : slice_get (set feds place own) k ≡ Some own =
          ap (slice_get (set feds place own)) e ∙ get-set_same feds place own within in
          let same : own ≡ fed = cc (at, there) in
          subst (λ (f : Fed). IsInputFed g opening plan known f) same streamed;
      others = λ k fed at there apart. elim (cases_eq k place) [
        | inl e ↦ absurd (apart refl (subst (IsInputAt paths) (sym e) here))
        | inr ne ↦ (all.each k (codes "-") fed at (sym (get-set_other feds place k own ne) ∙ there)).input refl
      ];
    }

-- standard input isn't given, or is none of the Files
pub without_input : {D S X F : Type 0} (g : Ghosts D S X) (octets : F → Option (List ℕ))
    (opening : Shelf) (plan : FeedPlan) (given : Option (Option (List ℕ))) (paths : List (List ℕ)) (feds : List Fed)
    → AreFilesFed g octets opening (planned plan (kind_in plan)) paths feds
    → (IsTrue (is_some given) → (k : ℕ) → slice_get paths k ≢ Some (codes "-"))
    → AreFed g octets opening plan given paths feds
without_input g octets opening plan given paths feds all none = record {
  count = all.count;
  files = λ k path fed at there not. (all.each k path fed at there).file not;
  input_fed = by given none;
  others = λ k fed at there apart. (all.each k (codes "-") fed at there).input refl;
}
  where
    by : (o : Option (Option (List ℕ))) → (IsTrue (is_some o) → (k : ℕ) → slice_get paths k ≢ Some (codes "-"))
        → IfSome o (λ known. (k : ℕ) (fed : Fed) → IsInputAt paths k → slice_get feds k ≡ Some fed
        → IsInputFed g opening plan known fed)
    by None apart = tt
    by (Some known) apart = λ k fed is there. absurd (apart refl k is.here)

pub without_given : {D S X F : Type 0} (g : Ghosts D S X) (octets : F → Option (List ℕ)) (opening : Shelf)
    (plan : FeedPlan) (paths : List (List ℕ)) (feds : List Fed) → AreFilesFed g octets opening (planned plan (kind_in plan)) paths feds
    → AreFed g octets opening plan None paths feds
without_given g octets opening plan paths feds all =
    without_input g octets opening plan None paths feds all (λ given. absurd cc)

-- standard input was read by its kind
pub by_kind : {D S X : Type 0} (g : Ghosts D S X) (opening : Shelf) (plan : FeedPlan) (known : Option (List ℕ))
    (kind : InputPlan) (own : Fed) → (is_socket : Bool) × (kind ≡ planned plan (input_kind_in is_socket plan))
    → ((left : Option (List ℕ)) × IsFedBy g opening kind known left own) → IsInputFed g opening plan known own
by_kind g opening plan known kind own (is_socket, is) (left, fed) =
    (is_socket, left, subst (λ (k : InputPlan). IsFedBy g opening k known left own) is fed)
