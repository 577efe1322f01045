-- Several archives, one after the other.
use Rattle.std.proofs.Common.{◌≡◌, ◌∙◌, ℕ, zero, suc, ◌+◌, ◌<◌, List, [], ◌∷◌, ◌++◌, length, map, take, drop, get_or}
use Rattle.std.proofs.Common.{Option}
use Rattle.std.proofs.Common.{append-nil, append_assoc, refl, sym, ap, subst, arith}
use Rattle.std.specs.Prelude.{true, IsErrAnd, IsTrue, Result, Ok, Err, MatchResult}
use Rattle.std.specs.List.{All, AllZip}
use Rattle.std.proofs.lemmas.List.{drop_more, length_push, length-take-le, map-append, take-append-drop, take_more}
use Rattle.std.proofs.lemmas.List.Elements.{All-get_or}
use Rattle.std.proofs.Math.Seq.{take-length}
use Rattle.flow_measure.specs.View.{View}
use Rattle.flow_model.specs.Shelf.{Shelf}
use Rattle.flow_model.specs.Shelved.{shelf_of}
use Rattle.flow_model.specs.Standing.{StandsFor}
use Rattle.flow_model.specs.State.{State}
use Rattle.flow_model.specs.Views.{IsViewOf}
use Rattle.flow_snapshot.specs.declared.shares.PartSums.{PartSums}
use Rattle.flow_snapshot.specs.ShelfSeen.{ShelfSeen}
use Rattle.flow_refusals.specs.declared.read_refusal.ReadRefusal.{ReadRefusal}
use Rattle.flow_snapshot.specs.Totals.{first_file, IsTotalsRefusal}
use Rattle.flow_several.specs.declared.error.TogetherError.{TogetherError}
use Rattle.flow_several.specs.declared.error.TogetherError.TheVariants as together
use Rattle.flow_several.specs.Together.{AreSumsOf, FitTogether, IsAddingRefused, IsJoiningRefused}
use Rattle.flow_several.specs.declared.refusal.SummingRefusal.{SummingRefusal}
use Rattle.flow_several.specs.declared.refusal.SummingRefusal.TheVariants.{Opening, Sums}
use Rattle.flow_several.specs.Several.{AreSummed, IsFirstNotSummed, IsNotSummed, IsNotSummedAlone, IsSummedAlone}
use Rattle.flow_several.specs.Several.{IsSummedWith, IsViewRead, DiskReading}

-- ---- one archive

-- what a snapshot of what was read answers
module _ (reads : DiskReading) (s : State) (stands : StandsFor reads s) (v : View) (view : IsViewOf (shelf_of s) v)
    (sight directory : ShelfSeen) (same : sight ≡ directory)
    (shown : (directory.shelf ≡ shelf_of s) × (directory.honest ≡ true)) where
  shelf_is : sight.shelf ≡ shelf_of s
  shelf_is = ap (λ (x : ShelfSeen). x.shelf) same ∙ shown.0

  honest : sight.honest ≡ true
  honest = ap (λ (x : ShelfSeen). x.honest) same ∙ shown.1

  seen : IsViewOf sight.shelf v
  seen = subst (λ (shelf : Shelf). IsViewOf shelf v) (sym shelf_is) view

  pub summed_alone : (sums : Option PartSums)
      → (IsTrue sight.honest → (v : View) → IsViewOf sight.shelf v → AreSumsOf sums (v ∷ []))
      → IsSummedAlone reads sums
  summed_alone sums summed = (v, (s, stands, view), summed honest v seen)

  pub not_alone : (e : ReadRefusal)
      → (IsTrue sight.honest → (v : View) → IsViewOf sight.shelf v
      → IsTotalsRefusal (first_file sight.shelf) (FitTogether (v ∷ [])) e)
      → IsNotSummedAlone reads (Sums (together.Query e))
  not_alone e summed = (
    s,
    v,
    stands,
    view,
    subst (λ (shelf : Shelf). IsTotalsRefusal (first_file shelf) (FitTogether (v ∷ [])) e) shelf_is
        (summed honest v seen),
  )

-- its refusal, as one of several
pub not_with : (reads : DiskReading) (vs : List View) (e : SummingRefusal) → IsNotSummedAlone reads e
    → IsNotSummed reads vs e
not_with reads vs (Opening e) h = h
not_with reads vs (Sums (together.Query e)) h = h
not_with reads vs (Sums together.OtherWidths) h = absurd h
not_with reads vs (Sums together.SumSpent) h = absurd h

adding : (first : ℕ) (vs : List View) (v : View) (e : TogetherError) → IsJoiningRefused vs v e
    → IsAddingRefused first vs v e
adding first vs v (together.Query e) is = subst (IsTotalsRefusal first (FitTogether (v ∷ []))) (sym is) tt
adding first vs v together.OtherWidths h = h
adding first vs v together.SumSpent h = h

-- joined to others
module _ (reads : DiskReading) (one all : Option PartSums) (vs : List View) (are : AreSumsOf all vs)
    (own : IsSummedAlone reads one) where
  pub joined_with : (more : Option PartSums)
      → ((v : View) → AreSumsOf one (v ∷ []) → (vs : List View) → AreSumsOf all vs → AreSumsOf more (vs ++ v ∷ []))
      → IsSummedWith reads vs more
  joined_with more views = (own.0, own.1, views own.0 own.2 vs are)

  pub not_joined : (e : TogetherError)
      → ((v : View) → AreSumsOf one (v ∷ []) → (vs : List View) → AreSumsOf all vs → IsJoiningRefused vs v e)
      → IsNotSummed reads vs (Sums e)
  not_joined e views =
      let read = own.1 in
      (read.0, own.0, read.1, read.2, adding _ vs own.0 e (views own.0 own.2 vs are))

pub err_matched : {X E : Type 0} (r : Result X E) (e : E) (P : X → Type 0) (Q : E → Type 0) → IsErrAnd r (λ x. x ≡ e)
    → Q e → MatchResult r P Q
err_matched (Ok x) e P Q is q = absurd is
err_matched (Err x) e P Q is q = subst Q (sym is) q

-- ---- all archives

pub map_parted : {A B : Type 0} (f : A → B) (xs : List A) (n : ℕ) (x : A) → n < length xs → x ≡ get_or xs n x
    → map f xs ≡ map f (take n xs) ++ f x ∷ map f (drop (n + 1) xs)
map_parted {A} {B} f xs n x within is =
    let parts : xs ≡ take n xs ++ x ∷ drop (n + 1) xs =
    sym (take-append-drop n xs)
    ∙ ap (λ (ys : List A). take n xs ++ ys) (drop_more xs n x within)
    ∙ ap (λ (y : A). take n xs ++ y ∷ drop (n + 1) xs) (sym is) in
    ap (map f) parts ∙ map-append f (take n xs) (x ∷ drop (n + 1) xs)

take_map : {A B : Type 0} (f : A → B) (n : ℕ) (xs : List A) → take n (map f xs) ≡ map f (take n xs)
take_map f zero xs = refl
take_map f (suc n) [] = refl
take_map {A} {B} f (suc n) (x ∷ xs) = ap (λ (ys : List B). f x ∷ ys) (take_map f n xs)

pub map_length : {A B : Type 0} (f : A → B) (xs : List A) → length (map f xs) ≡ length xs
map_length f [] = refl
map_length f (x ∷ xs) = ap suc (map_length f xs)

pub zip_then : {A B : Type 0} (P : A → B → Type 0) (xs : List A) (ys : List B) (x : A) (y : B) → AllZip P xs ys → P x y
    → AllZip P (xs ++ x ∷ []) (ys ++ y ∷ [])
zip_then P [] [] x y h own = (own, tt)
zip_then P [] (z ∷ zs) x y h own = absurd h
zip_then P (w ∷ ws) [] x y h own = absurd h
zip_then P (w ∷ ws) (z ∷ zs) x y h own = (h.0, zip_then P ws zs x y h.1 own)

-- lists of one length
pub zip_length : {A B : Type 0} (P : A → B → Type 0) (xs : List A) (ys : List B) → AllZip P xs ys
    → length xs ≡ length ys
zip_length P [] [] h = refl
zip_length P [] (y ∷ ys) h = absurd h
zip_length P (x ∷ xs) [] h = absurd h
zip_length P (x ∷ xs) (y ∷ ys) h = ap suc (zip_length P xs ys h.1)

-- The first archives that were read are summed, and the others are waited for.
pub record Summed (reads : List DiskReading) (waits : List DiskReading → Type 0) (n : ℕ) (sums : Option PartSums)
    : Type 0 where
  pub before : List DiskReading
  pub rest : List DiskReading
  pub parts : reads ≡ before ++ rest
  pub count : n ≡ length before
  pub are : AreSummed before sums
  pub waiting : waits rest

module _ (reads : List DiskReading) where
  pub none_summed : (waits : List DiskReading → Type 0) (sums : Option PartSums) → AreSumsOf sums [] → waits reads
      → Summed reads waits 0 sums
  none_summed waits sums are all = record {
    before = [];
    rest = reads;
    parts = refl;
    count = refl;
    are = ([], tt, are);
    waiting = all;
  }

  module _ (waits : List DiskReading → Type 0) (n : ℕ) (sums : Option PartSums)
      (so_far : Summed reads waits n sums) where
    pub summed_more : (later : List DiskReading → Type 0) (new : Option PartSums)
        → ((rs : List DiskReading) → waits rs → (own : DiskReading) × (rest : List DiskReading) × (rs ≡ own ∷ rest)
        × ((vs : List View) → AreSumsOf sums vs → IsSummedWith own vs new) × later rest)
        → Summed reads later (n + 1) new
    summed_more later new next =
        let a = next so_far.rest so_far.waiting in
        let own = a.3 so_far.are.0 so_far.are.2 in
        record {
          before = so_far.before ++ a.0 ∷ [];
          rest = a.1;
          parts = so_far.parts ∙ ap (λ (rs : List DiskReading). so_far.before ++ rs) a.2
              ∙ sym (append_assoc so_far.before (a.0 ∷ []) a.1);
          count = ap (λ (k : ℕ). k + 1) so_far.count ∙ sym (length_push so_far.before a.0);
          are = (
            so_far.are.0 ++ own.0 ∷ [],
            zip_then IsViewRead so_far.before so_far.are.0 a.0 own.0 so_far.are.1 own.1,
            own.2,
          );
          waiting = a.4;
        }

    pub first_refused : (e : SummingRefusal)
        → ((rs : List DiskReading) → waits rs → (own : DiskReading) × (rest : List DiskReading) × (rs ≡ own ∷ rest)
        × ((vs : List View) → AreSumsOf sums vs → IsNotSummed own vs e))
        → IsFirstNotSummed reads (n + 1) e
    first_refused e next =
        let a = next so_far.rest so_far.waiting in
        record {
          before = so_far.before;
          own = a.0;
          after = a.1;
          views = so_far.are.0;
          all = so_far.parts ∙ ap (λ (rs : List DiskReading). so_far.before ++ rs) a.2;
          place = ap (λ (k : ℕ). k + 1) so_far.count;
          summed = so_far.are.1;
          refused = a.3 so_far.are.0 so_far.are.2;
        }

    pub all_summed : ((rs : List DiskReading) → waits rs → rs ≡ []) → AreSummed reads sums
    all_summed end = subst (λ (rs : List DiskReading). AreSummed rs sums)
        (sym (so_far.parts ∙ ap (λ (rs : List DiskReading). so_far.before ++ rs) (end so_far.rest so_far.waiting)
        ∙ append-nil so_far.before)) so_far.are

-- of these disks
module _ {D : Type 0} (reading : D → DiskReading) (disks : List D) where
  -- what is read of the disks before one, of itself, and of those after it
  module _ (n : ℕ) (d : D) (within : n < length disks) (is : d ≡ get_or disks n d) where
    pub reads_at : map reading disks ≡ take n (map reading disks) ++ reading d ∷ map reading (drop (n + 1) disks)
    reads_at = map_parted reading disks n d within is
        ∙ ap (λ (rs : List DiskReading). rs ++ reading d ∷ map reading (drop (n + 1) disks)) (sym (take_map reading n disks))

    pub reads_before : length (take n (map reading disks)) ≡ n
    reads_before = ap length (take_map reading n disks) ∙ map_length reading (take n disks)
        ∙ length-take-le n disks (omega (arith, within))

    pub reads_next : (m : ℕ) → m ≡ n + 1 → take m (map reading disks) ≡ take n (map reading disks) ++ reading d ∷ []
    reads_next m next =
        ap (λ (k : ℕ). take k (map reading disks)) next ∙ take_map reading (n + 1) disks
        ∙ ap (map reading) (take_more disks n d within ∙ ap (λ (x : D). take n disks ++ x ∷ []) (sym is))
        ∙ map-append reading (take n disks) (d ∷ [])
        ∙ ap (λ (rs : List DiskReading). rs ++ reading d ∷ []) (sym (take_map reading n disks))

  pub all_reads : (n : ℕ) → n ≡ length disks → take n (map reading disks) ≡ map reading disks
  all_reads n all = ap (λ (k : ℕ). take k (map reading disks)) (all ∙ sym (map_length reading disks))
      ∙ take-length (map reading disks)

pub when_ok : {X E : Type 0} (r : Result X E) (x : X) (P : X → Type 0) (Q : E → Type 0) → r ≡ Ok x → MatchResult r P Q
    → P x
when_ok r x P Q is h = subst (λ r. MatchResult r P Q) is h

pub when_err : {X E : Type 0} (r : Result X E) (e : E) (P : X → Type 0) (Q : E → Type 0) → r ≡ Err e
    → MatchResult r P Q → Q e
when_err r e P Q is h = subst (λ r. MatchResult r P Q) is h

-- one of several disks
pub at_turn : {D : Type 0} (P : D → Type 0) (disks : List D) (n : ℕ) (d : D) → n < length disks → d ≡ get_or disks n d
    → All P disks → P d
at_turn P disks n d within is all = subst P (sym is) (All-get_or P disks n d within all)
