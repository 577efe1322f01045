-- What an archive's frozen files are.
use Rattle.std.proofs.Common.{◌≡◌, ℕ, zero, suc, ◌+◌, ◌<◌, Bool, true, false, IsTrue, List, [], ◌∷◌, ◌++◌, length}
use Rattle.std.proofs.Common.{append_assoc, take, drop, get_or, refl, sym, ap, ◌∙◌, subst, arith}
use Rattle.std.specs.Prelude.{◌&&◌}
use Rattle.std.specs.List.{flat_map, list_all, AllByRecursion}
use Rattle.std.proofs.lemmas.Grind.{flat_map-append}
use Rattle.std.proofs.lemmas.List.{append-nil, drop_more, take_more}
use Rattle.flow_manifest.specs.declared.manifest.Entry.{Entry}
use Rattle.flow_archive.specs.Frozen.{all_frozen, frozen_as, AreHeldAs, Frozen, IsHeldAs, MayBeFrozen}
use Rattle.flow_recover.specs.Kept.{AreFilesOf, IsFileOf}

pub as_many : (honest : Bool) (entries : List Entry) (files : List Frozen) → AreHeldAs honest entries files
    → length files ≡ length entries
as_many honest [] [] are = refl
as_many honest [] (f ∷ files) are = absurd are
as_many honest (e ∷ entries) [] are = absurd are
as_many honest (e ∷ entries) (f ∷ files) are = omega (arith, as_many honest entries files are.1)

pub held_push : (honest : Bool) (e : Entry) (f : Frozen) → IsHeldAs honest e f → (entries : List Entry)
    (files : List Frozen) → AreHeldAs honest entries files → AreHeldAs honest (entries ++ e ∷ []) (files ++ f ∷ [])
held_push honest e f is [] [] are = (is, tt)
held_push honest e f is [] (x ∷ files) are = absurd are
held_push honest e f is (y ∷ entries) [] are = absurd are
held_push honest e f is (y ∷ entries) (x ∷ files) are = (are.0, held_push honest e f is entries files are.1)

-- on an honest disk all are honest
pub honest_all : (entries : List Entry) (files : List Frozen) → AreHeldAs true entries files
    → IsTrue (list_all (λ (f : Frozen). f.honest) files)
honest_all [] [] are = refl
honest_all [] (f ∷ files) are = absurd are
honest_all (e ∷ entries) [] are = absurd are
honest_all (e ∷ entries) (f ∷ files) are =
    ap (λ (b : Bool). b && list_all (λ (x : Frozen). x.honest) files) are.0.honest_is ∙ honest_all entries files are.1

-- ---- a list that grows by one of a kind

pub one_more : {X Y : Type 0} (in_kind : X → List Y) (got was : List Y) (xs : List X) (i : ℕ) (x : X) → i < length xs
    → x ≡ get_or xs i x → got ≡ was ++ in_kind x → was ≡ flat_map in_kind (take i xs)
    → got ≡ flat_map in_kind (take (i + 1) xs)
one_more {X} {Y} in_kind got was xs i x lt at is done =
    is ∙ ap (λ (l : List Y). l ++ in_kind x) done
    ∙ ap (λ (l : List Y). flat_map in_kind (take i xs) ++ l) (sym (append-nil (in_kind x)))
    ∙ sym (flat_map-append in_kind (take i xs) (x ∷ []))
    ∙ ap (λ (y : X). flat_map in_kind (take i xs ++ y ∷ [])) at
    ∙ ap (flat_map in_kind) (sym (take_more xs i x lt))

pub honest_at : (xs : List Frozen) (i : ℕ) (d : Frozen) → i < length xs
    → IsTrue (list_all (λ (f : Frozen). f.honest) xs) → IsTrue (get_or xs i d).honest
honest_at [] i d lt all = absurd (omega (arith, lt))
honest_at (x ∷ xs) zero d lt all = front x.honest (list_all (λ (f : Frozen). f.honest) xs) all
  where
    front : (a b : Bool) → IsTrue (a && b) → IsTrue a
    front true b h = refl
    front false b h = h
honest_at (x ∷ xs) (suc i) d lt all =
    honest_at xs i d (omega (arith, lt)) (rest x.honest (list_all (λ (f : Frozen). f.honest) xs) all)
  where
    rest : (a b : Bool) → IsTrue (a && b) → IsTrue b
    rest true b h = h
    rest false b h = absurd cc

-- ---- files that were found

module _ {S : Type 0} (number size : S → ℕ) (is_honest : S → Bool) (octets : S → List ℕ) (honest : Bool) where
  -- one of them, and those after it
  pub record IsNext (entries : List Entry) (n : ℕ) (none : Entry) (x : S) (rest : List S) : Type 0 where
    pub below : n < length entries
    pub named : IsFileOf number size is_honest honest (get_or entries n none) x
    pub shape : MayBeFrozen (get_or entries n none).kind (get_or entries n none)
    pub others : AreFilesOf number size is_honest honest (drop (n + 1) entries) rest
    pub shapes : AllByRecursion (λ e. MayBeFrozen e.kind e) (drop (n + 1) entries)
    pub more : all_frozen is_honest octets (drop n entries) (x ∷ rest)
        ≡ frozen_as (get_or entries n none) (is_honest x) (octets x)
        ∷ all_frozen is_honest octets (drop (n + 1) entries) rest

  some_left : (entries : List Entry) (n : ℕ) (x : S) (rest : List S)
      → AreFilesOf number size is_honest honest (drop n entries) (x ∷ rest) → n < length entries
  some_left [] zero x rest are = absurd are
  some_left [] (suc n) x rest are = absurd are
  some_left (e ∷ entries) zero x rest are = omega arith
  some_left (e ∷ entries) (suc n) x rest are = omega (arith, some_left entries n x rest are)

  pub next_of : (entries : List Entry) (n : ℕ) (none : Entry) (x : S) (rest : List S)
      → AreFilesOf number size is_honest honest (drop n entries) (x ∷ rest)
      → AllByRecursion (λ e. MayBeFrozen e.kind e) (drop n entries) → IsNext entries n none x rest
  next_of entries n none x rest are shapes =
      let lt = some_left entries n x rest are in
      let is = drop_more entries n none lt in
      let files = subst (λ (l : List Entry). AreFilesOf number size is_honest honest l (x ∷ rest)) is are in
      let all = subst (AllByRecursion (λ e. MayBeFrozen e.kind e)) is shapes in
      record {
        below = lt;
        named = files.0;
        shape = all.0;
        others = files.1;
        shapes = all.1;
        more = ap (λ (l : List Entry). all_frozen is_honest octets l (x ∷ rest)) is;
      }

  pub grown : (entries : List Entry) (n m : ℕ) (none : Entry) (x : S) (rest : List S) (done new whole : List Frozen)
      (y : Frozen) → IsNext entries n none x rest → new ≡ done ++ y ∷ []
      → y ≡ frozen_as (get_or entries n none) (is_honest x) (octets x) → m ≡ n + 1
      → done ++ all_frozen is_honest octets (drop n entries) (x ∷ rest) ≡ whole
      → new ++ all_frozen is_honest octets (drop m entries) rest ≡ whole
  grown entries n m none x rest done new whole y next pushed is count was =
      ap (λ (k : ℕ). new ++ all_frozen is_honest octets (drop k entries) rest) count
      ∙ ap (λ (l : List Frozen). l ++ left) pushed ∙ append_assoc done (y ∷ []) left
      ∙ ap (λ (z : Frozen). done ++ z ∷ left) is ∙ ap (λ (l : List Frozen). done ++ l) (sym next.more) ∙ was
    where
      left : List Frozen
      left = all_frozen is_honest octets (drop (n + 1) entries) rest

  -- none are left
  pub none_left : (entries : List Entry) → all_frozen is_honest octets entries [] ≡ []
  none_left [] = refl
  none_left (e ∷ entries) = refl
