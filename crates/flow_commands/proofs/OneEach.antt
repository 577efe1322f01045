-- Where each file has a worker of its own, what falls to the worker is the file alone.
use Rattle.std.proofs.Common.{◌≡◌, ◌∙◌, ℕ, zero, suc, ◌+◌, ◌-◌, ◌<◌, ◌≤◌, inl, inr, Bool, true, false, List, [], ◌∷◌, ◌++◌}
use Rattle.std.proofs.Common.{ap, refl, sym, arith, length, length-append, take, drop}
use Rattle.std.specs.Prelude.{◌==◌, nat_lt, Option, Some, None}
use Rattle.std.specs.FinMap.{FinMap, empty, entries}
use Rattle.std.proofs.Math.Nat.{mod-eq_of_lt}
use Rattle.std.proofs.Math.ListN.{drop_of_length-le}
use Rattle.std.proofs.lemmas.Bool.{cases_order, eq-eqb, ltb-false, ltb-true, ne_eqb}
use Rattle.std.proofs.lemmas.Slice.Zip.{AllZip-long}
use Rattle.std.proofs.lemmas.List.{length-take}
use Rattle.std.proofs.Math.Seq.{drop-nil}
use Rattle.flow_manifest.specs.declared.manifest.Entry.{Entry}
use Rattle.flow_manifest.specs.declared.manifest.Kind.{Kind}
use Rattle.flow_manifest.specs.declared.manifest.Kind.TheVariants.{Wide, Rolled, Sealed, Active}
use Rattle.flow_manifest.specs.Following.{front_of}
use Rattle.flow_measure.specs.declared.rows.Sums.{Sums}
use Rattle.flow_measure.specs.declared.rows.Row.{Row}
use Rattle.flow_measure.specs.Sums.{gathered, key_cmp}
use Rattle.flow_measure.proofs.Gathering.{entries_of_none, gathered-entries}
use Rattle.flow_model.specs.Shelved.{active_shelf, shelf_of, shelved, shelved_first}
use Rattle.flow_model.specs.Standing.{PartsStand, StandsAs, StandsFor}
use Rattle.flow_model.specs.State.{Part, State}
use Rattle.flow_snapshot.specs.Shares.{narrow_turn, next_turn, own, summed, turn_after, AreNarrow, AreWide, IsFileSum, IsSegmentSum}
use Rattle.flow_model.specs.Shelf.{Shelf}
use Rattle.flow_commands.specs.declared.archive_files.Starts.{Starts}
use Rattle.flow_commands.specs.ArchiveFiles.{alone, rows_in, starts_of, starts_of_file, starts_or}

-- ---- turns

turn_is : (count k turn : ℕ) → turn + k < count → turn_after count k turn ≡ turn + k
turn_is count zero turn small = omega arith
turn_is count (suc k) turn small =
    let low : turn + 1 < count = omega arith in
    rw (mod-eq_of_lt low) (turn_is count k (turn + 1) (omega arith) ∙ omega arith)

-- the turn after one more makes no difference where no part is left for it
next_is : {A : Type 0} (count n turn : ℕ) (xs : List A) → turn + 1 + length xs ≤ count
    → own count n (next_turn count turn) xs ≡ own count n (turn + 1) xs
next_is count n turn [] most = refl
next_is count n turn (x ∷ xs) most =
    let low : turn + 1 < count = omega arith in rw (mod-eq_of_lt low) refl

own_none : {A : Type 0} (count n turn : ℕ) (xs : List A) → turn + length xs ≤ count → n < turn
    → own count n turn xs ≡ []
own_none count n turn [] most past = refl
own_none count n turn (x ∷ xs) most past =
    let other : (turn == n) ≡ false = ne_eqb turn n (λ e. omega arith) in
    rw (other, next_is count n turn xs (omega arith)) (own_none count n (turn + 1) xs (omega arith) (omega arith))

own_at : {A : Type 0} (count n turn : ℕ) (xs : List A) → turn + length xs ≤ count → turn ≤ n
    → own count n turn xs ≡ take 1 (drop (n - turn) xs)
own_at count n turn [] most low = rw drop-nil refl
own_at {A} count n turn (x ∷ xs) most low =
    elim (cases_order turn n) [
      | inl same ↦ let is : (turn == n) ≡ true = eq-eqb turn n same in
          let none = own_none count n (turn + 1) xs (omega arith) (omega arith) in
          let here : n - turn ≡ 0 = omega arith in
          rw (is, next_is count n turn xs (omega arith), none, here) refl
      | inr (inl below) ↦ let other : (turn == n) ≡ false = ne_eqb turn n (λ e. omega arith) in
          let later : n - turn ≡ suc (n - (turn + 1)) = omega arith in
          rw (other, next_is count n turn xs (omega arith), later)
          (own_at count n (turn + 1) xs (omega arith) (omega arith))
      | inr (inr above) ↦ absurd (omega arith)
    ]

-- ---- the parts

abbrev parts_in : Shelf → ℕ
parts_in s = length s.merged + length s.rolled + length s.sealed

one_more : (kind : Kind) (octets : List ℕ) (e : Entry) (p : Part) (s : Shelf) → StandsAs kind octets e p
    → parts_in (shelved_first kind e p s) ≡ suc (parts_in s)
one_more Wide octets e p s is = omega arith
one_more Rolled octets e p s is = omega arith
one_more Sealed octets e p s is = omega arith
one_more Active octets e p s is = absurd is

all_parts : (image : ℕ → List ℕ) (es : List Entry) (ps : List Part) (s : Shelf) → PartsStand image es ps
    → parts_in (shelved es ps s) ≡ length es + parts_in s
all_parts image [] [] s is = omega arith
all_parts image [] (p ∷ ps) s is = absurd is
all_parts image (e ∷ es) [] s is = absurd is
all_parts image (e ∷ es) (p ∷ ps) s is =
    omega (arith, one_more e.kind (image e.file) e p (shelved es ps s) is.0, all_parts image es ps s is.1)

pub counted : (reads : ℕ → List ℕ) (s : State) (wide narrow : List (FinMap key_cmp Sums)) → StandsFor reads s
    → AreWide (shelf_of s) wide → AreNarrow (shelf_of s) narrow → 0 < length s.manifest.entries
    → length s.manifest.entries ≡ length wide + length narrow
counted reads s wide narrow stands are_wide are_narrow some =
    let shelf = shelf_of s in
    omega (
      arith,
      all_parts reads (front_of s.manifest) s.parts (active_shelf s) stands.files.parts,
      length-take (length s.manifest.entries - 1) s.manifest.entries,
      AllZip-long (IsFileSum shelf.wide) shelf.merged wide are_wide,
      AllZip-long (IsFileSum shelf.width) shelf.rolled are_narrow.rolled are_narrow.of_rolled,
      AllZip-long (IsSegmentSum shelf.width) shelf.sealed are_narrow.sealed are_narrow.of_sealed,
      ap length are_narrow.all,
      length-append are_narrow.rolled (are_narrow.sealed ++ are_narrow.active ∷ []),
      length-append are_narrow.sealed (are_narrow.active ∷ []),
    )

-- ---- what falls to a worker

module _ (s : Shelf) (wide narrow : List (FinMap key_cmp Sums)) (n : ℕ) (are_wide : AreWide s wide)
    (below : n < length wide + length narrow) (some : 0 < length narrow) where
  narrow_first : narrow_turn s (length wide + length narrow) ≡ length wide
  narrow_first =
      let same = AllZip-long (IsFileSum s.wide) s.merged wide are_wide in
      turn_is (length wide + length narrow) (length s.merged) 0 (omega arith) ∙ omega arith

  -- to that of a file of wide sums
  pub of_wide : n < length wide → own (length wide + length narrow) n 0 wide ≡ take 1 (drop n wide)
  of_wide here =
      let off : n - 0 ≡ n = omega arith in
      own_at (length wide + length narrow) n 0 wide (omega arith) (omega arith)
      ∙ ap (λ (k : ℕ). take 1 (drop k wide)) off

  pub no_narrow : n < length wide
      → own (length wide + length narrow) n (narrow_turn s (length wide + length narrow)) narrow ≡ []
  no_narrow here = rw narrow_first (own_none (length wide + length narrow) n (length wide) narrow (omega arith) here)

  -- and to that of another
  pub no_wide : length wide ≤ n → own (length wide + length narrow) n 0 wide ≡ []
  no_wide past =
      let off : n - 0 ≡ n = omega arith in
      own_at (length wide + length narrow) n 0 wide (omega arith) (omega arith)
      ∙ ap (λ (k : ℕ). take 1 (drop k wide)) off ∙ ap (take 1) (drop_of_length-le wide past)

  pub of_narrow : length wide ≤ n
      → own (length wide + length narrow) n (narrow_turn s (length wide + length narrow)) narrow
      ≡ take 1 (drop (n - length wide) narrow)
  of_narrow past =
      rw narrow_first (own_at (length wide + length narrow) n (length wide) narrow (omega arith) past)

-- ---- when the flows of a file start

none_gathered : entries (gathered []) ≡ []
none_gathered = ap entries (ap gathered (sym entries_of_none) ∙ gathered-entries empty) ∙ entries_of_none

-- no part has no rows
no_rows : (width : ℕ) → rows_in (summed width []) ≡ []
no_rows width = rw none_gathered refl

no_starts : (starts : Option Starts) (width : ℕ) → starts_or starts (summed width []) ≡ starts
no_starts (Some starts) width = refl
no_starts None width = ap starts_of (no_rows width)

pub file_alone : (s : Shelf) (wide narrow : List (FinMap key_cmp Sums)) (n count : ℕ) → AreWide s wide
    → 0 < length narrow → count ≡ length wide + length narrow → n < count
    → starts_of_file s count wide narrow n ≡ starts_of (rows_in (alone s wide narrow n))
file_alone s wide narrow n count are_wide some is below = by (nat_lt n (length wide)) refl
  where
    within : n < length wide + length narrow
    within = omega (arith, is)

    by : (b : Bool) → nat_lt n (length wide) ≡ b
        → starts_of_file s count wide narrow n ≡ starts_of (rows_in (alone s wide narrow n))
    by true first =
        let here : n < length wide = ltb-true n (length wide) first in
        rw (
          is,
          first,
          of_wide s wide narrow n are_wide within some here,
          no_narrow s wide narrow n are_wide within some here,
        )
        (no_starts (starts_of (rows_in (summed s.wide (take 1 (drop n wide))))) s.width)
    by false later =
        let past : length wide ≤ n = ltb-false n (length wide) later in
        let own_rows = summed s.width (take 1 (drop (n - length wide) narrow)) in
        rw (
          is,
          later,
          no_wide s wide narrow n are_wide within some past,
          of_narrow s wide narrow n are_wide within some past,
        )
        (ap (λ (rows : List Row). starts_or (starts_of rows) own_rows) (no_rows s.wide))

pub each_alone : (reads : ℕ → List ℕ) (s : State) (wide narrow : List (FinMap key_cmp Sums)) (n : ℕ) → StandsFor reads s
    → AreWide (shelf_of s) wide → AreNarrow (shelf_of s) narrow → n < length s.manifest.entries
    → starts_of_file (shelf_of s) (length s.manifest.entries) wide narrow n
    ≡ starts_of (rows_in (alone (shelf_of s) wide narrow n))
each_alone reads s wide narrow n stands are_wide are_narrow below =
    let some : 0 < length narrow = omega (
      arith,
      ap length are_narrow.all,
      length-append are_narrow.rolled (are_narrow.sealed ++ are_narrow.active ∷ []),
      length-append are_narrow.sealed (are_narrow.active ∷ []),
    ) in
    file_alone (shelf_of s) wide narrow n (length s.manifest.entries) are_wide some
    (counted reads s wide narrow stands are_wide are_narrow (omega arith)) below
