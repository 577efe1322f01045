-- Which entry decides whether more segments are sealed than the newest.
use Rattle.std.proofs.Common.{◌≡◌, ◌≢◌, ℕ, zero, suc, ◌+◌, ◌<◌, ◌≤◌, List, [], ◌∷◌, length, get_or}
use Rattle.std.proofs.Common.{refl, ap, arith}
use Rattle.std.specs.Prelude.{◌==◌}
use Rattle.std.proofs.lemmas.Bool.Decides.{nat_tests}
use Rattle.std.proofs.lemmas.List.Sums.{sum_by-cons}
use Rattle.flow_manifest.specs.declared.manifest.Kind.{Kind}
use Rattle.flow_manifest.specs.declared.manifest.Kind.TheVariants.{Wide, Rolled, Sealed, Active}
use Rattle.flow_manifest.specs.declared.manifest.Entry.{Entry}
use Rattle.flow_manifest.specs.Manifest.{IsInOrder, rank}
use Rattle.flow_manifest.specs.Following.{count_before, count_of, no_entry}
use Rattle.flow_manifest.proofs.EntryLists.{below, below_next, below_short, counted}

abbrev rank_at : List Entry → ℕ → ℕ
rank_at xs i = rank (get_or xs i no_entry).kind

with_first : (e : Entry) (xs : List Entry)
    → count_of Sealed (e ∷ xs) ≡ counted (rank e.kind == rank Sealed) + count_of Sealed xs
with_first e xs = sum_by-cons (λ o. counted (rank o.kind == rank Sealed)) e xs

one : (r : ℕ) → r ≡ 2 → counted (r == 2) ≡ 1
one r is = grind (arith, nat_tests)

none : (r : ℕ) → r < 2 → counted (r == 2) ≡ 0
none r lt = grind (arith, nat_tests)

-- the active segment isn't sealed
fewer : (xs : List Entry) → IsInOrder xs → count_of Sealed xs < length xs
fewer xs is =
    let all : count_before Sealed xs + count_of Sealed xs ≡ below 3 xs = below_next Sealed xs in
    omega (arith, all, below_short 3 xs (omega arith) is)

-- ---- an entry and the later ones

later : (e : Entry) (xs : List Entry) (i : ℕ) → IsInOrder (e ∷ xs) → i < length xs → rank e.kind ≤ rank_at xs i
later e [] i is lt = absurd (omega (arith, lt))
later e (f ∷ xs) zero is lt = is.1
later e (f ∷ xs) (suc i) is lt = omega (arith, is.1, later f xs i is.2 (omega (arith, lt)))

-- one that isn't the last is no active segment
inner : (xs : List Entry) (i : ℕ) → IsInOrder xs → i + 1 < length xs → rank_at xs i < 3
inner [] i is lt = absurd (omega (arith, lt))
inner (e ∷ []) i is lt = absurd (omega (arith, lt))
inner (e ∷ f ∷ xs) zero is lt = is.0
inner (e ∷ f ∷ xs) (suc i) is lt = inner (f ∷ xs) i is.2 (omega (arith, lt))

-- after one of a lower rank: the sealed ones are after it, and the active one too
few : (xs : List Entry) (i : ℕ) → IsInOrder xs → i < length xs → rank_at xs i < 2
    → count_of Sealed xs + i + 2 ≤ length xs
few [] i is lt low = absurd (omega (arith, lt))
few (e ∷ []) zero is lt low = absurd (omega (arith, is, low))
few (e ∷ f ∷ xs) zero is lt low =
    omega (arith, with_first e (f ∷ xs), none (rank e.kind) low, fewer (f ∷ xs) is.2)
few (e ∷ []) (suc i) is lt low = absurd (omega (arith, lt))
few (e ∷ f ∷ xs) (suc i) is lt low =
    let lt1 : i < length (f ∷ xs) = omega (arith, lt) in
    omega (
      arith,
      with_first e (f ∷ xs),
      none (rank e.kind) (omega (arith, low, later e (f ∷ xs) i is lt1)),
      few (f ∷ xs) i is.2 lt1 low,
    )

-- from a sealed one on all but the active one are sealed
sealed_on : (e : Entry) (xs : List Entry) → IsInOrder (e ∷ xs) → 2 ≤ rank e.kind
    → length (e ∷ xs) ≤ count_of Sealed (e ∷ xs) + 1
sealed_on e [] is le = omega (arith, with_first e [])
sealed_on e (f ∷ xs) is le =
    omega (
      arith,
      with_first e (f ∷ xs),
      one (rank e.kind) (omega (arith, le, is.0)),
      sealed_on f xs is.2 (omega (arith, le, is.1)),
    )

many : (xs : List Entry) (i : ℕ) → IsInOrder xs → i < length xs → rank_at xs i ≡ 2
    → length xs ≤ count_of Sealed xs + i + 1
many [] i is lt at = absurd (omega (arith, lt))
many (e ∷ xs) zero is lt at = omega (arith, sealed_on e xs is (omega (arith, at)))
many (e ∷ []) (suc i) is lt at = absurd (omega (arith, lt))
many (e ∷ f ∷ xs) (suc i) is lt at =
    omega (arith, with_first e (f ∷ xs), many (f ∷ xs) i is.2 (omega (arith, lt)) at)

lower : (kind : Kind) → kind ≢ Sealed → rank kind < 3 → rank kind < 2
lower Wide isnt lt = omega arith
lower Rolled isnt lt = omega arith
lower Sealed isnt lt = absurd (isnt refl)
lower Active isnt lt = absurd (omega (arith, lt))

-- ---- the newest

-- where there are no more than these and the active one
pub no_more : (xs : List Entry) (keep : ℕ) → IsInOrder xs → length xs < keep + 2 → count_of Sealed xs ≤ keep
no_more xs keep is short = omega (arith, short, fewer xs is)

-- the entry before them is sealed
pub more : (xs : List Entry) (keep i : ℕ) → IsInOrder xs → i + (keep + 2) ≡ length xs
    → (get_or xs i no_entry).kind ≡ Sealed → keep < count_of Sealed xs
more xs keep i is place at =
    omega (arith, place, many xs i is (omega (arith, place)) (ap rank at))

-- or it isn't
pub enough : (xs : List Entry) (keep i : ℕ) → IsInOrder xs → i + (keep + 2) ≡ length xs
    → (get_or xs i no_entry).kind ≢ Sealed → count_of Sealed xs ≤ keep
enough xs keep i is place isnt =
    omega (
      arith,
      place,
      few xs i is (omega (arith, place))
          (lower (get_or xs i no_entry).kind isnt (inner xs i is (omega (arith, place)))),
    )
