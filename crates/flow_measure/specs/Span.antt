-- When flows start: the first and the last start of some.
use Rattle.std.specs.Prelude.{◌≡◌, ℕ, Bool, true, false, ◌||◌, nat_lt, nat_le, List, [], ◌∷◌, map, min, max, None}
use Rattle.std.specs.List.{AllByRecursion}
use Rattle.std.specs.FinMap.{FinMap, entries, get}
use Rattle.flow_measure.specs.declared.flow.Flow.{Flow}
use Rattle.flow_measure.specs.declared.rows.Key.{Key}
use Rattle.flow_measure.specs.declared.rows.Sums.{Sums}
use Rattle.flow_measure.specs.declared.span.PartSpan.{PartSpan}
use Rattle.flow_measure.specs.Sums.{interval_of, is_within, key_cmp}

-- that of no flows, whose first start is after the last one
abbrev pub no_span : PartSpan
no_span = record { first = 4294967295; last = 0 }

abbrev pub with_start : ℕ → PartSpan → PartSpan
with_start start s = record { first = min s.first start; last = max s.last start }

abbrev pub with_starts : PartSpan → List ℕ → PartSpan
with_starts s [] = s
with_starts s (start ∷ starts) = with_starts (with_start start s) starts

-- the least of these starts, and the greatest
abbrev pub span_of : List ℕ → PartSpan
span_of starts = with_starts no_span starts

abbrev pub starts_of : List Flow → List ℕ
starts_of flows = map (λ f. f.start) flows

-- the starts of the intervals that have sums
abbrev pub starts_in : FinMap key_cmp Sums → List ℕ
starts_in sums = map (λ e. e.0.start) (entries sums)

-- ---- what is passed over

-- There are no flows, or the intervals of this width that hold them all start before `from`, or none before `to`.
abbrev pub is_outside : ℕ → ℕ → ℕ → PartSpan → Bool
is_outside width from to s =
    nat_lt s.last s.first || nat_lt (interval_of s.last width) from || nat_le to (interval_of s.first width)

-- no interval that starts from one moment on and before another has sums
abbrev pub HasNoneWithin : ℕ → ℕ → FinMap key_cmp Sums → Type 0
HasNoneWithin from to sums = (key : Key) → is_within from to key ≡ true → get sums key ≡ None

-- the intervals that do have the same sums
abbrev pub AreSameWithin : ℕ → ℕ → FinMap key_cmp Sums → FinMap key_cmp Sums → Type 0
AreSameWithin from to a b = (key : Key) → is_within from to key ≡ true → get a key ≡ get b key
