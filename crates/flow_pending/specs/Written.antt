-- Which octets of a file were written.
use Rattle.std.specs.Prelude.{ℕ, ◌<◌, ◌≤◌, List}
use Rattle.std.specs.List.{Any}
use Rattle.flow_pending.specs.declared.ranges.Range.{Range}

-- the place lies in this range
abbrev pub IsWithin : Range → ℕ → Type 0
IsWithin range place = (range.from ≤ place) × (place < range.to)

-- the place lies in one of these
abbrev pub IsWritten : List Range → ℕ → Type 0
IsWritten ranges place = Any (λ range. IsWithin range place) ranges
