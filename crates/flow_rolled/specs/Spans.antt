-- When the intervals of a rolled file start.
use Rattle.std.specs.Prelude.{◌≡◌, ℕ, Bool, false, ◌==◌, ◌&&◌, List, Option, Some, None}
use Rattle.flow_measure.specs.Span.{is_outside, span_of, starts_in, HasNoneWithin}
use Rattle.flow_measure.specs.Sums.{Table}
use Rattle.flow_rolled.specs.declared.row_span.RowSpan.{RowSpan}
use Rattle.flow_rolled.specs.Rollup.{IsRollup}

-- The octets are the rolled file of a table by the span's width, whose intervals start so.
abbrev pub HasSpan : RowSpan → List ℕ → Type 0
HasSpan s octets = (table : Table) × IsRollup s.width octets table × (s.span ≡ span_of (starts_in table.sums))

-- whether it is known that no row by this width starts from one moment on and before another
abbrev pub is_known_outside : Option RowSpan → ℕ → ℕ → ℕ → Bool
is_known_outside None width from to = false
is_known_outside (Some s) width from to = s.width == width && is_outside width from to s.span

-- The octets are the rolled file, by this width, of a table that has no sums there.
abbrev pub IsPassedOver : ℕ → ℕ → ℕ → List ℕ → Type 0
IsPassedOver width from to octets = (table : Table) × IsRollup width octets table × HasNoneWithin from to table.sums
