-- Numbers of files, as ranges.
use Rattle.std.specs.Prelude.{ℕ, zero, suc, ◌+◌, ◌-◌, Bool, ◌&&◌, nat_le, nat_lt, List, [], ◌∷◌}
use Rattle.std.specs.List.{flat_map, list_any}
use Rattle.flow_folder_disk.specs.declared.number_range.NumberRange.{NumberRange}

-- whether a number is from one on and before another
abbrev pub is_between : ℕ → ℕ → ℕ → Bool
is_between from to number = nat_le from number && nat_lt number to

-- whether a range has it
abbrev pub has : ℕ → NumberRange → Bool
has number range = is_between range.from range.to number

-- whether one of these ranges has it
abbrev pub is_among : ℕ → List NumberRange → Bool
is_among number ranges = list_any (has number) ranges

-- so many numbers, from one on
abbrev pub counted_from : ℕ → ℕ → List ℕ
counted_from zero from = []
counted_from (suc n) from = from ∷ counted_from n (from + 1)

-- the numbers from one on and before another
abbrev pub numbers_from : ℕ → ℕ → List ℕ
numbers_from from to = counted_from (to - from) from

-- all numbers of ranges
abbrev pub numbers_of : List NumberRange → List ℕ
numbers_of ranges = flat_map (λ range. numbers_from range.from range.to) ranges
