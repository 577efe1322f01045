-- Numbers on the command line: digits alone, leading zeros too.
use Rattle.std.specs.Prelude.{ℕ, ◌+◌, ◌*◌, ◌-◌, List, fold, length, Bool, nat_le, ◌&&◌, Option, Some, None}
use Rattle.std.specs.Prelude.{if◌then◌else◌}
use Rattle.std.specs.List.{list_all}

abbrev pub is_digit : ℕ → Bool
is_digit octet = nat_le 48 octet && nat_le octet 57

-- digits and nothing else, at least one
abbrev pub is_number : List ℕ → Bool
is_number text = nat_le 1 (length text) && list_all is_digit text

abbrev pub number_of : List ℕ → ℕ
number_of text = fold (λ n octet. n * 10 + (octet - 48)) 0 text

-- the number of a text, from `least` to `most`
abbrev pub number_between : ℕ → ℕ → List ℕ → Option ℕ
number_between least most text =
    if is_number text && nat_le least (number_of text) && nat_le (number_of text) most then Some
    (number_of text) else None
