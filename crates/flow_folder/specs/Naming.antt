-- The names of files.
use Rattle.std.specs.Prelude.{◌≡◌, ◌≢◌, ◌<◌, ℕ, List, length, get_or, ◌++◌, ◌==◌, if◌then◌else◌, codes, decimal}

-- Files 1 and 2 are the slots, and each other file is its number in decimal, without leading zeros.
abbrev pub name_of : ℕ → List ℕ
name_of file =
    if file == 1 then codes "1.slot" else (if file == 2 then codes "2.slot" else decimal file ++ codes ".ipfix")

-- The name that marks a file as settled is its number and `.settled`.
abbrev pub mark_of : ℕ → List ℕ
mark_of file = decimal file ++ codes ".settled"

-- a text with no sign and no leading zero
pub record IsPlain (octets : List ℕ) : Type 0 where
  pub some : 0 < length octets
  pub unsigned : get_or octets 0 0 ≢ 43
  pub no_zero : get_or octets 0 0 ≡ 48 → length octets ≡ 1
