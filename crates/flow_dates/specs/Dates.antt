-- The date and the time of a second of UTC, as text.
use Rattle.std.specs.Prelude.{ℕ, zero, suc, ◌+◌, ◌/◌, ◌%◌, List, [], ◌∷◌, ◌++◌, nat_lt, if◌then◌else◌, pos}
use Rattle.jiff_core.specs.Calendar.{days_in_month}

-- a day of the Gregorian calendar
pub record Day : Type 0 where
  pub year : ℕ
  pub month : ℕ
  pub day : ℕ

abbrev pub next_day : Day → Day
next_day d =
    if nat_lt d.day (days_in_month (pos d.year) d.month) then record d { day = d.day + 1 }
    else if nat_lt d.month 12 then record { year = d.year; month = d.month + 1; day = 1 }
    else record { year = d.year + 1; month = 1; day = 1 }

-- the day so many days after 1970-01-01
unfoldable pub day_after : ℕ → Day
day_after zero = record { year = 1970; month = 1; day = 1 }
day_after (suc n) = next_day (day_after n)

-- the last digit of a number, and the last two
abbrev pub digit : ℕ → ℕ
digit n = 48 + n % 10

abbrev pub two_digits : ℕ → List ℕ
two_digits n = digit (n / 10) ∷ digit n ∷ []

-- YYYY-MM-DD
abbrev pub date_text : Day → List ℕ
date_text d =
    two_digits (d.year / 100) ++ two_digits d.year ++ 45 ∷ two_digits d.month ++ 45 ∷ two_digits d.day

-- HH:MM:SS of a second of a day
abbrev pub clock_text : ℕ → List ℕ
clock_text second =
    two_digits (second / 3600) ++ 58 ∷ two_digits (second / 60 % 60) ++ 58 ∷ two_digits (second % 60)

-- YYYY-MM-DDTHH:MM:SSZ
abbrev pub time_text : ℕ → List ℕ
time_text second = date_text (day_after (second / 86400)) ++ 84 ∷ clock_text (second % 86400) ++ 90 ∷ []
