-- Moments as words: a day or a minute of UTC, so many days or hours ago, now.
use Rattle.std.specs.Prelude.{ℕ, ◌+◌, ◌*◌, ◌-◌, ◌&&◌, ◌==◌, nat_le, min, List, take, drop, length, get_or, codes}
use Rattle.std.specs.Prelude.{Bool, true, false}
use Rattle.std.specs.Prelude.{Option, Some, None, option_map, option_and_then, pos, unsigned_abs, if◌then◌else◌}
use Rattle.std.specs.Str.{bytes_eq}
use Rattle.jiff_core.specs.Calendar.{days_from_civil, days_in_month}
use Rattle.flow_report.specs.Numbers.{number_between}
use Rattle.flow_moments.specs.declared.moment.Moment.{Moment}
use Rattle.flow_moments.specs.declared.moment.Moment.TheVariants.{Second, Ago}

-- its second where it is now the second `now`, and 2^32 at most
abbrev pub second_at : ℕ → Moment → ℕ
second_at now (Second second) = min second 4294967296
second_at now (Ago count) = min (now - count) 4294967296

-- its second depends on what second it is now
abbrev pub is_relative : Moment → Bool
is_relative (Second second) = false
is_relative (Ago count) = true

-- the octet at a place
abbrev pub octet_at : ℕ → List ℕ → ℕ
octet_at place text = get_or text place 0

-- the octets from one place on and before another
abbrev pub part : ℕ → ℕ → List ℕ → List ℕ
part from to text = take (to - from) (drop from text)

-- the number of a day since 1970-01-01, where the Gregorian calendar has this day
abbrev pub day_of : ℕ → ℕ → ℕ → Option ℕ
day_of year month day =
    if nat_le day (days_in_month (pos year) month) then Some (unsigned_abs (days_from_civil (pos year) month day))
    else None

-- YYYY-MM-DD
abbrev pub is_dated : List ℕ → Bool
is_dated text =
    (length text == 10) && (octet_at 4 text == 45) && (octet_at 7 text == 45)

abbrev pub date_of : List ℕ → Option ℕ
date_of text =
    if is_dated text then
    option_and_then (λ year. option_and_then (λ month. option_and_then (λ day. day_of year month day)
    (number_between 1 31 (part 8 10 text))) (number_between 1 12 (part 5 7 text)))
    (number_between 1970 2106 (part 0 4 text))
    else None

-- THH:MM
abbrev pub is_timed : List ℕ → Bool
is_timed text =
    (length text == 6) && (octet_at 0 text == 84) && (octet_at 3 text == 58)

abbrev pub minute_of : List ℕ → Option ℕ
minute_of text =
    if is_timed text then
    option_and_then (λ hour. option_map (λ minute. hour * 3600 + minute * 60) (number_between 0 59 (part 4 6 text)))
    (number_between 0 23 (part 1 3 text))
    else None

-- :SSZ, or nothing
abbrev pub has_seconds : List ℕ → Bool
has_seconds text =
    (length text == 4) && (octet_at 0 text == 58) && (octet_at 3 text == 90)

abbrev pub second_in_minute : List ℕ → Option ℕ
second_in_minute text =
    if length text == 0 then Some 0
    else if has_seconds text then number_between 0 59 (part 1 3 text)
    else None

-- THH:MM or THH:MM:SSZ, or nothing
abbrev pub clock_of : List ℕ → Option ℕ
clock_of text =
    if length text == 0 then Some 0
    else if nat_le 6 (length text) then
    option_and_then (λ minute. option_map (λ second. minute + second) (second_in_minute (drop 6 text)))
    (minute_of (take 6 text))
    else None

-- a day and its clock
abbrev pub second_of : List ℕ → Option ℕ
second_of text =
    if nat_le 10 (length text) then
    option_and_then (λ day. option_map (λ second. day * 86400 + second) (clock_of (drop 10 text)))
    (date_of (take 10 text))
    else None

abbrev pub ago : ℕ → List ℕ → Option Moment
ago unit count = option_map (λ n. Ago (unit * n)) (number_between 0 4294967296 count)

-- what a word ends by, and what is before it
abbrev pub last : List ℕ → ℕ
last text = octet_at (length text - 1) text

abbrev pub front : List ℕ → List ℕ
front text = take (length text - 1) text

-- so many days (100 is d) or hours (104 is h) ago, now, a day, or a minute or a second of it
abbrev pub moment_of : List ℕ → Option Moment
moment_of text =
    if bytes_eq text (codes "now") then Some (Ago 0)
    else if last text == 100 then ago 86400 (front text)
    else if last text == 104 then ago 3600 (front text)
    else option_map Second (second_of text)
