-- What is written of a second is read as that second.
use Rattle.std.proofs.Common.{◌≡◌, ℕ, zero, suc, ◌/◌, ◌%◌, ◌<◌, ◌≤◌, ◌^◌, Bool, true, false, [], ◌∷◌}
use Rattle.std.proofs.Common.{Some, ap, refl, arith, rules, length, codes, pos}
use Rattle.std.specs.Prelude.{nat_lt}
use Rattle.std.specs.Str.{bytes_eq}
use Rattle.std.proofs.lemmas.Bool.{cond_both, le-leb}
use Rattle.std.proofs.lemmas.Int.{by_lt_z}
use Rattle.std.proofs.lemmas.Slice.Eq.{bytes_eq-Decides}
use Rattle.jiff_core.specs.Calendar.{days_in_month}
use Rattle.jiff_core.proofs.SignedLemmas.{signed_arith}
use Rattle.jiff_core.proofs.MarchLemmas.{day_count-early}
use Rattle.jiff_core.proofs.CalendarLemmas.{days_from_civil-day_count, day_count-last_of_year, day_count-lt_year}
use Rattle.jiff_core.proofs.CalendarLemmas.{days_in_month_bounds}
use Rattle.flow_report.specs.Numbers.{is_digit, number_between, number_of}
use Rattle.flow_dates.specs.Dates.{Day, day_after, digit, time_text, two_digits}
use Rattle.flow_dates.proofs.Days.{after_has}
use Rattle.flow_moments.specs.declared.moment.Moment.TheVariants.{Second}
use Rattle.flow_moments.specs.Moments.{day_of, moment_of}

-- ---- numbers of digits

digit_is : (n : ℕ) → is_digit (digit n) ≡ true
digit_is n = rw (le-leb 48 (digit n) (omega arith), le-leb (digit n) 57 (omega arith)) refl

pub two_read : (least most n : ℕ) → n < 100 → least ≤ n → n ≤ most → number_between least most (two_digits n) ≡ Some n
two_read least most n small low high =
    let is : number_of (two_digits n) ≡ n = omega arith in
    rw (digit_is (n / 10), digit_is n, is, le-leb least n low, le-leb n most high) refl

pub four_read : (least most n : ℕ) → n < 10000 → least ≤ n → n ≤ most
    → number_between least most (digit (n / 100 / 10) ∷ digit (n / 100) ∷ digit (n / 10) ∷ digit n ∷ []) ≡ Some n
four_read least most n small low high =
    let is : number_of (digit (n / 100 / 10) ∷ digit (n / 100) ∷ digit (n / 10) ∷ digit n ∷ []) ≡ n = omega arith in
    rw (
      digit_is (n / 100 / 10),
      digit_is (n / 100),
      digit_is (n / 10),
      digit_is n,
      is,
      le-leb least n low,
      le-leb n most high,
    ) refl

not_true : (b : Bool) → (b ≡ true → ⊥) → b ≡ false
not_true true never = absurd (never refl)
not_true false never = refl

-- ---- years

year_low : (n : ℕ) → 1970 ≤ (day_after n).year
unfolding day_after
year_low zero = omega arith
year_low (suc n) =
    let d = day_after n in
    let before = year_low n in
    cond_both (nat_lt d.day (days_in_month (pos d.year) d.month)) _ _ (λ (d : Day). 1970 ≤ d.year) (λ more. before)
    (λ last. cond_both (nat_lt d.month 12) _ _ (λ (d : Day). 1970 ≤ d.year) (λ more. before) (λ end. omega arith))

year_high : (n : ℕ) → n ≤ 49710 → (day_after n).year ≤ 2106
year_high n most =
    let d = day_after n in
    let has = after_has n in
    by_lt_z (pos 2106) (pos d.year)
    (λ lt. absurd (omega (
      arith,
      signed_arith,
      has.number_is,
      days_from_civil-day_count (pos d.year) d.month d.day,
      day_count-early (pos 2106) 12105 1 1 refl (omega arith) (omega arith) (omega arith),
      day_count-last_of_year (pos 2106),
      day_count-lt_year (pos 2106) 12 31 (pos d.year) d.month d.day (search rules)
          has.is_day.day_in.0 lt,
    )))
    (λ ge. omega (arith, signed_arith))

-- ---- the whole text

day_read : (n : ℕ) → n ≤ 49710 → day_of (day_after n).year (day_after n).month (day_after n).day ≡ Some n
day_read n most =
    let d = day_after n in
    let has = after_has n in
    rw (le-leb d.day (days_in_month (pos d.year) d.month) has.is_day.day_in.1, has.number_is) refl

pub read_back : (second : ℕ) → second < 2 ^ 32 → moment_of (time_text second) ≡ Some (Second second)
read_back second small =
    let n = second / 86400 in
    let clock = second % 86400 in
    let d = day_after n in
    let most : n ≤ 49710 = omega arith in
    let has = after_has n in
    let long = days_in_month_bounds (pos d.year) d.month in
    let other : bytes_eq (time_text second) (codes "now") ≡ false =
    not_true (bytes_eq (time_text second) (codes "now"))
    (λ same. let lengths = ap length ((bytes_eq-Decides (time_text second) (codes "now")).0 same) in omega arith) in
    let year = four_read 1970 2106 d.year (omega (arith, year_high n most)) (year_low n) (year_high n most) in
    let month = two_read 1 12 d.month (omega (arith, has.is_day.month_in)) has.is_day.month_in.0 has.is_day.month_in.1 in
    let day = two_read 1 31 d.day (omega (arith, has.is_day.day_in)) has.is_day.day_in.0
    (omega (arith, has.is_day.day_in)) in
    let hour = two_read 0 23 (clock / 3600) (omega arith) (omega arith) (omega arith) in
    let minute = two_read 0 59 (clock / 60 % 60) (omega arith) (omega arith) (omega arith) in
    let rest = two_read 0 59 (clock % 60) (omega arith) (omega arith) (omega arith) in
    rw (other, year, month, day, day_read n most, hour, minute, rest)
    (ap (λ (x : ℕ). Some (Second x)) (omega arith))
