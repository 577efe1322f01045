-- Days after days have the numbers of the calendar, and no other day has.
use Rattle.std.proofs.Common.{◌≡◌, ℕ, zero, suc, ◌+◌, ◌<◌, sym, subst, ◌∙◌, arith, ℤ, pos}
use Rattle.std.specs.Prelude.{nat_lt}
use Rattle.std.specs.Int.{IsInRange}
use Rattle.std.proofs.lemmas.Bool.{cond_both, ltb-true, ltb-false}
use Rattle.std.proofs.lemmas.Int.{by_lt_z}
use Rattle.jiff_core.specs.declared.civil.date.Date.{Date}
use Rattle.jiff_core.specs.Calendar.{days_from_civil, days_in_month, IsYear}
use Rattle.jiff_core.specs.Date.{epoch_day}
use Rattle.jiff_core.proofs.SignedLemmas.{signed_arith}
use Rattle.jiff_core.proofs.CalendarLemmas.{days_from_civil-day_count, day_count-epoch, day_count-lt_year, days_in_month_bounds}
use Rattle.jiff_core.proofs.DateLemmas.{civil, epoch_day_injective, days_from_civil-day, days_from_civil-next_month, days_from_civil-next_year}
use Rattle.flow_dates.specs.Dates.{Day, day_after, next_day}

-- the calendar has this day
pub record IsDay (d : Day) : Type 0 where
  pub month_in : IsInRange 1 12 d.month
  pub day_in : IsInRange 1 (days_in_month (pos d.year) d.month) d.day

-- its number
abbrev number : Day → ℤ
number d = days_from_civil (pos d.year) d.month d.day

-- a day with this number
pub record HasNumber (n : ℕ) (d : Day) : Type 0 where
  pub is_day : IsDay d
  pub number_is : number d ≡ pos n

next_is : (n : ℕ) (d : Day) → HasNumber n d → HasNumber (suc n) (next_day d)
next_is n d h =
    let most = days_in_month_bounds (pos d.year) d.month in
    let is = h.number_is in
    cond_both (nat_lt d.day (days_in_month (pos d.year) d.month)) _ _ (HasNumber (suc n))
    (λ more. let below : d.day < days_in_month (pos d.year) d.month = ltb-true _ _ more in record {
      is_day = record { month_in = h.is_day.month_in; day_in = (omega arith, omega arith) };
      number_is = omega (
        arith,
        signed_arith,
        days_from_civil-day (pos d.year) d.month d.day (d.day + 1)
            h.is_day.day_in.0 (omega arith),
      );
    })
    (λ last. let is_last : d.day ≡ days_in_month (pos d.year) d.month =
    omega (arith, ltb-false _ _ last, h.is_day.day_in.1) in
    cond_both (nat_lt d.month 12) _ _ (HasNumber (suc n))
    (λ more. let below : d.month < 12 = ltb-true _ _ more in
    let next = days_in_month_bounds (pos d.year) (d.month + 1) in record {
      is_day = record { month_in = (omega arith, omega arith); day_in = (omega arith, omega arith) };
      number_is = omega (
        arith,
        signed_arith,
        days_from_civil-next_month (pos d.year) d.month d.day
            h.is_day.month_in.0 is_last,
      );
    })
    (λ end. let is_end : d.month ≡ 12 = omega (arith, ltb-false _ _ end, h.is_day.month_in.1) in
    let next = days_in_month_bounds (pos (d.year + 1)) 1 in record {
      is_day = record { month_in = (omega arith, omega arith); day_in = (omega arith, omega arith) };
      number_is = let is_31 : d.day ≡ 31 = rw is_end at is_last in
          let here = rw (is_end, is_31) at is in
          omega (
            arith,
            signed_arith,
            here,
            days_from_civil-next_year (pos d.year) (pos (d.year + 1))
                (omega (arith, signed_arith)) (omega (arith, signed_arith)),
          );
    }))

pub after_has : (n : ℕ) → HasNumber n (day_after n)
unfolding day_after
after_has zero = record {
  is_day = record { month_in = (omega arith, omega arith); day_in = (omega arith, omega arith) };
  number_is = omega (arith, signed_arith, day_count-epoch, days_from_civil-day_count (pos 1970) 1 1);
}
after_has (suc n) = next_is n (day_after n) (after_has n)

pub same_year : (a : Date) (d : Day) → IsDay d → epoch_day a ≡ number d → a.year ≡ pos d.year
same_year a d h e =
    by_lt_z a.year (pos d.year)
    (λ lt. absurd (omega (
      arith,
      signed_arith,
      e,
      days_from_civil-day_count,
      day_count-lt_year a.year a.month a.day
          (pos d.year) d.month d.day (civil a) h.day_in.0 lt,
    )))
    (λ ge. by_lt_z (pos d.year) a.year
    (λ gt. absurd (omega (
      arith,
      signed_arith,
      e,
      days_from_civil-day_count,
      day_count-lt_year (pos d.year) d.month d.day
          a.year a.month a.day ((omega (arith, signed_arith), omega (arith, signed_arith, a.year_in.1)), h.month_in, h.day_in)
          a.day_in.0 gt,
    )))
    (λ le. omega (arith, signed_arith)))

pub same_day : (a : Date) (d : Day) → IsDay d → epoch_day a ≡ number d
    → (a.year ≡ pos d.year) × (a.month ≡ d.month) × (a.day ≡ d.day)
same_day a d h e =
    let year = same_year a d h e in
    let b : Date = record {
      year = pos d.year;
      month = d.month;
      day = d.day;
      year_in = subst IsYear year a.year_in;
      month_in = h.month_in;
      day_in = h.day_in;
    } in
    epoch_day_injective a b e

-- the date whose number is that of a day after so many days is that day
pub date_is : (a : Date) (n : ℕ) → epoch_day a ≡ pos n
    → (a.year ≡ pos (day_after n).year) × (a.month ≡ (day_after n).month) × (a.day ≡ (day_after n).day)
date_is a n e = same_day a (day_after n) (after_has n).is_day (e ∙ sym (after_has n).number_is)
