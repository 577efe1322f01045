use Rattle.std.proofs.Common.{refl, sym, arith}
use Rattle.flow_rolled.proofs.Breaking.{one_table}
use Rattle.flow_rolled.proofs.laws.one_rollup.Goals as goal

pub returns-clause-one_table : goal.returns-clause-one_table
returns-clause-one_table c = λ w octets s t wide hs ht. one_table w wide octets s t hs ht

pub returns-clause-one_place : goal.returns-clause-one_place
returns-clause-one_place c = λ w octets at other h k. let a = h.greatest other k.front in let b =
    k.greatest at h.front in omega (arith, a, b)

pub returns-clause-never_both : goal.returns-clause-never_both
returns-clause-never_both c = λ w octets at t h k. h.none t k

pub returns-clause-different : goal.returns-clause-different
returns-clause-different c = λ s t time other hs ht width wide small small_2 is.
    one_table s.width wide _ s t (record { valid = hs; width_is = refl; time = time; small = small; is = refl })
    (record { valid = ht; width_is = sym width; time = other; small = small_2; is = is })

pub returns-clause-rolled : goal.returns-clause-rolled
returns-clause-rolled c = λ t time valid small. record {
  valid = valid;
  width_is = refl;
  time = time;
  small =
      small;
  is = refl;
}
