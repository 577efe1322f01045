-- When a flow starts: at the start of its record's own, or else at the Export Time of its message.
use Rattle.std.proofs.Common.{◌≡◌, ℕ, ◌/◌, Bool, Option, Some, None, refl}
use Rattle.std.specs.Prelude.{true, false, cond, nat_le, unwrap_or}
use Rattle.flow_measure.specs.Caveats.{own_start}
use Rattle.flow_measure.specs.Flows.{start_of}

pub start_is : (time : ℕ) (milliseconds seconds : Option ℕ)
    → start_of time milliseconds seconds ≡ unwrap_or (own_start milliseconds seconds) time
start_is time None seconds = refl
start_is time (Some n) seconds = by (nat_le (n / 1000) 4294967295)
  where
    by : (b : Bool) → cond b (n / 1000) (unwrap_or seconds time) ≡ unwrap_or (cond b (Some (n / 1000)) seconds) time
    by true = refl
    by false = refl
