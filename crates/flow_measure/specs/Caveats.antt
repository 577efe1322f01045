-- Flows that start at the Export Time of their message, and the counts of those whose sums may be other than meant.
use Rattle.std.specs.Prelude.{ℕ, ◌/◌, ◌+◌, ◌&&◌, Bool, not, nat_le, List, Option, Some, None, count_by, if◌then◌else◌}
use Rattle.std.specs.Option.{is_none}
use Rattle.flow_codec.specs.declared.losses.CaveatCounts.{CaveatCounts}
use Rattle.flow_codec.specs.declared.plan.Role.{Role}
use Rattle.flow_codec.specs.declared.plan.Role.TheVariants.{Seconds, Milliseconds}
use Rattle.flow_codec.specs.Caveats.{is_sampled, is_uncounted}
use Rattle.flow_codec.specs.Fields.{fields_in}
use Rattle.flow_codec.specs.Losses.{up_to}
use Rattle.flow_codec.specs.Plan.{values_of}
use Rattle.flow_codec.specs.Raw.{Placed, RawRecord}
use Rattle.flow_measure.specs.Flows.{number_in}

-- ---- when a flow starts

-- the start of a record's own: milliseconds in seconds, rounded down, where these fit in 32 bits; else seconds
abbrev pub own_start : Option ℕ → Option ℕ → Option ℕ
own_start None seconds = seconds
own_start (Some n) seconds = if nat_le (n / 1000) 4294967295 then Some (n / 1000) else seconds

-- that of the values that count in a record
abbrev pub own_start_in : List (Role × List ℕ) → Option ℕ
own_start_in values = own_start (number_in Milliseconds values) (number_in Seconds values)

-- they have none
abbrev pub has_no_start : List (Role × List ℕ) → Bool
has_no_start values = is_none (own_start_in values)

-- a flow that starts at the Export Time of its message
abbrev pub is_placed : RawRecord → Bool
is_placed r = not r.layout.options && has_no_start (values_of (fields_in r.layout.fields r.octets))

-- ---- counts

-- Those of these records besides. Counts stop at 2^64 - 1.
abbrev pub with_caveats : CaveatCounts → List Placed → CaveatCounts
with_caveats c taken = record {
  placed = up_to (c.placed + count_by (λ x. is_placed x.1) taken);
  uncounted = up_to (c.uncounted + count_by (λ x. is_uncounted x.1) taken);
  sampled = up_to (c.sampled + count_by (λ x. is_sampled x.1) taken);
}
