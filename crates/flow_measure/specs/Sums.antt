-- Sums of flows, by the interval of their start (RFC 7015, start interval distribution), by domain and by protocol.
use Rattle.std.specs.Prelude.{◌≡◌, ℕ, ◌+◌, ◌-◌, ◌%◌, ◌<◌, ◌^◌, Bool, nat_le, nat_lt, ◌&&◌, List, [], ◌∷◌, ◌++◌, map}
use Rattle.std.specs.Prelude.{filter, sum_by, Option, Some, None, IfSome, Result, Ok, Err, refl}
use Rattle.std.specs.Option.{option_cmp}
use Rattle.std.specs.Ordering.{nat_cmp, ordering_then, is_eq}
use Rattle.std.specs.declared.cmp.Ordering.{Ordering}
use Rattle.std.specs.FinMap.{FinMap, from_entries, entries, get, empty, code}
use Rattle.std.specs.Coded.{Coded, coded_ℕ, coded×, coded_option, code_by}
use Rattle.flow_measure.specs.declared.error.SumError.{SumError}
use Rattle.flow_measure.specs.declared.error.SumError.TheVariants.{SumSpent, OutOfMemory}
use Rattle.flow_measure.specs.declared.flow.Flow.{Flow}
use Rattle.flow_measure.specs.declared.rows.Key.{Key}
use Rattle.flow_measure.specs.declared.rows.Row.{Row}
use Rattle.flow_measure.specs.declared.rows.Sums.{Sums}

-- the start of the interval of a moment: the greatest multiple of the width up to it
abbrev pub interval_of : ℕ → ℕ → ℕ
interval_of start width = start - start % width

-- by start, then domain, then protocol, none before 0
abbrev pub key_cmp : Key → Key → Ordering
key_cmp a b =
    ordering_then (nat_cmp a.start b.start)
    (ordering_then (nat_cmp a.domain b.domain) (option_cmp nat_cmp a.protocol b.protocol))

abbrev pub is_key : Key → Key → Bool
is_key a b = is_eq (key_cmp a b)

abbrev pub key_of : ℕ → Flow → Key
key_of width flow = record { start = interval_of flow.start width; domain = flow.domain; protocol = flow.protocol }

-- what one flow adds
abbrev pub counted : Flow → Sums
counted flow = record { flows = 1; octets = flow.octets; packets = flow.packets }

abbrev pub plus : Sums → Sums → Sums
plus a b = record { flows = a.flows + b.flows; octets = a.octets + b.octets; packets = a.packets + b.packets }

-- the sums fit their types
abbrev pub Fits : Sums → Type 0
Fits s = (s.flows < 2 ^ 64) × (s.octets < 2 ^ 128) × (s.packets < 2 ^ 128)

-- each sum is in the lower half of its type, so that it has room for a flow
abbrev pub HasRoom : Sums → Type 0
HasRoom s = (s.flows < 2 ^ 63) × (s.octets < 2 ^ 127) × (s.packets < 2 ^ 127)

-- all sums under a key
abbrev pub under : Key → List (Key × Sums) → List Sums
under key es = map (λ e. e.1) (filter (λ e. is_key key e.0) es)

abbrev pub total : List Sums → Sums
total sums = record {
  flows = sum_by (λ s. s.flows) sums;
  octets = sum_by (λ s. s.octets) sums;
  packets = sum_by (λ s. s.packets) sums;
}

-- the total, where there are any sums
abbrev pub some_total : List Sums → Option Sums
some_total [] = None
some_total (s ∷ ss) = Some (total (s ∷ ss))

-- each key of the list, with the total of all sums under it
unfoldable pub gathered : List (Key × Sums) → FinMap key_cmp Sums
gathered es = from_entries (map (λ e. (e.0, total (under e.0 es))) es)

-- the sums of flows over intervals of this width: each key that flows have, with the sums of all of them
unfoldable pub sums_by : ℕ → List Flow → FinMap key_cmp Sums
sums_by width flows = gathered (map (λ f. (key_of width f, counted f)) flows)

-- how contracts see `Rows`
pub record Table : Type 0 where
  pub width : ℕ
  pub sums : FinMap key_cmp Sums

abbrev pub table_of : ℕ → List Flow → Table
table_of width flows = record { width = width; sums = sums_by width flows }

abbrev pub empty_table : ℕ → Table
empty_table width = record { width = width; sums = empty }

-- the table with sums added under a key
abbrev pub with_sums : Key → Sums → Table → Table
with_sums key sums t = record { width = t.width; sums = gathered (entries t.sums ++ (key, sums) ∷ []) }

abbrev pub with_flow : Flow → Table → Table
with_flow flow t = with_sums (key_of t.width flow) (counted flow) t

-- the sums of both, key by key
abbrev pub merged : Table → Table → Table
merged a b = record { width = a.width; sums = gathered (entries a.sums ++ entries b.sums) }

abbrev pub widened_key : ℕ → Key → Key
widened_key wide key = record { start = interval_of key.start wide; domain = key.domain; protocol = key.protocol }

abbrev pub widened_entries : ℕ → List (Key × Sums) → List (Key × Sums)
widened_entries wide es = map (λ e. (widened_key wide e.0, e.1)) es

-- the sums over wide intervals, each the total of the intervals in it
abbrev pub widened : ℕ → Table → Table
widened wide t = record { width = wide; sums = gathered (widened_entries wide (entries t.sums)) }

-- the table with these sums added, each under the key of the interval that holds its start
abbrev pub with_entries : List (Key × Sums) → Table → Table
with_entries es t = record { width = t.width; sums = gathered (entries t.sums ++ widened_entries t.width es) }

-- a key of rows by this width: its start is a multiple of the width, and its numbers fit their types
pub record IsKeyBy (width : ℕ) (key : Key) : Type 0 where
  pub aligned : key.start % width ≡ 0
  pub start : key.start < 2 ^ 32
  pub domain : key.domain < 2 ^ 32
  pub protocol : IfSome key.protocol (λ p. p < 2 ^ 8)

-- each key is one by this width, and has flows
abbrev pub AreSound : ℕ → FinMap key_cmp Sums → Type 0
AreSound width sums = (key : Key) → IfSome (get sums key) (λ s. IsKeyBy width key × (0 < s.flows))

-- each sum fits its type
abbrev pub AllFit : Table → Type 0
AllFit t = (key : Key) → IfSome (get t.sums key) Fits

-- what a refusal says of the sums that were to be made: 14 that one of them passes its type
abbrev pub IsRefused : SumError → Table → Type 0
IsRefused SumSpent sums = AllFit sums → ⊥
IsRefused OutOfMemory sums = Unit {0}

-- a table is to become `sums`: it does where they fit their types, and stays as it was on a refusal
abbrev pub Becomes : {X : Type 0} → Result X SumError → Table → Table → Table → Type 0
Becomes (Ok _) sums old new = AllFit sums × (new ≡ sums)
Becomes (Err e) sums old new = IsRefused e sums × (new ≡ old)

-- the table is that of these flows
abbrev pub AreSums : Table → List Flow → Type 0
AreSums t flows = t ≡ table_of t.width flows

-- whether a key's start is from one moment on and before another
abbrev pub is_within : ℕ → ℕ → Key → Bool
is_within from to key = nat_le from key.start && nat_lt key.start to

abbrev pub table_row : ℕ → Key × Sums → Row
table_row width e = record { key = e.0; sums = e.1; width = width }

-- the rows from one start up to another, in the order of their keys
abbrev pub rows_between : ℕ → ℕ → Table → List Row
rows_between from to t = map (table_row t.width) (filter (λ e. is_within from to e.0) (entries t.sums))

-- ---- codes

abbrev pub coded_key : Coded Key
coded_key =
    code_by (ℕ × (ℕ × Option ℕ)) (coded× coded_ℕ (coded× coded_ℕ (coded_option coded_ℕ)))
    (λ k. (k.start, (k.domain, k.protocol)))
    (λ p. record { start = p.0; domain = (p.1).0; protocol = (p.1).1 }) (λ _. refl)

abbrev pub coded_sums : Coded Sums
coded_sums =
    code_by (ℕ × (ℕ × ℕ)) (coded× coded_ℕ (coded× coded_ℕ coded_ℕ)) (λ s. (s.flows, (s.octets, s.packets)))
    (λ p. record { flows = p.0; octets = (p.1).0; packets = (p.1).1 }) (λ _. refl)

abbrev pub coded_table : Coded Table
coded_table =
    code_by (ℕ × FinMap key_cmp Sums) (coded× coded_ℕ (code coded_key coded_sums)) (λ t. (t.width, t.sums))
    (λ p. record { width = p.0; sums = p.1 }) (λ _. refl)
