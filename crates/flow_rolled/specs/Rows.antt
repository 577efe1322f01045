-- A table's rows in a rolled file.
use Rattle.std.specs.Prelude.{◌≡◌, ℕ, zero, suc, ◌+◌, ◌-◌, ◌/◌, ◌%◌, ◌<◌, ◌≤◌, ◌^◌, ◌⊎◌, List, [], ◌∷◌, map}
use Rattle.std.specs.Prelude.{Option, Some, None, IfSome, nat_lt, if◌then◌else◌}
use Rattle.std.specs.List.{flat_map}
use Rattle.std.specs.Option.{option_cmp}
use Rattle.std.specs.Ordering.{nat_cmp, ordering_then}
use Rattle.std.specs.declared.cmp.Ordering.{Ordering}
use Rattle.std.specs.declared.cmp.Ordering.TheVariants.{Less}
use Rattle.std.specs.FinMap.{FinMap, from_entries, entries, get}
use Rattle.flow_measure.specs.declared.rows.Key.{Key}
use Rattle.flow_measure.specs.declared.rows.Sums.{Sums}
use Rattle.flow_measure.specs.Sums.{key_cmp, gathered, Table}
use Rattle.flow_rolled.specs.declared.row.RolledRow.{RolledRow}

-- 0 with a protocol, 1 without one
abbrev pub protocol_rank : Option ℕ → ℕ
protocol_rank None = 1
protocol_rank (Some protocol) = 0

-- the file's order: by domain, then those with a protocol before those without, then by start and protocol
abbrev pub file_cmp : Key → Key → Ordering
file_cmp a b = ordering_then (nat_cmp a.domain b.domain)
    (ordering_then (nat_cmp (protocol_rank a.protocol) (protocol_rank b.protocol))
    (ordering_then (nat_cmp a.start b.start) (option_cmp nat_cmp a.protocol b.protocol)))

abbrev pub in_file_order : FinMap key_cmp Sums → List (Key × Sums)
in_file_order sums = entries (from_entries {R = file_cmp} (entries sums))

-- the greatest count that a row holds
abbrev pub most : ℕ
most = 18446744073709551615

abbrev pub least : ℕ → ℕ → ℕ
least a b = if nat_lt a b then a else b

-- a row takes what it holds of what is left ..
abbrev pub row_of : Key → Sums → RolledRow
row_of key s = record { key = key; flows = s.flows; octets = least s.octets most; packets = least s.packets most }

-- .. and leaves the rest, without the flows
abbrev pub left_of : Sums → Sums
left_of s = record { flows = 0; octets = s.octets - most; packets = s.packets - most }

-- how many rows follow the first one, until nothing is left of either
abbrev pub further : Sums → ℕ
further s = let o = (s.octets - 1) / most in let p = (s.packets - 1) / most in if nat_lt o p then p else o

unfoldable pub rows_from : ℕ → Key → Sums → List RolledRow
rows_from zero key s = row_of key s ∷ []
rows_from (suc n) key s = row_of key s ∷ rows_from n key (left_of s)

abbrev pub rows_of : Key × Sums → List RolledRow
rows_of e = rows_from (further e.1) e.0 e.1

-- all rows of a table, in the file's order
abbrev pub rows_in : FinMap key_cmp Sums → List RolledRow
rows_in sums = flat_map rows_of (in_file_order sums)

-- ---- rows as they are in a file

abbrev pub sums_in : RolledRow → Sums
sums_in r = record { flows = r.flows; octets = r.octets; packets = r.packets }

abbrev pub entries_in : List RolledRow → List (Key × Sums)
entries_in rows = map (λ r. (r.key, sums_in r)) rows

-- the sums of rows, key by key
abbrev pub sums_of : List RolledRow → FinMap key_cmp Sums
sums_of rows = gathered (entries_in rows)

-- a row by itself, in a file of this width
pub record IsRow (width : ℕ) (r : RolledRow) : Type 0 where
  pub aligned : r.key.start % width ≡ 0
  pub start : r.key.start < 2 ^ 32
  pub domain : r.key.domain < 2 ^ 32
  pub protocol : IfSome r.key.protocol (λ p. p < 2 ^ 8)
  pub flows : r.flows ≤ most
  pub octets : r.octets ≤ most
  pub packets : r.packets ≤ most

-- a further row of the key before: it has no flows, and counts only what was full there
pub record Continues (before r : RolledRow) : Type 0 where
  pub key : r.key ≡ before.key
  pub flows : r.flows ≡ 0
  pub some : 0 < r.octets + r.packets
  pub octets : (r.octets ≡ 0) ⊎ (before.octets ≡ most)
  pub packets : (r.packets ≡ 0) ⊎ (before.packets ≡ most)

-- the first row of a key, after a row of another
pub record Begins (before r : RolledRow) : Type 0 where
  pub order : file_cmp before.key r.key ≡ Less
  pub flows : 0 < r.flows

abbrev pub MayFollow : Option RolledRow → RolledRow → Type 0
MayFollow None r = 0 < r.flows
MayFollow (Some before) r = Continues before r ⊎ Begins before r

abbrev pub AreRows : ℕ → Option RolledRow → List RolledRow → Type 0
AreRows width before [] = Unit {0}
AreRows width before (r ∷ rs) = IsRow width r × MayFollow before r × AreRows width (Some r) rs

-- each row may follow the one before
abbrev pub AllMayFollow : Option RolledRow → List RolledRow → Type 0
AllMayFollow before [] = Unit {0}
AllMayFollow before (r ∷ rs) = MayFollow before r × AllMayFollow (Some r) rs

-- ---- tables that files are made of

-- what a table has under a key, in numbers that rows hold
pub record IsTableEntry (width : ℕ) (key : Key) (s : Sums) : Type 0 where
  pub aligned : key.start % width ≡ 0
  pub start : key.start < 2 ^ 32
  pub domain : key.domain < 2 ^ 32
  pub protocol : IfSome key.protocol (λ p. p < 2 ^ 8)
  pub counted : 0 < s.flows
  pub flows : s.flows ≤ most

-- each entry is one
abbrev pub IsTable : Table → Type 0
IsTable t = (key : Key) → IfSome (get t.sums key) (IsTableEntry t.width key)
