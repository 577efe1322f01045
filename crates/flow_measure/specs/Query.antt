-- Queries of a history, and the answers by its view alone.
use Rattle.std.specs.Prelude.{ℕ, zero, suc, ◌+◌, ◌-◌, ◌==◌, nat_lt, nat_le, ◌&&◌, List, [], ◌∷◌, ◌++◌, length, filter}
use Rattle.std.specs.Prelude.{take, drop, slice_get, Option, None, option_map, if◌then◌else◌}
use Rattle.std.specs.FinMap.{entries}
use Rattle.std.specs.Ordering.{is_le}
use Rattle.flow_measure.specs.declared.flow.Flow.{Flow}
use Rattle.flow_measure.specs.declared.rows.Row.{Row}
use Rattle.flow_measure.specs.Sums.{Table, key_cmp, gathered, sums_by, rows_between, merged}
use Rattle.flow_measure.specs.History.{History, flows_in}
use Rattle.flow_measure.specs.View.{View, gathered_all}

-- Two lists of rows in the order of their keys, as one: of two rows of one key the first list's comes first. The law
-- `interleaving` states it in terms of a stable sort.
abbrev pub interleaved : ℕ → List Row → List Row → List Row
interleaved zero rows others = rows ++ others
interleaved (suc steps) [] others = others
interleaved (suc steps) (r ∷ rows) [] = r ∷ rows
interleaved (suc steps) (r ∷ rows) (o ∷ others) =
    if is_le (key_cmp r.key o.key) then r ∷ interleaved steps rows (o ∷ others)
    else o ∷ interleaved steps (r ∷ rows) others

-- The rows of two tables from one start up to another, each by its own start, in the order of their keys, those of the
-- narrow table first. Where both have one width, they are one table.
abbrev pub rows_of_both : ℕ → ℕ → Table → Table → List Row
rows_of_both from to narrow wide =
    if narrow.width == wide.width then rows_between from to (merged narrow wide) else
    interleaved (length (entries narrow.sums) + length (entries wide.sums)) (rows_between from to narrow)
    (rows_between from to wide)

-- ---- of a history

-- the sums by the width of all that isn't summed over wide intervals
abbrev pub narrow_table : History → Table
narrow_table h = record { width = h.width; sums = sums_by h.width (flows_in (drop h.second h.all)) }

abbrev pub wide_table : History → Table
wide_table h = record { width = h.wide; sums = sums_by h.wide (flows_in (take h.second h.all)) }

-- the sums of all flows that start from one moment on and before another, by the starts of their intervals
abbrev pub totals_between : ℕ → ℕ → History → List Row
totals_between from to h = rows_of_both from to (narrow_table h) (wide_table h)

-- the flows of kept messages that start from one moment on and before another, in the order of their records
abbrev pub flows_between : ℕ → ℕ → History → List Flow
flows_between from to h = filter (λ f. nat_le from f.start && nat_lt f.start to) (flows_in (drop h.cut h.all))

-- the octets of the message of a number, from 1 on, if it is kept
abbrev pub message_at : ℕ → History → Option (List ℕ)
message_at n h = if nat_lt h.cut n then option_map (λ a. a.octets) (slice_get h.all (n - 1)) else None

-- ---- of a view

abbrev pub narrow_table_in : View → Table
narrow_table_in v =
    record {
      width = v.width;
      sums = gathered (entries (gathered_all v.rolled) ++ entries (sums_by v.width (flows_in v.kept)));
    }

abbrev pub totals_in_view : ℕ → ℕ → View → List Row
totals_in_view from to v = rows_of_both from to (narrow_table_in v) (record { width = v.wide; sums = v.merged })

abbrev pub flows_in_view : ℕ → ℕ → View → List Flow
flows_in_view from to v = filter (λ f. nat_le from f.start && nat_lt f.start to) (flows_in v.kept)

abbrev pub message_in_view : ℕ → View → Option (List ℕ)
message_in_view n v = if nat_lt v.cut n then option_map (λ a. a.octets) (slice_get v.kept (n - v.cut - 1)) else None
