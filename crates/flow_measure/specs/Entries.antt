-- Sums by key as a list, in the order in which their keys came.
use Rattle.std.specs.Prelude.{◌≡◌, ℕ, suc, List, [], ◌∷◌, Option, Some, None, option_map, if◌then◌else◌, Result}
use Rattle.std.specs.Prelude.{Ok, Err, Bool, false, ◌==◌, ◌||◌}
use Rattle.std.specs.Prelude.{slice_index_or, slice_set, take, length, ◌-◌}
use Rattle.std.specs.FinMap.{FinMap, from_entries, get, insert}
use Rattle.std.specs.Coded.{Coded, coded×, coded_list}
use Rattle.flow_measure.specs.declared.error.SumError.{SumError}
use Rattle.flow_measure.specs.declared.error.SumError.TheVariants.{SumSpent, OutOfMemory}
use Rattle.flow_measure.specs.declared.entries.Change.{Change}
use Rattle.flow_measure.specs.declared.entries.Change.TheVariants.{Pushed, Added}
use Rattle.flow_measure.specs.declared.rows.Key.{Key}
use Rattle.flow_measure.specs.declared.rows.Sums.{Sums}
use Rattle.flow_measure.specs.Sums.{Table, key_cmp, is_key, plus, Fits, coded_key, coded_sums}

-- the first place of a key, from 0
unfoldable pub place_of : Key → List (Key × Sums) → Option ℕ
place_of key [] = None
place_of key (e ∷ es) = if is_key key e.0 then Some 0 else option_map suc (place_of key es)

-- each key once
unfoldable pub AreOnce : List (Key × Sums) → Type 0
AreOnce [] = Unit {0}
AreOnce (e ∷ es) = (place_of e.0 es ≡ None) × AreOnce es

abbrev pub map_of : List (Key × Sums) → FinMap key_cmp Sums
map_of es = from_entries es

-- the sums of a key after sums were added to those that it had, if any
abbrev pub added_to : Option Sums → Sums → Sums
added_to None sums = sums
added_to (Some total) sums = plus total sums

-- sums are added under a key, or would not fit, or are a new key's, for which there is no memory
abbrev pub Adds : {X : Type 0} → Result X SumError → Key → Sums → FinMap key_cmp Sums → FinMap key_cmp Sums → Type 0
Adds (Ok _) key sums old new = Fits (added_to (get old key) sums) × (new ≡ insert old key (added_to (get old key) sums))
Adds (Err SumSpent) key sums old new = (Fits (added_to (get old key) sums) → ⊥) × (new ≡ old)
Adds (Err OutOfMemory) key sums old new = (get old key ≡ None) × (new ≡ old)

-- the same as a table of a width
abbrev pub table_at : ℕ → List (Key × Sums) → Table
table_at width es = record { width = width; sums = map_of es }

abbrev pub nothing : Key × Sums
nothing = (record { start = 0; domain = 0; protocol = None }, record { flows = 0; octets = 0; packets = 0 })

-- other sums at a place, under the key there
unfoldable pub with_sums_at : ℕ → Sums → List (Key × Sums) → List (Key × Sums)
with_sums_at place sums es = slice_set es place ((slice_index_or es place nothing).0, sums)

-- all but the key that came last
unfoldable pub without_last : List (Key × Sums) → List (Key × Sums)
without_last es = take (length es - 1) es

-- the sums before a change
abbrev pub undone : Change → List (Key × Sums) → List (Key × Sums)
undone Pushed es = without_last es
undone (Added place sums) es = with_sums_at place sums es

-- the sums before all of these changes, of which the last is undone first
unfoldable pub all_undone : List Change → List (Key × Sums) → List (Key × Sums)
all_undone [] es = es
all_undone (c ∷ cs) es = undone c (all_undone cs es)

-- whether the changes have one of this place
unfoldable pub is_noted : ℕ → List Change → Bool
is_noted place [] = false
is_noted place (Pushed ∷ cs) = is_noted place cs
is_noted place (Added here sums ∷ cs) = here == place || is_noted place cs

-- a key with the sums at its place
unfoldable pub resolved : List (Key × Sums) → Key × ℕ → Key × Sums
resolved es p = (p.0, (slice_index_or es p.1 nothing).1)

abbrev pub coded_entries : Coded (List (Key × Sums))
coded_entries = coded_list (coded× coded_key coded_sums)
