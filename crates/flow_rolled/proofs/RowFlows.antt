-- The sums of the flows that rows are read as.
use Rattle.std.proofs.Common.{◌≡◌, ℕ, ◌+◌, ◌^◌, ◌<◌, Bool, true, false, cond, List, [], ◌∷◌, map, Option, Some, None}
use Rattle.std.proofs.Common.{refl}
use Rattle.std.proofs.Common.{sym, ap, subst, ◌∙◌, arith}
use Rattle.std.specs.List.{AllByRecursion}
use Rattle.std.specs.FinMap.{get}
use Rattle.flow_measure.specs.declared.rows.Key.{Key}
use Rattle.flow_measure.specs.declared.rows.Sums.{Sums}
use Rattle.flow_measure.specs.declared.flow.Flow.{Flow}
use Rattle.flow_measure.specs.Sums.{Table, is_key, key_of, interval_of, counted, sums_by}
use Rattle.flow_measure.proofs.Gathering.{joined, sum_at, get-gathered}
use Rattle.flow_measure.proofs.Widening.{pushed}
use Rattle.flow_rolled.specs.declared.row.RolledRow.{RolledRow}
use Rattle.flow_rolled.specs.Rows.{IsRow, AreRows, IsTable, sums_in, entries_in, rows_in}
use Rattle.flow_rolled.specs.Rollup.{table_messages}
use Rattle.flow_rolled.specs.AsFile.{flow_of_row, flows_within, messages_of, SameCounts}
use Rattle.flow_rolled.proofs.RowSums.{same_table}
use Rattle.flow_rolled.proofs.TableRows.{table_rows}
use Rattle.flow_rolled.proofs.FileFlows.{rolled_flows}

same_joined : (a b c d : Option Sums) → SameCounts a b → SameCounts c d → SameCounts (joined a c) (joined b d)
same_joined None None c d h k = k
same_joined None (Some b) c d h k = absurd h
same_joined (Some a) None c d h k = absurd h
same_joined (Some a) (Some b) None None h k = h
same_joined (Some a) (Some b) None (Some d) h k = absurd k
same_joined (Some a) (Some b) (Some c) None h k = absurd k
same_joined (Some a) (Some b) (Some c) (Some d) h k = ((λ i. h.0 i + k.0 i), (λ i. h.1 i + k.1 i))

-- a row as a flow, and as it is
same_one : (b : Bool) (r : RolledRow) → SameCounts (cond b (Some (counted (flow_of_row r))) None)
    (cond b (Some (sums_in r)) None)
same_one true r = (refl, refl)
same_one false r = tt

key_again : (w : ℕ) (r : RolledRow) → IsRow w r → key_of w (flow_of_row r) ≡ r.key
key_again w r h =
    let start : interval_of r.key.start w ≡ r.key.start = omega (arith, h.aligned) in
    λ i. record { start = start i; domain = r.key.domain; protocol = r.key.protocol }

abbrev flow_entries : ℕ → List RolledRow → List (Key × Sums)
flow_entries w rows = map (λ f. (key_of w f, counted f)) (map flow_of_row rows)

same_sums_of : (w : ℕ) (q : Key) (rows : List RolledRow) → AllByRecursion (IsRow w) rows
    → SameCounts (sum_at q (flow_entries w rows)) (sum_at q (entries_in rows))
same_sums_of w q [] h = tt
same_sums_of w q (r ∷ rs) h =
    let one = subst (λ k. SameCounts (cond (is_key q k) (Some (counted (flow_of_row r))) None)
    (cond (is_key q r.key) (Some (sums_in r)) None)) (sym (key_again w r h.0)) (same_one (is_key q r.key) r) in
    let both = same_joined _ _ _ _ one (same_sums_of w q rs h.1) in
    subst (λ a. SameCounts a (sum_at q (entries_in (r ∷ rs))))
    (sym (pushed q (key_of w (flow_of_row r)) (counted (flow_of_row r)) (flow_entries w rs)))
    (subst (λ a. SameCounts (joined (cond (is_key q (key_of w (flow_of_row r))) (Some (counted (flow_of_row r))) None)
    (sum_at q (flow_entries w rs))) a) (sym (pushed q r.key (sums_in r) (entries_in rs))) both)

each_row : (w : ℕ) (b : Option RolledRow) (rows : List RolledRow) → AreRows w b rows → AllByRecursion (IsRow w) rows
each_row w b [] h = tt
each_row w b (r ∷ rs) h = (h.0, each_row w (Some r) rs h.2)

flows_sum : (t : Table) → IsTable t → (q : Key)
    → SameCounts (get (sums_by t.width (map flow_of_row (rows_in t.sums))) q) (get t.sums q)
unfolding sums_by
flows_sum t valid q =
    let rows = rows_in t.sums in
    let same = same_sums_of t.width q rows (each_row t.width None rows (table_rows t valid)) in
    subst (λ a. SameCounts a (get t.sums q)) (sym (get-gathered (flow_entries t.width rows) q))
    (subst (SameCounts (sum_at q (flow_entries t.width rows))) (sym (get-gathered (entries_in rows) q)
    ∙ ap (λ m. get m q) (same_table t.sums)) same)

pub rolled_sums : (t : Table) (time : ℕ) → IsTable t → time < 2 ^ 32 → (q : Key)
    → SameCounts (get (sums_by t.width (flows_within (messages_of t.width (table_messages t time)))) q) (get t.sums q)
rolled_sums t time valid small q =
    subst (λ (flows : List Flow). SameCounts (get (sums_by t.width flows) q) (get t.sums q))
    (sym (rolled_flows t time valid small)) (flows_sum t valid q)
