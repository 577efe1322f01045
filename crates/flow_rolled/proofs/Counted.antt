-- The rows that were read of a rolled file, and those of its table.
use Rattle.std.proofs.Common.{◌≡◌, ℕ, ◌<◌, ◌^◌, List, [], ◌++◌, length, drop, None, sym, ap, subst, ◌∙◌}
use Rattle.std.proofs.Common.{arith, length-append}
use Rattle.std.proofs.lemmas.List.{append-nil}
use Rattle.std.specs.Prelude.{Result, Ok, Err, IsErrAnd, IfErr}
use Rattle.std.specs.FinMap.{entries}
use Rattle.flow_measure.specs.declared.error.SumError.{SumError}
use Rattle.flow_measure.specs.declared.error.SumError.TheVariants as measure
use Rattle.flow_measure.specs.Sums.{Table, AllFit, IsRefused, with_entries}
use Rattle.flow_rolled.specs.declared.row.RolledRow.{RolledRow}
use Rattle.flow_refusals.specs.declared.read_refusal.ReadRefusal.{ReadRefusal}
use Rattle.flow_refusals.specs.declared.read_refusal.ReadRefusal.TheVariants as row
use Rattle.flow_rolled.specs.Rows.{AreRows}
use Rattle.flow_rolled.specs.Messages.{RolledMessage, last_from, rows_within}
use Rattle.flow_rolled.specs.Octets.{message_octets, messages_octets}
use Rattle.flow_rolled.specs.Rollup.{IsRollup}
use Rattle.flow_measure.specs.Printed.{sum_refusal}
use Rattle.flow_refusals.specs.Printed.{sum_of_read}
use Rattle.flow_rolled.specs.Stored.{Rollup, Reader, HasGiven, HasRead, Gives, IsAdded, IsNotAdded, IsSpentBy}
use Rattle.flow_rolled.specs.Stored.{with_rows, table_of}
use Rattle.flow_rolled.proofs.Grouping.{rows_front}
use Rattle.flow_rolled.proofs.Fronts.{rows_in_order}
use Rattle.flow_rolled.proofs.SameParts.{part_long}
use Rattle.flow_rolled.proofs.Breaking.{Compared, compared, longer, shorter, read_of, all_parts}
use Rattle.flow_rolled.proofs.SoFar.{rows_more}
use Rattle.flow_rolled.proofs.Widened.{rows_both, sums_added, front_rows}

-- what was given is in order
pub given_in_order : (r : Reader) (rows more : List RolledRow) → HasGiven r (rows ++ more)
    → AreRows r.width (last_from None rows) more
given_in_order r rows more h =
    (rows_front r.width None rows more (subst (AreRows r.width None) (sym h.1.rows_are)
    (rows_in_order r.width h.0 h.1.follow))).1

-- the rows of a table begin with those of the messages with which its file begins
table_from : (w : ℕ) (front parts : List RolledMessage) (rest : List ℕ) → Compared w front parts rest []
    → (more : List RolledRow) × (rows_within parts ≡ rows_within front ++ more)
table_from w front parts rest (longer zs is left) = (rows_within zs, ap rows_within is ∙ rows_more front zs)
table_from w front parts rest (shorter z zs is left) =
    absurd (let l = ap (λ (x : List ℕ). length x) left in let n = part_long w z in let m =
    length-append (message_octets w z) (messages_octets w zs) in let k =
    length-append (message_octets w z ++ messages_octets w zs) rest in omega (arith, l, n, m, k))

rollup_rows : (r : Reader) (rows : List RolledRow) (t : Table) → r.width < 2 ^ 32 → HasRead r rows
    → IsRollup r.width r.part.octets t → (more : List RolledRow) × (t ≡ table_of r.width (rows ++ more))
rollup_rows r rows t wide so h =
    let file = read_of r.width r.part.octets t h in
    let from = table_from r.width so.front file.parts _ (compared r.width wide so.front file.parts _ []
    (all_parts r.width None so.front tt so.behind.follow) (all_parts r.width None file.parts tt file.follow)
    (sym so.is ∙ file.is ∙ sym (append-nil (messages_octets r.width file.parts)))) in (
      from.0,
      file.table ∙ ap (table_of r.width) (from.1 ∙ ap (λ (l : List RolledRow). l ++ from.0) (sym so.behind.rows_are)),
    )

-- all rows were added
pub added : (r : Reader) (rows : List RolledRow) (old new : Table) → IsRollup r.width r.part.octets
    (table_of r.width rows)
    → new ≡ with_rows rows old → IsAdded r.width r.part.octets old new
added r rows old new h is =
    record { table = table_of r.width rows; rollup = h; sums = is ∙ sums_added rows old }

-- a reader's refusal
pub not_read : (r next : Reader) (rows : List RolledRow) (old : Table) (e : ReadRefusal) → Gives r rows (Err e) next
    → IsNotAdded r.part r.width old (sum_of_read e)
not_read r next rows old (row.Damaged file at) h = h
not_read r next rows old row.Fault h = tt
not_read r next rows old row.OutOfMemory h = tt

-- a sum that would pass its type
pub not_added : (r : Reader) (rows more : List RolledRow) (old mid : Table) (e : SumError) → r.width < 2 ^ 32
    → HasRead r (rows ++ more) → mid ≡ with_rows rows old → IsRefused e (with_rows more mid)
    → IsNotAdded r.part r.width old (sum_refusal e)
not_added r rows more old mid measure.SumSpent wide so is spent = λ t h fit.
    let all = rollup_rows r (rows ++ more) t wide so h in
    let sums : with_entries (entries t.sums) old ≡ with_rows ((rows ++ more) ++ all.0) old =
    ap (λ (u : Table). with_entries (entries u.sums) old) all.1 ∙ sym (sums_added ((rows ++ more) ++ all.0) old) in
    spent (subst AllFit (sym (rows_both rows more old) ∙ ap (with_rows more) (sym is))
    (front_rows (rows ++ more) all.0 old (subst AllFit sums fit)))
not_added r rows more old mid measure.OutOfMemory wide so is spent = tt

-- a reader's refusal is no spent sum
pub not_spent : (part : Rollup) (w : ℕ) (old : Table) (e : ReadRefusal) → IsSpentBy part w old (sum_of_read e)
not_spent part w old (row.Damaged file at) = tt
not_spent part w old row.Fault = tt
not_spent part w old row.OutOfMemory = tt

-- a sum is spent by the rows that were read
pub spent_by : (r : Reader) (rows more : List RolledRow) (old mid : Table) (e : SumError) → HasRead r (rows ++ more)
    → mid ≡ with_rows rows old → IsRefused e (with_rows more mid) → IsSpentBy r.part r.width old (sum_refusal e)
spent_by r rows more old mid measure.SumSpent so is spent = record {
  front = so.front;
  follow = so.behind.follow;
  rest = drop r.place r.part.octets;
  is = so.is;
  spent = λ fit. spent (subst AllFit (ap (λ (l : List RolledRow). with_rows l old) (sym so.behind.rows_are)
      ∙ sym (rows_both rows more old) ∙ ap (with_rows more) (sym is)) fit);
}
spent_by r rows more old mid measure.OutOfMemory so is spent = tt

pub err_as : {X E : Type 0} (r : Result X E) (e : E) (P : E → Type 0) → IsErrAnd r (λ x. x ≡ e) → P e → IfErr r P
err_as (Ok x) e P h p = tt
err_as (Err x) e P h p = subst P (sym h) p
