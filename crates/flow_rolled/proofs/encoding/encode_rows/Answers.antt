use Rattle.std.proofs.Common.{◌≡◌, ℕ, ◌<◌, ◌^◌, List, Option, Some, None, Vec, Global, refl, sym, ap, subst, ◌∙◌, arith}
use Rattle.std.specs.Prelude.{IfOk, IfSome, Result, Ok, Err}
use Rattle.std.specs.List.{flat_map}
use Rattle.std.specs.FinMap.{FinMap, entries, get}
use Rattle.std.specs.List.Sorted.{IsPermutation}
use Rattle.flow_measure.specs.declared.rows.Key.{Key}
use Rattle.flow_measure.specs.declared.rows.Sums.{Sums}
use Rattle.flow_measure.specs.Sums.{Table, key_cmp, IsKeyBy, AreSound, AllFit, Fits}
use Rattle.flow_rolled.specs.declared.row.RolledRow.{RolledRow}
use Rattle.flow_rolled.specs.Rows.{rows_of, rows_in, in_file_order, IsTable, IsTableEntry}
use Rattle.flow_rolled.specs.Messages.{messages_with}
use Rattle.flow_rolled.specs.Octets.{messages_octets}
use Rattle.flow_rolled.specs.Rollup.{rollup_octets, IsRollup}
use Rattle.flow_rolled.proofs.Sorting.{sorted_order}
use Rattle.flow_rolled.proofs.encoding.encode_rows.Goals as goal

pub returns-clause-octets : goal.returns-clause-octets
returns-clause-octets c =
    let sums = c.args.rows.now.sums in
    let time = c.args.time in
    let same : IsPermutation (entries sums) c.sort_entries.new.entries.items =
    subst (λ (l : List (Key × Sums)). IsPermutation l c.sort_entries.new.entries.items)
    c.in_ok-entries.ensures.list c.sort_entries.ensures.same in
    let order : in_file_order sums ≡ c.sort_entries.new.entries.items =
    sorted_order sums c.sort_entries.new.entries.items same c.sort_entries.ensures.sorted in
    let rows : c.deref-2.result.now ≡ rows_in sums = c.deref-2.ensures.value ∙ c.in_ok-rows.ensures
    ∙ ap (flat_map rows_of) (c.deref.ensures.value ∙ sym order) in
    subst (λ w. IfOk c.messages_of.result (λ octets. octets.items
    ≡ messages_octets w (messages_with time (rows_in sums))))
    c.width-width.ensures.width
    (subst (λ (l : List RolledRow). IfOk c.messages_of.result
    (λ octets. octets.items ≡ messages_octets c.width-width.result (messages_with time l))) rows c.messages_of.ensures)

valid : (w : ℕ) (sums : FinMap key_cmp Sums) → AreSound w sums → AllFit (record { width = w; sums = sums })
    → IsTable (record { width = w; sums = sums })
valid w sums sound fit key = entry (get sums key) (sound key) (fit key)
  where
    entry : (o : Option Sums) → IfSome o (λ s. IsKeyBy w key × (0 < s.flows)) → IfSome o Fits
        → IfSome o (IsTableEntry w key)
    entry None h k = tt
    entry (Some s) h k = record {
      aligned = (h.0).aligned;
      start = (h.0).start;
      domain = (h.0).domain;
      protocol =
          (h.0).protocol;
      counted = h.1;
      flows = let f = k.0 in omega (arith, f);
    }

rolled : {E : Type 0} (r : Result (Vec ℕ Global) E) (t : Table) (time : ℕ) → IsTable t → time < 2 ^ 32
    → IfOk r (λ o. o.items ≡ rollup_octets t time) → IfOk r (λ o. IsRollup t.width o.items t)
rolled (Ok o) t time v small h = record { valid = v; width_is = refl; time = time; small = small; is = h }
rolled (Err e) t time v small h = tt

pub returns-clause-rolled : goal.returns-clause-rolled
returns-clause-rolled c =
    rolled _ c.args.rows.now c.args.time
    (valid c.args.rows.now.width c.args.rows.now.sums c.width-width.ensures.sound c.width-width.ensures.fit)
    c.ranges.time.fits (returns-clause-octets c)
