-- The laws of sums of flows.
use Rattle.std.proofs.Common.{◌≡◌, ℕ, ◌%◌, ◌<◌, List, [], ◌∷◌, ◌++◌, map, true, false, cond, refl, sym, ap, subst, ◌∙◌}
use Rattle.std.proofs.lemmas.List.{map-append}
use Rattle.std.specs.Prelude.{filter, Result, Ok, Err, OnOk}
use Rattle.flow_measure.specs.declared.error.SumError.{SumError}
use Rattle.std.specs.FinMap.{entries, get}
use Rattle.flow_measure.specs.declared.flow.Flow.{Flow}
use Rattle.flow_measure.specs.declared.rows.Key.{Key}
use Rattle.flow_measure.specs.declared.rows.Sums.{Sums}
use Rattle.flow_measure.specs.Sums.{Table, gathered, sums_by, table_of, key_of, counted, widened, widened_key, merged}
use Rattle.flow_measure.specs.Sums.{with_flow, AreSums, Becomes, under, is_key, some_total}
use Rattle.flow_measure.proofs.Gathering.{gathered-same, gathered-both, gathered-again, get-gathered}
use Rattle.flow_measure.proofs.Intervals.{within_multiple}
use Rattle.flow_measure.proofs.Widening.{rekeyed, rekeyed-gathered}

abbrev pairs : ℕ → List Flow → List (Key × Sums)
pairs width flows = map (λ f. (key_of width f, counted f)) flows

pairs-append : (width : ℕ) (fs gs : List Flow) → pairs width (fs ++ gs) ≡ pairs width fs ++ pairs width gs
pairs-append width fs gs = map-append (λ (f : Flow). (key_of width f, counted f)) fs gs

-- sums of more flows are the sums of these and those
pub merged-table_of : (width : ℕ) (fs gs : List Flow)
    → merged (table_of width fs) (table_of width gs) ≡ table_of width (fs ++ gs)
unfolding sums_by
merged-table_of width fs gs =
    ap (λ m. record { width = width; sums = m }) (gathered-both (pairs width fs) (pairs width gs)
    ∙ ap gathered (sym (pairs-append width fs gs)))

pub with_flow-table_of : (width : ℕ) (fs : List Flow) (f : Flow)
    → with_flow f (table_of width fs) ≡ table_of width (fs ++ f ∷ [])
unfolding sums_by
with_flow-table_of width fs f =
    ap (λ m. record { width = width; sums = m }) (gathered-again (pairs width fs) ((key_of width f, counted f) ∷ [])
    ∙ ap gathered (sym (pairs-append width fs (f ∷ []))))

rekeyed-pairs : (width wide : ℕ) → 0 < width → wide % width ≡ 0 → (fs : List Flow)
    → rekeyed (widened_key wide) (pairs width fs) ≡ pairs wide fs
rekeyed-pairs width wide h multiple [] = refl
rekeyed-pairs width wide h multiple (f ∷ fs) =
    rw (within_multiple f.start width wide h multiple, rekeyed-pairs width wide h multiple fs) refl

-- the sums by a width, widened, are the sums by the wide width
pub widened-table_of : (width wide : ℕ) → 0 < width → wide % width ≡ 0 → (fs : List Flow)
    → widened wide (table_of width fs) ≡ table_of wide fs
unfolding sums_by
widened-table_of width wide h multiple fs = ap (λ m. record { width = wide; sums = m })
    (gathered-same (rekeyed (widened_key wide) (entries (gathered (pairs width fs))))
    (rekeyed (widened_key wide) (pairs width fs)) (λ q. rekeyed-gathered (widened_key wide) q (pairs width fs))
    ∙ ap gathered (rekeyed-pairs width wide h multiple fs))

-- the tables that flows make, from any that flows made
pub added : (old new : Table) (f : Flow) → new ≡ with_flow f old → (flows : List Flow) → AreSums old flows
    → AreSums new (flows ++ f ∷ [])
added old new f e flows h =
    subst (λ t. AreSums t (flows ++ f ∷ [])) (sym e) (ap (with_flow f) h ∙ with_flow-table_of old.width flows f)

pub merged_sums : (a b new : Table) → a.width ≡ b.width → new ≡ merged a b → (flows more : List Flow) → AreSums a flows
    → AreSums b more → AreSums new (flows ++ more)
merged_sums a b new w e flows more h k = subst (λ t. AreSums t (flows ++ more)) (sym e)
    (ap (λ x. merged x b) h ∙ ap (merged (table_of a.width flows)) (k ∙ ap (λ v. table_of v more) (sym w))
    ∙ merged-table_of a.width flows more)

pub widened_sums : (a new : Table) (wide : ℕ) → 0 < a.width → wide % a.width ≡ 0 → new ≡ widened wide a
    → (flows : List Flow) → AreSums a flows → AreSums new flows
widened_sums a new wide positive multiple e flows h =
    subst (λ t. AreSums t flows) (sym e) (ap (widened wide) h ∙ widened-table_of a.width wide positive multiple flows)

-- the sums under a key are those of the flows of that key
under_pairs : (width : ℕ) (key : Key) (fs : List Flow)
    → under key (pairs width fs) ≡ map counted (filter (λ f. is_key key (key_of width f)) fs)
under_pairs width key [] = refl
under_pairs width key (f ∷ fs) =
    elim (is_key key (key_of width f))
    as (λ b. map (λ (e : Key × Sums). e.1)
    (cond b ((key_of width f, counted f) ∷ filter (λ (e : Key × Sums). is_key key e.0) (pairs width fs))
    (filter (λ (e : Key × Sums). is_key key e.0) (pairs width fs)))
    ≡ map counted
    (cond b (f ∷ filter (λ (g : Flow). is_key key (key_of width g)) fs)
    (filter (λ (g : Flow). is_key key (key_of width g)) fs))) [
      | true ↦ ap (λ ss. counted f ∷ ss) (under_pairs width key fs)
      | false ↦ under_pairs width key fs
    ]

pub get-sums_by : (width : ℕ) (fs : List Flow) (key : Key)
    → get (sums_by width fs) key ≡ some_total (map counted (filter (λ f. is_key key (key_of width f)) fs))
unfolding sums_by
get-sums_by width fs key = get-gathered (pairs width fs) key ∙ ap some_total (under_pairs width key fs)

pub added_on : {X : Type 0} (r : Result X SumError) (old new : Table) (f : Flow) → Becomes r (with_flow f old) old new
    → OnOk r ((flows : List Flow) → AreSums old flows → AreSums new (flows ++ f ∷ []))
added_on (Ok x) old new f h = added old new f h.1
added_on (Err e) old new f h = tt

pub merged_on : {X : Type 0} (r : Result X SumError) (a b new : Table) → a.width ≡ b.width
    → Becomes r (merged a b) a new
    → OnOk r ((flows more : List Flow) → AreSums a flows → AreSums b more → AreSums new (flows ++ more))
merged_on (Ok x) a b new w h = merged_sums a b new w h.1
merged_on (Err e) a b new w h = tt
