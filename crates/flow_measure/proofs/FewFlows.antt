-- The sums of fewer than 2^64 flows fit their types.
use Rattle.std.proofs.Common.{ℕ, ◌+◌, ◌*◌, ◌<◌, ◌≤◌, ◌^◌, Bool, true, false, cond, List, [], ◌∷◌, map, length, sym}
use Rattle.std.proofs.Common.{subst, arith}
use Rattle.std.specs.Prelude.{filter, sum_by, IfSome}
use Rattle.std.specs.List.{AllByRecursion}
use Rattle.std.proofs.lemmas.List.Sums.{sum_by-cons}
use Rattle.flow_measure.specs.declared.flow.Flow.{Flow}
use Rattle.flow_measure.specs.declared.rows.Sums.{Sums}
use Rattle.flow_measure.specs.Flows.{FlowFits}
use Rattle.flow_measure.specs.Sums.{Fits, AllFit, table_of, is_key, key_of, counted, some_total}
use Rattle.flow_measure.proofs.SumLaws.{get-sums_by}

-- the sums are at most so many times the greatest counts of one flow
abbrev AreBounded : ℕ → List Sums → Type 0
AreBounded n sums =
    (sum_by (λ (s : Sums). s.flows) sums ≤ n) × (sum_by (λ (s : Sums). s.octets) sums ≤ n * 18446744073709551615)
    × (sum_by (λ (s : Sums). s.packets) sums ≤ n * 18446744073709551615)

one_more : (n : ℕ) (f : Flow) (sums : List Sums) → FlowFits f → AreBounded n sums
    → AreBounded (n + 1) (counted f ∷ sums)
one_more n f sums h b =
    let flows = sum_by-cons (λ (s : Sums). s.flows) (counted f) sums in
    let octets = sum_by-cons (λ (s : Sums). s.octets) (counted f) sums in
    let packets = sum_by-cons (λ (s : Sums). s.packets) (counted f) sums in
    (omega (arith, flows, b.0), omega (arith, octets, h.0, b.1), omega (arith, packets, h.1, b.2))

one_less : (n : ℕ) (sums : List Sums) → AreBounded n sums → AreBounded (n + 1) sums
one_less n sums b = (omega (arith, b.0), omega (arith, b.1), omega (arith, b.2))

bounded : (p : Flow → Bool) (fs : List Flow) → AllByRecursion FlowFits fs
    → AreBounded (length fs) (map counted (filter p fs))
bounded p [] h = (omega arith, omega arith, omega arith)
bounded p (f ∷ fs) h = subst (λ n. AreBounded n (map counted (filter p (f ∷ fs)))) (omega arith)
    (elim (p f) as (λ b. AreBounded (length fs + 1) (map counted (cond b (f ∷ filter p fs) (filter p fs)))) [
      | true ↦ one_more (length fs) f (map counted (filter p fs)) h.0 (bounded p fs h.1)
      | false ↦ one_less (length fs) (map counted (filter p fs)) (bounded p fs h.1)
    ])

total_fits : (n : ℕ) (sums : List Sums) → n < 2 ^ 64 → AreBounded n sums → IfSome (some_total sums) Fits
total_fits n [] lt b = tt
total_fits n (s ∷ ss) lt b = (omega (arith, b.0), omega (arith, b.1), omega (arith, b.2))

pub few_fit : (width : ℕ) (fs : List Flow) → AllByRecursion FlowFits fs → length fs < 2 ^ 64
    → AllFit (table_of width fs)
few_fit width fs h lt key = subst (λ a. IfSome a Fits) (sym (get-sums_by width fs key))
    (total_fits (length fs) (map counted (filter (λ (f : Flow). is_key key (key_of width f)) fs)) lt
    (bounded (λ (f : Flow). is_key key (key_of width f)) fs h))
