-- Sums are dealt out in turn: each is of one worker, and all shares together are the whole.
use Rattle.std.proofs.Common.{◌≡◌, ℕ, zero, suc, Bool, true, false, cond, ◌+◌, ◌<◌, ◌≤◌, List, [], ◌∷◌, ◌++◌, length}
use Rattle.std.proofs.Common.{Option, Some, None, refl, sym, ap, subst, ◌∙◌, arith}
use Rattle.std.specs.Prelude.{◌==◌, nat_lt}
use Rattle.std.specs.List.{flat_map}
use Rattle.std.specs.FinMap.{FinMap, entries}
use Rattle.std.proofs.lemmas.Bool.{ltb-true, ltb-false, eqb-true, eqb-false, lt-ltb, le-ltb, ne_eqb}
use Rattle.flow_measure.specs.declared.rows.Key.{Key}
use Rattle.flow_measure.specs.declared.rows.Sums.{Sums}
use Rattle.flow_measure.specs.Sums.{key_cmp, empty_table, gathered, merged, AllFit, Table}
use Rattle.flow_measure.specs.View.{gathered_all}
use Rattle.flow_measure.proofs.Fitting.{front_fits}
use Rattle.flow_measure.proofs.Gathering.{entries_of_none, gathered-both, gathered-entries, gathered-same, joined}
use Rattle.flow_measure.proofs.Gathering.{sum_at, sum_at-append}
use Rattle.flow_measure.proofs.Widening.{joined-comm}
use Rattle.flow_snapshot.specs.Shares.{chosen, next_turn, own, summed, turn_after}

add_join : (a b c : ℕ) → a + (b + c) ≡ (a + b) + c
add_join a b c = omega arith

pub joined-assoc : (a b c : Option Sums) → joined a (joined b c) ≡ joined (joined a b) c
joined-assoc None b c = refl
joined-assoc (Some a) None c = refl
joined-assoc (Some a) (Some b) None = refl
joined-assoc (Some a) (Some b) (Some c) =
    rw (
      add_join a.flows b.flows c.flows,
      add_join a.octets b.octets c.octets,
      add_join a.packets b.packets c.packets,
    ) refl

-- ---- turns

pub turn_then : (workers n turn : ℕ)
    → turn_after workers n (next_turn workers turn) ≡ next_turn workers (turn_after workers n turn)
turn_then workers zero turn = refl
turn_then workers (suc n) turn = turn_then workers n (next_turn workers turn)

-- ---- what several maps have at a key

abbrev pub maps_at : Key → List (FinMap key_cmp Sums) → Option Sums
maps_at q maps = sum_at q (flat_map entries maps)

pub maps_more : (q : Key) (m : FinMap key_cmp Sums) (ms : List (FinMap key_cmp Sums))
    → maps_at q (m ∷ ms) ≡ joined (sum_at q (entries m)) (maps_at q ms)
maps_more q m ms = sum_at-append q (entries m) (flat_map entries ms)

-- ---- choosing

-- a test passes where exactly one of two others does
abbrev pub Splits : Bool → Bool → Bool → Type 0
Splits true true false = Unit {0}
Splits true false true = Unit {0}
Splits false false false = Unit {0}
Splits true true true = ⊥
Splits true false false = ⊥
Splits false true false = ⊥
Splits false false true = ⊥
Splits false true true = ⊥

module _ (q : Key) (m : FinMap key_cmp Sums) (xs ys zs : List (FinMap key_cmp Sums))
    (rest : maps_at q xs ≡ joined (maps_at q ys) (maps_at q zs)) where
  abbrev here : Option Sums
  here = sum_at q (entries m)

  split_one : (x y z : Bool) → Splits x y z
      → maps_at q (cond x (m ∷ xs) xs) ≡ joined (maps_at q (cond y (m ∷ ys) ys)) (maps_at q (cond z (m ∷ zs) zs))
  split_one true true false s =
      maps_more q m xs ∙ ap (joined here) rest ∙ joined-assoc here (maps_at q ys) (maps_at q zs)
      ∙ ap (λ a. joined a (maps_at q zs)) (sym (maps_more q m ys))
  split_one true false true s =
      maps_more q m xs ∙ ap (joined here) rest ∙ joined-assoc here (maps_at q ys) (maps_at q zs)
      ∙ ap (λ a. joined a (maps_at q zs)) (joined-comm here (maps_at q ys))
      ∙ sym (joined-assoc (maps_at q ys) here (maps_at q zs))
      ∙ ap (joined (maps_at q ys)) (sym (maps_more q m zs))
  split_one false false false s = rest
  split_one true true true s = absurd s
  split_one true false false s = absurd s
  split_one false true false s = absurd s
  split_one false false true s = absurd s
  split_one false true true s = absurd s

pub split : (all a b : ℕ → Bool) → ((t : ℕ) → Splits (all t) (a t) (b t)) → (workers turn : ℕ)
    (maps : List (FinMap key_cmp Sums)) (q : Key)
    → maps_at q (chosen all workers turn maps)
    ≡ joined (maps_at q (chosen a workers turn maps)) (maps_at q (chosen b workers turn maps))
split all a b s workers turn [] q = refl
split all a b s workers turn (m ∷ ms) q =
    let next = next_turn workers turn in
    split_one q m (chosen all workers next ms) (chosen a workers next ms) (chosen b workers next ms)
    (split all a b s workers next ms q) (all turn) (a turn) (b turn) (s turn)

pub all_chosen : {A : Type 0} (workers turn : ℕ) (xs : List A) → chosen (λ _. true) workers turn xs ≡ xs
all_chosen workers turn [] = refl
all_chosen {A} workers turn (x ∷ xs) = ap (λ (ys : List A). x ∷ ys) (all_chosen workers (next_turn workers turn) xs)

none_chosen : {A : Type 0} (workers turn : ℕ) (xs : List A) → chosen (λ t. nat_lt t 0) workers turn xs ≡ []
none_chosen workers turn [] = refl
none_chosen {A} workers turn (x ∷ xs) =
    let rest = chosen (λ t. nat_lt t 0) workers (next_turn workers turn) xs in
    ap (λ (b : Bool). cond b (x ∷ rest) rest) (le-ltb turn 0 (omega arith))
    ∙ none_chosen workers (next_turn workers turn) xs

next_within : (workers turn : ℕ) → 0 < workers → next_turn workers turn < workers
next_within workers turn some = omega (arith, some)

-- all turns are below the number of workers
below_all : {A : Type 0} (workers n turn : ℕ) (xs : List A) → turn < workers → workers ≤ n
    → chosen (λ t. nat_lt t n) workers turn xs ≡ xs
below_all workers n turn [] within more = refl
below_all {A} workers n turn (x ∷ xs) within more =
    let next = next_turn workers turn in
    let rest = chosen (λ t. nat_lt t n) workers next xs in
    ap (λ (b : Bool). cond b (x ∷ rest) rest) (lt-ltb turn n (omega (arith, within, more)))
    ∙ ap (λ (ys : List A). x ∷ ys)
    (below_all workers n next xs (next_within workers turn (omega (arith, within))) more)

splits_not : (b : Bool) → Splits true b (cond b false true)
splits_not true = tt
splits_not false = tt

-- up to one worker more
splits_more : (n t : ℕ) → Splits (nat_lt t (suc n)) (nat_lt t n) (t == n)
splits_more n t = elim (nat_lt t n) as (λ b. nat_lt t n ≡ b → Splits (nat_lt t (suc n)) b (t == n)) [
  | true ↦ λ w.
      let less = ltb-true t n w in
      rw (lt-ltb t (suc n) (omega (arith, less)), ne_eqb t n (λ same. absurd (omega (arith, less, same)))) tt
  | false ↦ λ w.
      let more = ltb-false t n w in
      elim (t == n) as (λ c. (t == n) ≡ c → Splits (nat_lt t (suc n)) false c) [
        | true ↦ λ v. let same = eqb-true t n v in rw (lt-ltb t (suc n) (omega (arith, same))) tt
        | false ↦ λ v. let other = eqb-false t n v in
            rw (le-ltb t (suc n) (grind (arith, more, other))) tt
      ] refl
] refl

-- ---- tables

pub chosen_fit : (test : ℕ → Bool) (workers turn width : ℕ) (maps : List (FinMap key_cmp Sums))
    → AllFit (summed width maps) → AllFit (summed width (chosen test workers turn maps))
chosen_fit test workers turn width maps fit =
    let these = chosen test workers turn maps in
    let others = chosen (λ t. cond (test t) false true) workers turn maps in
    let same : gathered_all maps ≡ gathered (flat_map entries these ++ flat_map entries others) =
    gathered-same (flat_map entries maps) (flat_map entries these ++ flat_map entries others) (λ q.
    ap (maps_at q) (sym (all_chosen workers turn maps))
    ∙ split (λ _. true) test (λ t. cond (test t) false true) (λ t. splits_not (test t)) workers turn maps q
    ∙ sym (sum_at-append q (flat_map entries these) (flat_map entries others))) in
    front_fits width width (flat_map entries these) (flat_map entries others)
    (subst (λ (m : FinMap key_cmp Sums). AllFit (record { width = width; sums = m })) same fit)

-- the share of one worker more
pub shares_merged : (workers n turn width : ℕ) (maps : List (FinMap key_cmp Sums))
    → merged (summed width (chosen (λ t. nat_lt t n) workers turn maps)) (summed width (own workers n turn maps))
    ≡ summed width (chosen (λ t. nat_lt t (suc n)) workers turn maps)
shares_merged workers n turn width maps =
    let before = chosen (λ t. nat_lt t n) workers turn maps in
    let mine = own workers n turn maps in
    let after = chosen (λ t. nat_lt t (suc n)) workers turn maps in
    λ i. record {
      width = width;
      sums = (gathered-both (flat_map entries before) (flat_map entries mine)
          ∙ gathered-same (flat_map entries before ++ flat_map entries mine) (flat_map entries after) (λ q.
          sum_at-append q (flat_map entries before) (flat_map entries mine)
          ∙ sym (split (λ t. nat_lt t (suc n)) (λ t. nat_lt t n) (λ t. t == n) (splits_more n) workers turn maps q))) i;
    }

pub none_summed_yet : (workers turn width : ℕ) (maps : List (FinMap key_cmp Sums)) (t : Table) → t ≡ empty_table width
    → t ≡ summed width (chosen (λ t. nat_lt t 0) workers turn maps)
none_summed_yet workers turn width maps t is =
    is
    ∙ (λ i. record {
      width = width;
      sums = (sym (gathered-entries (empty_table width).sums) ∙ ap gathered entries_of_none) i;
    })
    ∙ ap (summed width) (sym (none_chosen workers turn maps))

pub all_shares : (workers n turn width : ℕ) (maps : List (FinMap key_cmp Sums)) → turn < workers → workers ≤ n
    → summed width (chosen (λ t. nat_lt t n) workers turn maps) ≡ summed width maps
all_shares workers n turn width maps within more = ap (summed width) (below_all workers n turn maps within more)

-- ---- one list after another

pub chosen_then : {A : Type 0} (test : ℕ → Bool) (workers turn : ℕ) (xs ys : List A)
    → chosen test workers turn (xs ++ ys)
    ≡ chosen test workers turn xs ++ chosen test workers (turn_after workers (length xs) turn) ys
chosen_then test workers turn [] ys = refl
chosen_then {A} test workers turn (x ∷ xs) ys =
    let next = next_turn workers turn in
    elim (test turn) as (λ b. cond b (x ∷ chosen test workers next (xs ++ ys)) (chosen test workers next (xs ++ ys))
    ≡ cond b (x ∷ chosen test workers next xs) (chosen test workers next xs)
    ++ chosen test workers (turn_after workers (length xs) next) ys) [
      | true ↦ ap (λ (zs : List A). x ∷ zs) (chosen_then test workers next xs ys)
      | false ↦ chosen_then test workers next xs ys
    ]

pub turn_within : (workers n turn : ℕ) → turn < workers → turn_after workers n turn < workers
turn_within workers zero turn within = within
turn_within workers (suc n) turn within =
    turn_within workers n (next_turn workers turn) (next_within workers turn (omega (arith, within)))
