-- Changes of sums, taken back.
use Rattle.std.proofs.Common.{◌≡◌, ℕ, zero, suc, ◌-◌, Bool, true, false, cond, List, [], ◌∷◌, ◌++◌, length, Some}
use Rattle.std.proofs.Common.{None, refl, sym, ap, ◌∙◌, arith, slice_get, slice_set}
use Rattle.std.proofs.Common.{length-append}
use Rattle.std.proofs.Math.Seq.{take-append_seam}
use Rattle.std.specs.Prelude.{option_map}
use Rattle.std.specs.BTreeMap.{is_at}
use Rattle.std.specs.Map.{lookup}
use Rattle.flow_measure.specs.declared.entries.Change.{Change}
use Rattle.flow_measure.specs.declared.rows.Key.{Key}
use Rattle.flow_measure.specs.declared.rows.Sums.{Sums}
use Rattle.flow_measure.specs.Sums.{key_cmp, is_key}
use Rattle.flow_measure.specs.Entries.{place_of, AreOnce, with_sums_at, without_last, undone, all_undone}
use Rattle.flow_measure.proofs.Keys.{same_key, is_key-symm}
use Rattle.flow_measure.proofs.Places.{ArePlaces, same_entry, place_push}

-- other sums, and then those of before
pub set_back : (es : List (Key × Sums)) (i : ℕ) (k : Key) (s t : Sums) → slice_get es i ≡ Some (k, t)
    → with_sums_at i t (slice_set es i (k, s)) ≡ es
unfolding with_sums_at
set_back [] i k s t h = absurd cc
set_back (e ∷ es) zero k s t h = ap (λ x. x ∷ es) (sym (same_entry e (k, t) h))
set_back (e ∷ es) (suc i) k s t h = ap (λ xs. e ∷ xs) (set_back es i k s t h)

-- one key more, and then one less
pub push_back : (es : List (Key × Sums)) (e : Key × Sums) → without_last (es ++ e ∷ []) ≡ es
unfolding without_last
push_back es e =
    let less : length (es ++ e ∷ []) - 1 ≡ length es = omega (arith, length-append es (e ∷ [])) in
    rw less (take-append_seam es (e ∷ []))

pub last_first : (cs : List Change) (c : Change) (es : List (Key × Sums))
    → all_undone (cs ++ c ∷ []) es ≡ all_undone cs (undone c es)
unfolding all_undone
last_first [] c es = refl
last_first (d ∷ cs) c es = ap (undone d) (last_first cs c es)

-- ---- the key that came last

-- it has no place before
last_absent : (es : List (Key × Sums)) (k : Key) (s : Sums) → AreOnce (es ++ (k, s) ∷ []) → place_of k es ≡ None
unfolding place_of AreOnce
last_absent [] k s once = refl
last_absent (e ∷ es) k s once =
    let none : place_of k es ≡ None = last_absent es k s once.1 in
    let pushed = sym (place_push e.0 es k s none) ∙ once.0 in
    elim (is_key k e.0) as (λ b. is_key k e.0 ≡ b → cond b (Some 0) (option_map suc (place_of k es)) ≡ None) [
      | true ↦ λ w.
          let alike : is_key e.0 k ≡ true = is_key-symm e.0 k ∙ w in
          let some = rw alike at pushed in absurd cc
      | false ↦ λ w. ap (option_map suc) none
    ] refl

once_before : (es : List (Key × Sums)) (k : Key) (s : Sums) → AreOnce (es ++ (k, s) ∷ []) → AreOnce es
unfolding AreOnce
once_before [] k s once = tt
once_before (e ∷ es) k s once = (absent_before, once_before es k s once.1)
  where
    absent_before : place_of e.0 es ≡ None
    absent_before =
        let pushed = sym (place_push e.0 es k s (last_absent es k s once.1)) ∙ once.0 in
        elim (is_key e.0 k) as (λ b. cond b (Some (length es)) (place_of e.0 es) ≡ None → place_of e.0 es ≡ None) [
          | true ↦ λ none. absurd cc
          | false ↦ λ none. none
        ] pushed

pub popped : (places fewer : List (Key × ℕ)) (es : List (Key × Sums)) (k : Key) (s : Sums)
    → ArePlaces places (es ++ (k, s) ∷ [])
    → ((q : Key) → lookup (is_at (key_cmp q)) fewer
    ≡ cond (is_at (key_cmp k) q) None (lookup (is_at (key_cmp q)) places)) → ArePlaces fewer es
popped places fewer es k s are updates = (
  once_before es k s are.0,
  λ q. updates q ∙ ap (cond (is_key k q) None) (are.1 q) ∙ without q (is_key k q) refl,
)
  where
    none : place_of k es ≡ None
    none = last_absent es k s are.0

    without : (q : Key) (b : Bool) → is_key k q ≡ b → cond b None (place_of q (es ++ (k, s) ∷ [])) ≡ place_of q es
    without q true w = sym (ap (λ x. place_of x es) (sym (same_key k q w)) ∙ none)
    without q false w =
        place_push q es k s none
        ∙ ap (λ b. cond b (Some (length es)) (place_of q es)) (is_key-symm q k ∙ w)
