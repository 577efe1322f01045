-- Changes of entries, one after the other, and what an overlay records of them.
use Rattle.std.proofs.Common.{◌≡◌, ℕ, zero, suc, ◌+◌, ◌^◌, ◌<◌, ◌≤◌, Bool, true, false, cond, eqb, List, [], ◌∷◌}
use Rattle.std.proofs.Common.{◌++◌, length, take, get_or, Option, Some, None, refl, sym, ap, subst, ◌∙◌, arith, inl}
use Rattle.std.proofs.Common.{inr, add-one}
use Rattle.std.proofs.Math.Seq.{take-suc}
use Rattle.std.specs.Prelude.{nat_eq, unwrap_or}
use Rattle.std.specs.Option.{option_map, option_or}
use Rattle.std.proofs.lemmas.Option.{slice_get_within, slice_get-get_or}
use Rattle.std.specs.List.{slice_get}
use Rattle.std.proofs.lemmas.Bool.{eqb-true}
use Rattle.std.proofs.lemmas.Bool.Decides.{nat_tests}
use Rattle.std.proofs.lemmas.List.{length-append, length-take-le}
use Rattle.std.proofs.lemmas.List.Sums.{sum_by-cons}
use Rattle.std.proofs.Math.Dec.{eqb-suc-zero}
use Rattle.std.specs.Prelude.{sum_by}
use Rattle.flow_codec.specs.declared.overlay.Overlay.{Overlay}
use Rattle.flow_codec.specs.Layout.{Layout, definition_size, specifier_size}
use Rattle.flow_codec.specs.Entries.{IsOnce, entries_size, size_in}
use Rattle.flow_codec.specs.Slots.{change_by, made, started}
use Rattle.flow_codec.specs.Working.{last_change, last_place, overlaid, IsOver, KnowsLast}
use Rattle.flow_codec.proofs.Steps.{by_bool}
use Rattle.flow_codec.proofs.Entries.{found, without, with_entry, lookup-insert, lookup-remove, remove-absent, insert-present}
use Rattle.flow_codec.proofs.Entries.{found-insert-other, found-remove-other, once_insert, once_remove}

-- ---- one change more

pub made_push : (entries : List (ℕ × Layout)) (changes : List (ℕ × Option Layout)) (id : ℕ) (change : Option Layout)
    → made entries (changes ++ (id, change) ∷ []) ≡ change_by (made entries changes) id change
made_push entries [] id change = refl
made_push entries (c ∷ cs) id change = made_push (change_by entries c.0 c.1) cs id change

pub once_change : (entries : List (ℕ × Layout)) (id : ℕ) (change : Option Layout) → IsOnce entries
    → IsOnce (change_by entries id change)
once_change entries id None once = once_remove id entries once
once_change entries id (Some layout) once = once_insert id entries layout once

apart_back : (k q : ℕ) → nat_eq k q ≡ false → nat_eq q k ≡ false
apart_back k q e = grind (arith, nat_tests)

pub found_change : (entries : List (ℕ × Layout)) (id q : ℕ) (change : Option Layout) → IsOnce entries
    → found q (change_by entries id change) ≡ cond (nat_eq id q) change (found q entries)
found_change entries id q None once = elim (by_bool (nat_eq id q)) [
  | inl w ↦ rw w (subst (λ (n : ℕ). found n (without id entries) ≡ None) (eqb-true _ _ w)
      (lookup-remove id entries once))
  | inr w ↦ rw w (found-remove-other id q entries (apart_back id q w))
]
found_change entries id q (Some layout) once = elim (by_bool (nat_eq id q)) [
  | inl w ↦ rw w (subst (λ (n : ℕ). found n (with_entry entries id layout) ≡ Some layout) (eqb-true _ _ w)
      (lookup-insert id entries layout))
  | inr w ↦ rw w (found-insert-other id q entries layout (apart_back id q w))
]

-- ---- the last change of an ID

pub last_push : (id : ℕ) (changes : List (ℕ × Option Layout)) (change : ℕ × Option Layout)
    → last_change id (changes ++ change ∷ []) ≡ cond (nat_eq change.0 id) (Some change.1) (last_change id changes)
last_push id [] change = refl
last_push id (c ∷ cs) change = elim (by_bool (nat_eq change.0 id)) [
  | inl w ↦ rw (last_push id cs change, w) refl
  | inr w ↦ rw (last_push id cs change, w) refl
]

front_take : (changes : List (ℕ × Option Layout)) (i : ℕ) (change : ℕ × Option Layout) → i < length changes
    → change ≡ get_or changes i change → take (i + 1) changes ≡ take i changes ++ change ∷ []
front_take changes i change lt is = ap (λ (n : ℕ). take n changes) (add-one i)
    ∙ take-suc changes i change lt ∙ ap (λ (c : ℕ × Option Layout). take i changes ++ c ∷ []) (sym is)

pub last_take : (id : ℕ) (changes : List (ℕ × Option Layout)) (i : ℕ) (change : ℕ × Option Layout)
    → i < length changes → change ≡ get_or changes i change
    → last_change id (take (i + 1) changes)
    ≡ cond (nat_eq change.0 id) (Some change.1) (last_change id (take i changes))
last_take id changes i change lt is =
    ap (last_change id) (front_take changes i change lt is) ∙ last_push id (take i changes) change

-- ---- the place of the last change of an ID

pub place_push : (id : ℕ) (changes : List (ℕ × Option Layout)) (change : ℕ × Option Layout)
    → last_place id (changes ++ change ∷ [])
    ≡ cond (nat_eq change.0 id) (Some (length changes)) (last_place id changes)
place_push id [] change = refl
place_push id (c ∷ cs) change = elim (by_bool (nat_eq change.0 id)) [
  | inl w ↦ rw (place_push id cs change, w) refl
  | inr w ↦ rw (place_push id cs change, w) refl
]

pub place_take : (id : ℕ) (changes : List (ℕ × Option Layout)) (i : ℕ) (change : ℕ × Option Layout)
    → i < length changes → change ≡ get_or changes i change
    → last_place id (take (i + 1) changes)
    ≡ cond (nat_eq change.0 id) (Some i) (last_place id (take i changes))
place_take id changes i change lt is =
    let long : length (take i changes) ≡ i = length-take-le i changes (omega (arith, lt)) in
    ap (last_place id) (front_take changes i change lt is) ∙ place_push id (take i changes) change
    ∙ ap (λ (n : ℕ). cond (nat_eq change.0 id) (Some n) (last_place id (take i changes))) long

-- a map of the last places that takes the place of one more change still has the last ones
pub knows_more : (old new : ℕ → Option ℕ) (changes : List (ℕ × Option Layout)) (id : ℕ) (change : Option Layout)
    → ((q : ℕ) → old q ≡ last_place q changes)
    → ((q : ℕ) → new q ≡ cond (nat_eq id q) (Some (length changes)) (old q)) → (q : ℕ)
    → new q ≡ last_place q (changes ++ (id, change) ∷ [])
knows_more old new changes id change was put q =
    put q ∙ ap (cond (nat_eq id q) (Some (length changes))) (was q) ∙ sym (place_push q changes (id, change))

-- the change at a place, where there is one
abbrev Stands : List (ℕ × Option Layout) → Option ℕ → Option (Option Layout) → Type 0
Stands changes None last = last ≡ None
Stands changes (Some place) last =
    (change : ℕ × Option Layout) × (slice_get changes place ≡ Some change) × (last ≡ Some change.1)

stands : (id : ℕ) (changes : List (ℕ × Option Layout)) → Stands changes (last_place id changes) (last_change id changes)
stands id [] = refl
stands id (c ∷ cs) = by (last_place id cs) (last_change id cs) (nat_eq c.0 id) (stands id cs)
  where
    by : (place : Option ℕ) (last : Option (Option Layout)) (b : Bool) → Stands cs place last
        → Stands (c ∷ cs) (option_or (option_map suc place) (cond b (Some 0) None))
        (option_or last (cond b (Some c.1) None))
    by None last true h = (c, refl, rw h refl)
    by None last false h = rw h refl
    by (Some place) last b h = (h.0, h.1, rw h.2 refl)

pub last_none : (id : ℕ) (changes : List (ℕ × Option Layout)) → last_place id changes ≡ None
    → last_change id changes ≡ None
last_none id changes none = subst (λ (place : Option ℕ). Stands changes place (last_change id changes)) none
    (stands id changes)

pub last_some : (id : ℕ) (changes : List (ℕ × Option Layout)) (place : ℕ) (d : ℕ × Option Layout)
    → last_place id changes ≡ Some place
    → (place < length changes) × (Some (get_or changes place d).1 ≡ last_change id changes)
last_some id changes place d some =
    let h : Stands changes (Some place) (last_change id changes) =
    subst (λ (place : Option ℕ). Stands changes place (last_change id changes)) some (stands id changes) in
    let within : place < length changes = slice_get_within changes place h.0 h.1 in (
      within,
      cc (slice_get-get_or changes place d within, h.1, h.2),
    )

-- a change to the definition that is there already changes nothing
pub nothing_changed : (entries : List (ℕ × Layout)) (id : ℕ) (change : Option Layout) → found id entries ≡ change
    → entries ≡ change_by entries id change
nothing_changed entries id None none = sym (remove-absent id entries none)
nothing_changed entries id (Some layout) there = sym (insert-present id entries layout there)

pub nothing_taken : (entries : List (ℕ × Layout)) (id : ℕ) → found id entries ≡ None
    → entries ≡ change_by entries id None
nothing_taken entries id none = nothing_changed entries id None none

-- ---- sizes

of_cons : (e : ℕ × Layout) (es : List (ℕ × Layout)) → entries_size (e ∷ es) ≡ definition_size e.1 + entries_size es
of_cons e es = sum_by-cons (λ x. definition_size x.1) e es

size_take : (id : ℕ) (entries : List (ℕ × Layout))
    → entries_size (without id entries) + size_in (found id entries) ≡ entries_size entries
size_take id [] = refl
size_take id (e ∷ es) = elim (by_bool (nat_eq id e.0)) [
  | inl w ↦
      let left : without id (e ∷ es) ≡ es = rw w refl in
      let seen : found id (e ∷ es) ≡ Some e.1 = rw w refl in
      omega (arith, ap entries_size left, ap size_in seen, of_cons e es)
  | inr w ↦
      let left : without id (e ∷ es) ≡ e ∷ without id es = rw w refl in
      let seen : found id (e ∷ es) ≡ found id es = rw w refl in
      omega (arith, ap entries_size left, ap size_in seen, of_cons e es, of_cons e (without id es), size_take id es)
]

size_put : (id : ℕ) (layout : Layout) (entries : List (ℕ × Layout))
    → entries_size (with_entry entries id layout) + size_in
    (found id entries) ≡ entries_size entries + definition_size layout
size_put id layout [] = omega (arith, of_cons (id, layout) [])
size_put id layout (e ∷ es) = elim (by_bool (nat_eq id e.0)) [
  | inl w ↦
      let new : with_entry (e ∷ es) id layout ≡ (e.0, layout) ∷ es = rw w refl in
      let seen : found id (e ∷ es) ≡ Some e.1 = rw w refl in
      omega (arith, ap entries_size new, ap size_in seen, of_cons e es, of_cons (e.0, layout) es)
  | inr w ↦
      let new : with_entry (e ∷ es) id layout ≡ e ∷ with_entry es id layout = rw w refl in
      let seen : found id (e ∷ es) ≡ found id es = rw w refl in
      omega (
        arith,
        ap entries_size new,
        ap size_in seen,
        of_cons e es,
        of_cons e (with_entry es id layout),
        size_put id layout es,
      )
]

pub size_change : (entries : List (ℕ × Layout)) (id : ℕ) (change : Option Layout)
    → entries_size (change_by entries id change) + size_in (found id entries) ≡ entries_size entries + size_in change
size_change entries id None = omega (arith, size_take id entries)
size_change entries id (Some layout) = size_put id layout entries

-- what is found is counted
pub size_found : (entries : List (ℕ × Layout)) (id : ℕ) → size_in (found id entries) ≤ entries_size entries
size_found entries id = omega (arith, size_take id entries)

positive : (layout : Layout) → 0 < definition_size layout
positive layout = by layout.options (sum_by specifier_size layout.fields)
  where
    by : (o : Bool) (n : ℕ) → 0 < cond o 6 4 + n
    by true n = omega arith
    by false n = omega arith

not_zero : (n : ℕ) → 0 < n → eqb n 0 ≡ false
not_zero zero lt = absurd (omega arith)
not_zero (suc n) lt = eqb-suc-zero n

-- no octets, no entries
pub none_sized : (entries : List (ℕ × Layout)) → eqb (entries_size entries) 0 ≡ eqb (length entries) 0
none_sized [] = refl
none_sized (e ∷ es) = not_zero (entries_size (e ∷ es)) (omega (arith, positive e.1, of_cons e es))
    ∙ sym (not_zero (length (e ∷ es)) (omega arith))

-- ---- what an overlay records of the changes

module _ (base : List (ℕ × Layout)) (o new : Overlay) (h : IsOver base o) (id : ℕ) (change : Option Layout)
    (cleared : new.cleared ≡ o.cleared) (log : new.log ≡ o.log ++ (id, change) ∷ []) where
  pub over_entries : overlaid base new ≡ change_by (overlaid base o) id change
  over_entries = rw (cleared, log) (made_push (started o.cleared base) o.log id change)

  pub over_change : KnowsLast new.own (o.log ++ (id, change) ∷ [])
      → new.size + size_in (found id (overlaid base o)) ≡ o.size + size_in change → size_in change < 2 ^ 20
      → IsOver base new
  over_change knows size small =
      let is = over_entries in
      let more : length new.log ≡ length o.log + 1 = ap length log
      ∙ length-append o.log ((id, change) ∷ []) in
      record {
        once = subst IsOnce (sym is) (once_change (overlaid base o) id change h.once);
        found = λ q. ap (found q) is ∙ found_change (overlaid base o) id q change h.once ∙ seen q;
        own = subst (KnowsLast new.own) (sym log) knows;
        size = omega (arith, size, h.size, ap entries_size is, size_change (overlaid base o) id change);
        bound = omega (arith, size, small, h.bound, more);
      }
    where
      seen : (q : ℕ) → cond (nat_eq id q) change (found q (overlaid base o)) ≡ unwrap_or (last_change q new.log)
          (found q (started new.cleared base))
      seen q = elim (by_bool (nat_eq id q)) [
        | inl w ↦ rw (log, last_push q o.log (id, change), w) refl
        | inr w ↦ rw (log, last_push q o.log (id, change), w, cleared) (h.found q)
      ]
