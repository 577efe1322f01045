use Rattle.std.proofs.Common.{◌≡◌, ℕ, ◌<◌, List, [], ◌∷◌, ◌++◌, length, sym, ap}
use Rattle.std.proofs.Common.{◌∙◌, arith}
use Rattle.std.specs.Prelude.{filter}
use Rattle.std.proofs.lemmas.Bool.{eqb-true, eqb-false}
use Rattle.std.proofs.lemmas.Bool.Decides.{Decides-eqb, not_from_Decides}
use Rattle.std.proofs.lemmas.Slice.Eq.{slice_eq-Decides}
use Rattle.flow_rolled.specs.declared.row.RolledRow.{RolledRow}
use Rattle.flow_rolled.specs.Octets.{sets_of, head_sets, row_set_octets, has_protocol, has_none}
use Rattle.flow_rolled.proofs.RowSets.{first_set, second_set, both_sets, are_of_sets, sets_made, no_octets}
use Rattle.flow_rolled.proofs.set_reading.rows_of_sets.Goals as goal
use Rattle.flow_rolled.proofs.set_reading.rows_of_sets.Goals.{then-is_empty-via-then-is_empty}
use Rattle.flow_rolled.proofs.set_reading.rows_of_sets.Goals.{then-is_empty-via-else-is_empty+then-len-gt-FULL}
use Rattle.flow_rolled.proofs.set_reading.rows_of_sets.Goals.{then-is_empty-via-else-is_empty+else-len-gt-FULL+then-not-is_empty}

-- rows whose octets aren't a head's are some
not_bare : (w : ℕ) (octets : List ℕ) (rows : List RolledRow) → (octets ≡ head_sets → ⊥) → octets ≡ sets_of w rows
    → 0 < length rows
not_bare w octets [] other e = absurd (other e)
not_bare w octets (r ∷ rs) other e = omega arith

pub returns-in_default-2-clause-none : goal.returns-in_default-2-clause-none
returns-in_default-2-clause-none c = λ rows are e.
    let w = c.args.width in let d = c.args.domain in
    let other : (c.args.octets.now ≡ c.as_slice.result.now) → ⊥ =
    not_from_Decides c.eq.result
    (slice_eq-Decides Decides-eqb c.args.octets.now c.as_slice.result.now c.eq.result c.eq.ensures) c.if-eq.false in
    let some = not_bare w c.args.octets.now rows (λ x. other (x ∙ sym c.as_slice.ensures)) e in
    let only = rw c.in-Some.is at c.in_ok-rows.ensures.only in
    let first = only (filter has_protocol rows) (row_set_octets w 257 (filter has_none rows))
    (first_set w d c.args.octets.now rows are some e) in
    let none = rw c.in_default-2.is at c.in_ok-more.ensures.none in
    none (filter has_none rows) [] (second_set w d c.in-Some.rest.now rows are first.1)

pub returns-then-is_empty-clause-none : goal.returns-then-is_empty-clause-none
returns-then-is_empty-clause-none c = λ rows are e.
    let w = c.args.width in let d = c.args.domain in
    let other : (c.args.octets.now ≡ c.as_slice.result.now) → ⊥ =
    not_from_Decides c.eq.result
    (slice_eq-Decides Decides-eqb c.args.octets.now c.as_slice.result.now c.eq.result c.eq.ensures) c.if-eq.false in
    let some = not_bare w c.args.octets.now rows (λ x. other (x ∙ sym c.as_slice.ensures)) e in
    let only = rw c.in-Some.is at c.in_ok-rows.ensures.only in
    let first = only (filter has_protocol rows) (row_set_octets w 257 (filter has_none rows))
    (first_set w d c.args.octets.now rows are some e) in
    let only_2 = rw c.in-Some-2.is at c.in_ok-more.ensures.only in
    let second = only_2 (filter has_none rows) [] (second_set w d c.in-Some.rest.now rows are first.1) in
    let joined = both_sets w d rows are c.in-Some.rows.items c.in-Some-2.more.items first.0 second.0 in
    let l = ap (λ (x : List RolledRow). length x) (c.in_ok-extend_from_slice.ensures.items
    ∙ ap (λ (x : List RolledRow). c.in-Some.rows.items ++ x) c.deref.ensures.value ∙ joined) in
    let f = are.few in
    let left = ap (λ (x : List ℕ). length x) second.1 in
    elim c.then-is_empty.branch [
      | then-is_empty-via-then-is_empty x ↦ let a = eqb-true _ 0 (sym c.is_empty.ensures ∙ x.if-is_empty.true) in
          omega (arith, a, l, some)
      | then-is_empty-via-else-is_empty+then-len-gt-FULL x ↦ let a = x.if-len-gt-FULL.true in let b =
          x.len.ensures in omega (arith, a, b, l, f)
      | then-is_empty-via-else-is_empty+else-len-gt-FULL+then-not-is_empty x ↦ let a =
          eqb-false (length c.in-Some-2.rest.now) 0 (sym x.is_empty-else-len-gt-FULL.ensures
          ∙ x.if-not-is_empty.true) in omega (arith, a, left)
    ]

pub returns-clause-found : goal.returns-clause-found
returns-clause-found c =
    let w = c.args.width in let d = c.args.domain in
    let items = c.in_ok-extend_from_slice.ensures.items
    ∙ ap (λ (x : List RolledRow). c.in-Some.rows.items ++ x) c.deref.ensures.value in
    sets_made w d c.args.octets.now c.in-Some.rest.now c.in-Some-2.rest.now c.in-Some.rows.items c.in-Some-2.more.items
    _ items (let a = eqb-false _ 0 (sym c.is_empty.ensures ∙ c.if-is_empty.false) in
    omega (arith, a)) (rw c.in-Some.is at c.in_ok-rows.ensures.all) (rw c.in-Some-2.is at c.in_ok-more.ensures.all)
    (rw c.in-Some.is at c.in_ok-rows.ensures.found) (rw c.in-Some-2.is at c.in_ok-more.ensures.found)
    (no_octets c.in-Some-2.rest.now
    (eqb-true (length c.in-Some-2.rest.now) 0 (sym c.is_empty-else-len-gt-FULL.ensures
    ∙ c.if-not-is_empty.false)))

pub returns-clause-all : goal.returns-clause-all
returns-clause-all c =
    let w = c.args.width in let d = c.args.domain in
    let items = c.in_ok-extend_from_slice.ensures.items
    ∙ ap (λ (x : List RolledRow). c.in-Some.rows.items ++ x) c.deref.ensures.value in
    are_of_sets w d c.in-Some.rows.items c.in-Some-2.more.items _ items (let a = c.if-len-gt-FULL.false in let b =
    c.len.ensures in omega (arith, a, b)) (rw c.in-Some.is at c.in_ok-rows.ensures.all)
    (rw c.in-Some-2.is at c.in_ok-more.ensures.all)
