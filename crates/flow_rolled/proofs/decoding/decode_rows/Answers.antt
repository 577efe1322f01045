use Rattle.std.proofs.Common.{rules, ◌^◌, ◌≡◌, ◌<◌, ℕ, List, [], ◌∷◌, ◌++◌, length, None}
use Rattle.std.proofs.Common.{sym, ap, subst, ◌∙◌, arith, length-append}
use Rattle.std.proofs.lemmas.Bool.{eqb-true, eqb-false}
use Rattle.std.specs.Prelude.{Result, Ok, Err, OnOk, is_err, false}
use Rattle.flow_rolled.specs.declared.row.RolledRow.{RolledRow}
use Rattle.flow_rolled.specs.Rows.{AreRows, sums_of}
use Rattle.flow_rolled.specs.Messages.{Follows, last_message, rows_within}
use Rattle.flow_rolled.specs.Octets.{message_octets}
use Rattle.flow_rolled.specs.Reading.{data_of}
use Rattle.flow_rolled.proofs.Breaking.{one_table}
use Rattle.flow_rolled.proofs.SameParts.{part_long}
use Rattle.flow_rolled.proofs.SoFar.{IsSoFar, at_start, at_end, one_more, rows_follow, broken, broken_end, no_sums}
use Rattle.flow_rolled.proofs.SoFar.{few_rows}
use Rattle.flow_rolled.specs.Stored.{IsEnd}
use Rattle.flow_rolled.proofs.decoding.decode_rows.Goals as goal
use Rattle.flow_rolled.proofs.decoding.decode_rows.Goals.{in-Some-before+else-state-eq0, in_default-before}

when_ok : {X E : Type 0} (r : Result X E) (P : Type 0) → OnOk r P → is_err r ≡ false → P
when_ok (Ok x) P h e = h
when_ok (Err x) P h e = absurd cc

pub loop-rest-init : goal.loop-rest-init
loop-rest-init c = (
  [],
  at_start c.args.width c.args.octets.now c.new-rows.result (c.new-rows.ensures
      ∙ sym (no_sums c.args.width)),
)

pub returns-in_default-clause-refused : goal.returns-in_default-clause-refused
returns-in_default-clause-refused c =
    let h = c.loop-rest.invariant in
    let stuck = rw c.in_default.is at c.in_ok-message.ensures.stuck in
    let some = eqb-false (length c.loop-rest.rest.now) 0 (sym c.is_empty.ensures ∙ c.loop-rest-test.true) in
    broken c.args.width c.ranges.width.fits c.args.octets.now c.loop-rest.rest.now c.loop-rest.before c.loop-rest.rows
    h.0 h.1 stuck (omega (arith, some))

pub loop-rest-smaller : goal.loop-rest-smaller
loop-rest-smaller c =
    let found = rw c.in-Some.is at c.in_ok-message.ensures.found in
    let len : length c.loop-rest.rest.now ≡ length
    (message_octets c.args.width (data_of c.in-Some.message) ++ c.in-Some.after.now) =
    ap (λ (l : List ℕ). length l) found in
    let sum = length-append (message_octets c.args.width (data_of c.in-Some.message)) c.in-Some.after.now in
    let some = part_long c.args.width (data_of c.in-Some.message) in
    let less : length c.in-Some.after.now < length c.loop-rest.rest.now = omega (arith, len, sum, some) in less

pub add_rows-requires : goal.add_rows-requires
add_rows-requires c =
    let w = c.args.width in
    let front = c.loop-rest.invariant.0 in
    let h = c.loop-rest.invariant.1 in
    let p = data_of c.in-Some.message in
    let found = rw c.in-Some.is at c.in_ok-message.ensures.found in
    let follows = rw c.in-Some.is at c.in_ok-message.ensures.follows in
    let next : Follows w (last_message None front) p = follows (last_message None front) h.stands in
    let width : c.loop-rest.rows.width ≡ w = ap (λ t. t.width) h.sums in
    let sums : c.loop-rest.rows.sums ≡ sums_of (rows_within front) = ap (λ t. t.sums) h.sums in
    let list : c.deref.result.now ≡ p.rows = c.deref.ensures.value in
    let order : AreRows c.loop-rest.rows.width None (rows_within front ++ c.deref.result.now) =
    subst (λ v. AreRows v None (rows_within front ++ c.deref.result.now)) (sym width)
    (subst (λ l. AreRows w None (rows_within front ++ l)) (sym list) (rows_follow w front p h.follow next)) in
    let short : length c.args.octets.now < 2 ^ 64 = search rules in
    let few = few_rows w c.args.octets.now c.loop-rest.rest.now c.in-Some.after.now front p h.is found short in
    let len = ap (λ (l : List RolledRow). length l) list in
    (rows_within front, sums, order, omega (arith, few, len))

pub loop-rest-preserved : goal.loop-rest-preserved
loop-rest-preserved c =
    let w = c.args.width in
    let front = c.loop-rest.invariant.0 in
    let h = c.loop-rest.invariant.1 in
    let p = data_of c.in-Some.message in
    let found = rw c.in-Some.is at c.in_ok-message.ensures.found in
    let follows = rw c.in-Some.is at c.in_ok-message.ensures.follows in
    let next : Follows w (last_message None front) p = follows (last_message None front) h.stands in
    let width : c.loop-rest.rows.width ≡ w = ap (λ t. t.width) h.sums in
    let sums : c.loop-rest.rows.sums ≡ sums_of (rows_within front) = ap (λ t. t.sums) h.sums in
    let list : c.deref.result.now ≡ p.rows = c.deref.ensures.value in
    let added = when_ok c.add_rows.result _ c.add_rows.ensures.ok (sym c.is_err.ensures.value ∙ c.if-is_err.false) in
    let new : c.add_rows.new.rows ≡ record { width = w; sums = sums_of (rows_within front ++ p.rows) } =
    added (rows_within front) sums ∙ (λ i. record { width = width i; sums = sums_of (rows_within front ++ list i) })
    in (
      front ++ p ∷ [],
      one_more w c.args.octets.now c.loop-rest.rest.now c.in-Some.after.now c.loop-rest.before
          c.loop-rest.rows c.add_rows.new.rows front p c.behind.result h found next
          (c.behind.ensures w (rw c.in-Some.is at c.in_ok-message.ensures.part)) new,
    )

pub returns-then-state-eq0-clause-refused : goal.returns-then-state-eq0-clause-refused
returns-then-state-eq0-clause-refused c =
    let front = c.loop-rest.invariant.0 in
    let h = subst (λ b. IsSoFar c.args.width c.args.octets.now c.loop-rest.rest.now b c.loop-rest.rows front)
    c.in-Some-before.is c.loop-rest.invariant.1 in
    let none = eqb-true (length c.loop-rest.rest.now) 0 (sym c.is_empty.ensures ∙ c.loop-rest-test.false) in
    broken_end c.args.width c.ranges.width.fits c.args.octets.now c.loop-rest.rest.now c.in-Some-before.state
    c.loop-rest.rows front h none c.if-state-eq0.true

pub returns-clause-found : goal.returns-clause-found
returns-clause-found c =
    let none = eqb-true (length c.loop-rest.rest.now) 0 (sym c.is_empty.ensures ∙ c.loop-rest-test.false) in
    let ends : IsEnd c.loop-rest.before = elim c.match-before.branch [
      | in-Some-before+else-state-eq0 w ↦ subst IsEnd (sym w.in-Some-before.is) (let n = w.if-state-eq0.false in
          omega (arith, n))
      | in_default-before w ↦ subst IsEnd (sym w.in_default-before.is) tt
    ] in
    at_end c.args.width c.args.octets.now c.loop-rest.rest.now c.loop-rest.before c.loop-rest.rows
    c.loop-rest.invariant.0 c.loop-rest.invariant.1 none ends

pub returns-in_default-clause-only : goal.returns-in_default-clause-only
returns-in_default-clause-only c = λ t h. (returns-in_default-clause-refused c).none t h

pub returns-then-state-eq0-clause-only : goal.returns-then-state-eq0-clause-only
returns-then-state-eq0-clause-only c = λ t h. (returns-then-state-eq0-clause-refused c).none t h

pub returns-clause-only : goal.returns-clause-only
returns-clause-only c =
    λ t h. one_table c.args.width c.ranges.width.fits c.args.octets.now c.loop-rest.rows t (returns-clause-found c) h
