use Rattle.std.proofs.Common.{◌≡◌, List, get_or, length, None, ap, subst, ◌∙◌, arith}
use Rattle.flow_rolled.specs.declared.row.RolledRow.{RolledRow}
use Rattle.flow_rolled.specs.Messages.{group}
use Rattle.flow_rolled.specs.Writing.{IsPlaceOf}
use Rattle.flow_rolled.proofs.WrittenParts.{group_at, group_within}
use Rattle.flow_rolled.proofs.encoding.next_place.Goals as goal

abbrev none : RolledRow
none = record { key = record { start = 0; domain = 0; protocol = None }; flows = 0; octets = 0; packets = 0 }

pub returns-then-place-domain-clause-is : goal.returns-then-place-domain-clause-is
returns-then-place-domain-clause-is c = λ time b r rs tie is.
    let rows = c.args.rows.now in
    let first : (get_or rows 0 none).key.domain ≡ r.key.domain =
    ap (λ (l : List RolledRow). (get_or l 0 none).key.domain) is in
    group_at time c.in-Some.place (record {
      sequence = c.due_behind.result;
      domain =
          (get_or rows 0 none).key.domain;
      count = c.group_len.result;
    }) b rows r rs
    (subst (λ o. IsPlaceOf o b) c.in-Some.is tie) is (c.if-place-domain.true ∙ first)
    (λ q es ec. c.due_behind.ensures q es ec) first (c.group_len.ensures ∙ ap (λ d. length (group 1000 d rows)) first)

pub returns-then-place-domain-clause-few : goal.returns-then-place-domain-clause-few
returns-then-place-domain-clause-few c = let g =
    group_within (get_or c.args.rows.now 0 none).key.domain c.args.rows.now in let e = c.group_len.ensures in
    omega (arith, g.0, e)

pub returns-then-place-domain-clause-within : goal.returns-then-place-domain-clause-within
returns-then-place-domain-clause-within c = let g =
    group_within (get_or c.args.rows.now 0 none).key.domain c.args.rows.now in let e = c.group_len.ensures in
    omega (arith, g.1, e)
