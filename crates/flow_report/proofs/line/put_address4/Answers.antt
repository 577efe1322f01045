use Rattle.std.proofs.Common.{rules, arith, ◌≡◌, ◌+◌, List, ℕ, length, map, subst, sym}
use Rattle.std.specs.Fmt.{decimal}
use Rattle.std.specs.List.{join_with_byte}
use Rattle.flow_report.specs.Telling.{IsPut}
use Rattle.flow_report.proofs.Fields.{put_rest}
use Rattle.flow_report.proofs.Putting.{put_both, items_are}
use Rattle.flow_report.proofs.line.put_address4.Goals as goal

pub returns-clause-put : goal.returns-clause-put
returns-clause-put c =
    let x2 = put_both _ _ _ _ _ _ _ _ c.put_part-at.ensures.put c.put_part-at-2.ensures.put in
    let x3 = put_both _ _ _ _ _ _ _ _ x2 c.put_part-at-3.ensures.put in
    let all = put_both _ _ _ _ _ _ _ _ x3 c.put_part.ensures.put in
    let size : length c.args.octets ≡ 4 = search rules in
    subst (λ (xs : List ℕ). IsPut c.args.line.now c.args.at c.put_part.new.line (c.put_part.result + 1)
    (join_with_byte 46 (map decimal xs))) (sym (items_are 4 0 c.args.octets (sym size)))
    (put_rest _ _ _ _ 46 _ all (omega (arith, c.put_part.ensures.room)))
