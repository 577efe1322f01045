use Rattle.std.proofs.Common.{rules, ◌≡◌, List, ℕ, length, map, subst, sym}
use Rattle.std.specs.List.{join_with_byte}
use Rattle.flow_report.specs.Lines.{octets_text, pairs}
use Rattle.flow_report.specs.Telling.{IsPut}
use Rattle.flow_report.proofs.Putting.{put_both, items_are}
use Rattle.flow_report.proofs.line.put_address6.Goals as goal

pub returns-clause-put : goal.returns-clause-put
returns-clause-put c =
    let x2 = put_both _ _ _ _ _ _ _ _ c.put_group-at.ensures.put c.put_group-at-2.ensures.put in
    let x3 = put_both _ _ _ _ _ _ _ _ x2 c.put_group-at-3.ensures.put in
    let x4 = put_both _ _ _ _ _ _ _ _ x3 c.put_group-at-4.ensures.put in
    let x5 = put_both _ _ _ _ _ _ _ _ x4 c.put_group-at-5.ensures.put in
    let x6 = put_both _ _ _ _ _ _ _ _ x5 c.put_group-at-6.ensures.put in
    let x7 = put_both _ _ _ _ _ _ _ _ x6 c.put_group-at-7.ensures.put in
    let all = put_both _ _ _ _ _ _ _ _ x7 c.put_pair.ensures.put in
    let size : length c.args.octets ≡ 16 = search rules in
    subst (λ (xs : List ℕ). IsPut c.args.line.now c.args.at c.put_pair.new.line c.put_pair.result
    (join_with_byte 58 (map octets_text (pairs xs)))) (sym (items_are 16 0 c.args.octets (sym size))) all
