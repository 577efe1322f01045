use Rattle.std.proofs.Common.{rules, ◌≡◌, ◌++◌, List, ℕ, length, map, subst, sym}
use Rattle.std.specs.List.{join_with_byte}
use Rattle.std.proofs.lemmas.Result.{on_ok_weaker}
use Rattle.flow_report.specs.Lines.{octets_text, pairs}
use Rattle.flow_report.proofs.Putting.{items_are}
use Rattle.flow_columns.proofs.Joined.{eight_joined}
use Rattle.flow_columns.proofs.value.push_address6.Goals as goal

pub returns : goal.returns
returns c =
    let old = c.args.text.now.items in
    let size : length c.args.octets ≡ 16 = search rules in
    on_ok_weaker c.push_group-7.result
    (λ e. subst (λ (xs : List ℕ). c.push_group-7.new.text.items
    ≡ old ++ join_with_byte 58 (map octets_text (pairs xs))) (sym (items_are 16 0 c.args.octets (sym size)))
    (eight_joined old _ _ _ _ _ _ _ _ _ _ _ _ _ _ _ _ c.in_ok-push_pair.ensures c.in_ok-push_group.ensures
    c.in_ok-push_group-2.ensures c.in_ok-push_group-3.ensures c.in_ok-push_group-4.ensures
    c.in_ok-push_group-5.ensures c.in_ok-push_group-6.ensures e)) c.push_group-7.ensures
