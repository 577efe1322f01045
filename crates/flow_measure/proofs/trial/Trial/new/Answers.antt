use Rattle.std.proofs.Common.{◌≡◌, sym, ap, subst, ◌∙◌}
use Rattle.flow_measure.specs.Sums.{Table, AreSound, AllFit}
use Rattle.flow_measure.specs.Entries.{map_of, table_at, all_undone}
use Rattle.flow_measure.proofs.trial.Trial.new.Goals as goal

pub invariant_of-result : goal.invariant_of-result
unfolding all_undone
invariant_of-result c =
    let parts = c.into_parts-width.ensures in
    let width = c.into_parts-width.result.0 in
    let entries = c.into_parts-width.result.1 in
    let same : all_undone c.new.result.items entries ≡ entries = ap (λ cs. all_undone cs entries) c.new.ensures.items in (
      parts.positive,
      (parts.sound, parts.fit),
      (
        subst (λ es. AreSound width (map_of es)) (sym same) parts.sound,
        subst (λ es. AllFit (table_at width es)) (sym same) parts.fit,
      ),
    )

pub returns : goal.returns
unfolding all_undone
returns c =
    let width = c.into_parts-width.result.0 in
    let entries = c.into_parts-width.result.1 in
    ap (λ cs. (table_at width (all_undone cs entries), table_at width entries)) c.new.ensures.items
    ∙ ap (λ (t : Table). (t, t)) c.into_parts-width.ensures.parts
