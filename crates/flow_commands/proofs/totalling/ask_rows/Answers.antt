use Rattle.std.proofs.Common.{◌≡◌, ◌∙◌, true, ap}
use Rattle.std.specs.Prelude.{filter}
use Rattle.std.proofs.lemmas.List.Elements.{All-same, filter_passes}
use Rattle.flow_measure.specs.declared.rows.Row.{Row}
use Rattle.flow_measure.specs.Query.{narrow_table, narrow_table_in, wide_table}
use Rattle.flow_commands.specs.Plans.{is_in}
use Rattle.flow_commands.proofs.Spans.{both_in, filter_all, read_rows_in}
use Rattle.flow_commands.proofs.totalling.ask_rows.Goals as goal

pub returns-in-Ok-clause-within : goal.returns-in-Ok-clause-within
returns-in-Ok-clause-within g c =
    let test = λ (r : Row). is_in c.args.span.now r.key.start in
    All-same (λ (r : Row). is_in c.args.span.now r.key.start ≡ true) _ _ c.rows_in.ensures
    (filter_passes test c.in-Ok.rows.items)

pub returns-in-Ok-clause-given : goal.returns-in-Ok-clause-given
returns-in-Ok-clause-given g c honest v is =
    let test = λ (r : Row). is_in c.args.span.now r.key.start in
    c.rows_in.ensures ∙ ap (filter test) (c.in-Ok.ensures.given honest v is)
    ∙ filter_all test _ (both_in c.args.span.now (narrow_table_in v) (record { width = v.wide; sums = v.merged }))

pub returns-in-Ok-clause-answered : goal.returns-in-Ok-clause-answered
returns-in-Ok-clause-answered g c honest h counts right are within is =
    let test = λ (r : Row). is_in c.args.span.now r.key.start in
    c.rows_in.ensures ∙ ap (filter test) (c.in-Ok.ensures.answered honest h counts right are within is)
    ∙ filter_all test _ (both_in c.args.span.now (narrow_table h) (wide_table h))

pub returns-in-Ok-clause-found : goal.returns-in-Ok-clause-found
returns-in-Ok-clause-found g c honest =
    read_rows_in c.args.snapshot.now.shelf c.args.span.now c.in-Ok.rows.items c.rows_in.result.items c.rows_in.ensures
    (c.in-Ok.ensures.found honest)
