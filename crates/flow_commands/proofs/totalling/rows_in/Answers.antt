use Rattle.std.proofs.Common.{rules}
use Rattle.std.proofs.lemmas.Fn.{filter_same}
use Rattle.flow_commands.specs.Plans.{is_in}
use Rattle.flow_commands.proofs.totalling.rows_in.Goals as goal

pub returns : goal.returns
returns c =
    filter_same _ (λ row. is_in c.args.span.now row.key.start) _ (λ x b f' k. search rules) _ _
    c.retain.ensures.filtered
