use Rattle.std.proofs.Common.{arith, ◌+◌, List, ℕ, subst}
use Rattle.flow_report.specs.Telling.{IsPut}
use Rattle.flow_report.proofs.Fields.{put_tail}
use Rattle.flow_report.proofs.line.put_part.Goals as goal

pub returns-clause-put : goal.returns-clause-put
returns-clause-put c =
    let whole = c.put_part_whole.ensures in
    let put = put_tail _ _ _ _ c.dotted_octet-part.result.before _ whole.put (omega (arith, whole.room, whole.len))
    (omega (arith, whole.len, c.dotted_octet-part.ensures.before)) in
    subst (λ (text : List ℕ). IsPut c.args.line.now c.args.at c.put_part_whole.new.line
    (c.put_part_whole.result + c.dotted_octet-part.result.before) text) c.dotted_octet-part.ensures.text put
