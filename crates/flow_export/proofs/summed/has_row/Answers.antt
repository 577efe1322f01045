use Rattle.std.proofs.Common.{ap, sym}
use Rattle.std.specs.List.{list_any}
use Rattle.flow_export.specs.Span.{meets}
use Rattle.flow_export.proofs.summed.has_row.Goals as goal

pub rows-init : goal.rows-init
rows-init c =
    let span = c.args.span in
    ap (list_any (λ e. meets span.from span.to c.args.rows.now.width e.0)) (sym c.walk-walk.ensures)
