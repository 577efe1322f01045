use Rattle.std.proofs.Common.{Vec, Global}
use Rattle.flow_measure.specs.declared.rows.Row.{Row}
use Rattle.flow_several.proofs.Adding.{rows_of_views}
use Rattle.flow_several.proofs.together.Together.rows.Goals as goal

pub returns-clause-views : goal.returns-clause-views
returns-clause-views c = λ vs are.
    rows_of_views (λ (rows : Vec Row Global). rows.items) c.args.self.sums c.args.from c.args.to c.rows_of.result
    c.rows_of.ensures vs are
