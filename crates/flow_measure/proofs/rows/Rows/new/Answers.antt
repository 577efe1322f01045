use Rattle.std.proofs.Common.{◌<◌}
use Rattle.flow_measure.specs.Sums.{Fits, IsKeyBy}
use Rattle.flow_measure.proofs.Viewing.{none_at}
use Rattle.flow_measure.proofs.rows.Rows.new.Goals as goal

pub invariant_of-result : goal.invariant_of-result
invariant_of-result c = (
  c.requires,
  λ key. none_at c.new.result (λ s. IsKeyBy c.args.width key × (0 < s.flows)) key c.new.ensures,
  λ key. none_at c.new.result Fits key c.new.ensures,
)
