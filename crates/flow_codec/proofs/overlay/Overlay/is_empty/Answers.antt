use Rattle.std.proofs.Common.{ℕ, eqb, ap, ◌∙◌}
use Rattle.flow_codec.specs.Working.{overlaid}
use Rattle.flow_codec.proofs.OverlayLaws.{none_sized}
use Rattle.flow_codec.proofs.overlay.Overlay.is_empty.Goals as goal

pub returns : goal.returns
returns c base over = ap (λ (n : ℕ). eqb n 0) over.size ∙ none_sized (overlaid base c.args.self.now)
