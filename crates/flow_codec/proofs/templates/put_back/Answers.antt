use Rattle.std.proofs.Common.{sym, ◌∙◌}
use Rattle.flow_codec.proofs.PuttingBack.{put_none}
use Rattle.flow_codec.proofs.templates.put_back.Goals as goal

pub returns-then-is_empty : goal.returns-then-is_empty
returns-then-is_empty c once = c.shift_remove.ensures.entries
    ∙ sym (put_none c.args.domain c.args.domains.now.entries once c.args.last c.args.here (sym c.if-is_empty.ensures))
