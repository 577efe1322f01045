use Rattle.std.proofs.Common.{◌≡◌, take}
use Rattle.std.specs.Option.{option_copied}
use Rattle.flow_codec.specs.Working.{last_change}
use Rattle.flow_codec.proofs.overlay.last_in.Given as goal

abbrev pub invariant-loop-key : goal.invariant-loop-key
invariant-loop-key l = option_copied l.last ≡ last_change l.id (take l.key-index l.log)
