use Rattle.std.proofs.Common.{◌/◌}
use Rattle.std.proofs.Math.Nat.{mul-mod_left}
use Rattle.flow_archive.proofs.creating.widest.Goals as goal

pub returns-clause-multiple : goal.returns-clause-multiple
returns-clause-multiple c = mul-mod_left (86400 / c.args.width) c.args.width
