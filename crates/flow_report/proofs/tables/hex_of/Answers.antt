use Rattle.std.proofs.Common.{arith}
use Rattle.flow_report.proofs.Digits.{HEX_at}
use Rattle.flow_report.proofs.tables.hex_of.Goals as goal

pub returns : goal.returns
returns c = HEX_at c.args.octet (omega arith)
