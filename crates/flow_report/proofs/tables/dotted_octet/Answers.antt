use Rattle.std.proofs.Common.{arith}
use Rattle.flow_report.proofs.Digits.{one_digit, two_digits, three_digits}
use Rattle.flow_report.proofs.tables.dotted_octet.Goals as goal

pub returns-then-octet-lt10-clause-text : goal.returns-then-octet-lt10-clause-text
returns-then-octet-lt10-clause-text c = one_digit c.args.octet c.if-octet-lt10.true

pub returns-then-octet-lt100-clause-text : goal.returns-then-octet-lt100-clause-text
returns-then-octet-lt100-clause-text c = two_digits c.args.octet (omega arith) c.if-octet-lt100.true

pub returns-clause-text : goal.returns-clause-text
returns-clause-text c = three_digits c.args.octet (omega arith) c.ranges.octet.fits
