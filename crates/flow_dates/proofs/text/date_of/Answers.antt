use Rattle.std.proofs.Common.{arith}
use Rattle.jiff_core.proofs.SignedLemmas.{signed_arith}
use Rattle.flow_dates.proofs.Days.{date_is}
use Rattle.flow_dates.proofs.text.date_of.Goals as goal

pub returns-clause-year : goal.returns-clause-year
returns-clause-year c = (date_is c.from_days_since_min.result c.args.days (omega (arith, signed_arith, c.from_days_since_min.ensures))).0

pub returns-clause-month : goal.returns-clause-month
returns-clause-month c = (date_is c.from_days_since_min.result c.args.days (omega (arith, signed_arith, c.from_days_since_min.ensures))).1

pub returns-clause-day : goal.returns-clause-day
returns-clause-day c = (date_is c.from_days_since_min.result c.args.days (omega (arith, signed_arith, c.from_days_since_min.ensures))).2
