use Rattle.flow_dates.proofs.Days.{after_has}
use Rattle.flow_dates.proofs.laws.days_are_counted.Goals as goal

pub returns : goal.returns
returns c n = (after_has n).number_is
