use Rattle.std.proofs.Common.{refl}
use Rattle.flow_report.proofs.patient.Patience.new.Goals as goal

pub returns : goal.returns
returns c = refl
