use Rattle.flow_export.proofs.ReadBack.{read_back}
use Rattle.flow_export.proofs.laws.exported_files.Goals as goal

pub returns : goal.returns
returns c = λ s v skip most text view is. read_back s v view skip most text is
