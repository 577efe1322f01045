use Rattle.flow_commands.proofs.OneEach.{each_alone}
use Rattle.flow_commands.proofs.laws.each_file_alone.Goals as goal

pub returns : goal.returns
returns c = each_alone
