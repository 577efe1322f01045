use Rattle.flow_headline.proofs.IpfixFiles.{ipfix_files}
use Rattle.flow_headline.proofs.laws.files_are_ipfix.Goals as goal

pub returns : goal.returns
returns c = ipfix_files
