use Rattle.flow_snapshot.proofs.PartMessages.{cut_whole, messages_are}
use Rattle.flow_snapshot.proofs.laws.parts_are.Goals as goal

pub returns-clause-found : goal.returns-clause-found
returns-clause-found c = λ octets n ms are. messages_are octets n ms are

pub returns-clause-whole : goal.returns-clause-whole
returns-clause-whole c = λ octets n some each. cut_whole n octets some each
