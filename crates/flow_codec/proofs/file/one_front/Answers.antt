use Rattle.flow_codec.proofs.Dividing.{has_one_division}
use Rattle.flow_codec.proofs.Fronts.{has_one_front}
use Rattle.flow_codec.proofs.file.one_front.Goals as goal

pub returns-clause-divided : goal.returns-clause-divided
returns-clause-divided c = λ octets. has_one_division octets

pub returns-clause-accepted : goal.returns-clause-accepted
returns-clause-accepted c = λ before octets fits. has_one_front before 0 octets fits
