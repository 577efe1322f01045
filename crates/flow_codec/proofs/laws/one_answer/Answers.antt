use Rattle.flow_codec.proofs.FaultLaws.{answered, one_message, one_state, one_fault, never_both}
use Rattle.flow_codec.proofs.Kept.{in_force}
use Rattle.flow_codec.proofs.laws.one_answer.Goals as goal

pub returns-clause-some : goal.returns-clause-some
returns-clause-some c = λ octets before h. answered before octets h

pub returns-clause-one_message : goal.returns-clause-one_message
returns-clause-one_message c = λ octets before after other m n p q. one_message before octets m n after other p q

pub returns-clause-one_state : goal.returns-clause-one_state
returns-clause-one_state c = λ octets before after other m n p q. one_state before octets m n after other p q

pub returns-clause-one_fault : goal.returns-clause-one_fault
returns-clause-one_fault c = λ octets before d e h p q. one_fault before octets d e h p q

pub returns-clause-never_both : goal.returns-clause-never_both
returns-clause-never_both c = λ octets before after m d h p q. never_both before octets m after d h p q

pub returns-clause-in_force : goal.returns-clause-in_force
returns-clause-in_force c = λ octets before after m h p. in_force before octets m after h p
