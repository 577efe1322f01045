use Rattle.flow_codec.proofs.Sizes.{few_records, short_enough, others_left}
use Rattle.flow_codec.proofs.laws.message_bounds.Goals as goal

pub returns-clause-size : goal.returns-clause-size
returns-clause-size c = λ octets before after m h. short_enough octets before m after h.0

pub returns-clause-records : goal.returns-clause-records
returns-clause-records c = λ octets before after m h. few_records octets before m after h.0

pub returns-clause-domains : goal.returns-clause-domains
returns-clause-domains c = λ octets before after m other h differ. others_left octets before m after other differ h.0
