use Rattle.std.proofs.Common.{arith}
use Rattle.flow_codec.proofs.Sizes.{few_records, short_enough}
use Rattle.flow_segment.proofs.FlowsFit.{message_fits, messages_fit}
use Rattle.flow_segment.proofs.laws.accepted_message_fits.Goals as goal

pub returns-clause-few : goal.returns-clause-few
returns-clause-few c = λ octets before after message is.
    let few = few_records octets before message after is.0 in
    let short = short_enough octets before message after is.0 in
    omega (arith, few, short.1)

pub returns-clause-fit : goal.returns-clause-fit
returns-clause-fit c = λ octets before after message are is. message_fits octets before message after are is.0

pub returns-clause-all : goal.returns-clause-all
returns-clause-all c = λ before messages is are. messages_fit before messages is are
