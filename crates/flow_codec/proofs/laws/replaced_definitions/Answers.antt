use Rattle.flow_codec.proofs.ReplacedLaws.{are_replaced}
use Rattle.flow_codec.proofs.laws.replaced_definitions.Goals as goal

pub returns : goal.returns
returns c = λ octets before after m h. are_replaced octets before after m h
