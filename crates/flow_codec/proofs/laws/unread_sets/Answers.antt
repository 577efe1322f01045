use Rattle.flow_codec.proofs.UnreadLaws.{are_unread}
use Rattle.flow_codec.proofs.laws.unread_sets.Goals as goal

pub returns : goal.returns
returns c = λ octets before after m h. are_unread octets before after m h
