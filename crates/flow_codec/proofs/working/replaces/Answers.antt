use Rattle.std.proofs.Common.{not, ap}
use Rattle.flow_codec.proofs.Alike.{same_is}
use Rattle.flow_codec.proofs.working.replaces.Goals as goal

pub returns-in-Some : goal.returns-in-Some
returns-in-Some c = rw (c.in-Define.is, ← c.find_in.ensures, c.in-Some.is)
    (ap not (same_is c.in-Some.other.now c.in-Define.definition c.is_same.result c.is_same.ensures))
