use Rattle.flow_segment.specs.Segment.{part_octets}
use Rattle.flow_segment.proofs.Collecting.{given_from}
use Rattle.flow_segment.proofs.sealed.messages_of.Goals as goal

pub returns-clause-given : goal.returns-clause-given
returns-clause-given g c = λ h list are.
    let S = g.S.SealedFile in
    let part = c.args.part.now in
    given_from (part_octets part.prefix part.length (S.octets part.reader)) (S.number part.reader) part.prefix
    part.length part.messages list c.read_all.result are (c.read_all.ensures.found h) (c.read_all.ensures.told h)
