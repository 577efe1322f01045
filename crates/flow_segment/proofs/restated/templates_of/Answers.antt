use Rattle.std.proofs.Common.{Err, Ok}
use Rattle.flow_segment.specs.Segment.{part_octets}
use Rattle.flow_segment.proofs.Uniqueness.{templates_given}
use Rattle.flow_segment.proofs.restated.templates_of.Goals as goal

pub returns-in-Ok-clause-given : goal.returns-in-Ok-clause-given
returns-in-Ok-clause-given g c = λ h all are.
    let S = g.S.SealedFile in
    let part = c.args.part.now in
    templates_given (part_octets 0 part.prefix (S.octets part.reader))
    (S.number part.reader) all (Ok c.read_prefix.new.templates) are (c.in-Ok.ensures.found h) tt

pub returns-in-Err-clause-given : goal.returns-in-Err-clause-given
returns-in-Err-clause-given g c = λ h all are.
    let S = g.S.SealedFile in
    let part = c.args.part.now in
    templates_given (part_octets 0 part.prefix (S.octets part.reader))
    (S.number part.reader) all (Err c.in-Err.refused) are tt (c.in-Err.ensures.told h)
