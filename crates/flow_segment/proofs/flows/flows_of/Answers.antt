use Rattle.std.proofs.Common.{refl, Err}
use Rattle.flow_segment.specs.Segment.{part_octets}
use Rattle.flow_segment.proofs.Summed.{flows_found, flows_not_told, flows_same, part_told_of, prefix_told_of}
use Rattle.flow_segment.proofs.flows.flows_of.Goals as goal

pub returns-in_err-templates-clause-given : goal.returns-in_err-templates-clause-given
returns-in_err-templates-clause-given g c = λ h list are.
    let S = g.S.SealedFile in
    let part = c.args.part.now in
    let prefix = part_octets 0 part.prefix (S.octets part.reader) in
    let octets = part_octets part.prefix part.length (S.octets part.reader) in
    flows_not_told prefix octets (S.number part.reader) part.prefix part.length part.messages list
    c.in_err-templates.field-0.0 c.from_residual.result c.from_residual.ensures.1 are
    (prefix_told_of prefix octets (S.number part.reader) part.prefix part.length part.messages
    c.in_err-templates.field-0.0 (c.in_err-templates.ensures.told h))

pub returns-in-Err-clause-given : goal.returns-in-Err-clause-given
returns-in-Err-clause-given g c = λ h list are.
    let S = g.S.SealedFile in
    let part = c.args.part.now in
    let prefix = part_octets 0 part.prefix (S.octets part.reader) in
    let octets = part_octets part.prefix part.length (S.octets part.reader) in
    flows_not_told prefix octets (S.number part.reader) part.prefix part.length part.messages list
    c.in-Err.refused (Err c.in-Err.refused) refl are
    (part_told_of prefix octets c.in_ok-templates.templates (S.number part.reader) part.prefix part.length
    part.messages c.in-Err.refused (c.in_ok-templates.ensures.found h)
    (c.in-Err.ensures.told h))

pub returns-in-Ok-clause-found : goal.returns-in-Ok-clause-found
returns-in-Ok-clause-found g c = λ h.
    let S = g.S.SealedFile in
    let part = c.args.part.now in
    let prefix = part_octets 0 part.prefix (S.octets part.reader) in
    let octets = part_octets part.prefix part.length (S.octets part.reader) in
    flows_found prefix octets c.in_ok-templates.templates c.walk_part-walked.new.templates part.messages c.new-flows.result
    c.walk_part-walked.new.sink (c.in_ok-templates.ensures.found h) c.new-flows.ensures (c.in-Ok.ensures.found h)

pub returns-in-Ok-clause-given : goal.returns-in-Ok-clause-given
returns-in-Ok-clause-given g c = λ h list are.
    let S = g.S.SealedFile in
    let part = c.args.part.now in
    let prefix = part_octets 0 part.prefix (S.octets part.reader) in
    let octets = part_octets part.prefix part.length (S.octets part.reader) in
    flows_same prefix octets part.messages list c.walk_part-walked.new.sink.flows.items are
    (flows_found prefix octets c.in_ok-templates.templates c.walk_part-walked.new.templates part.messages c.new-flows.result
    c.walk_part-walked.new.sink (c.in_ok-templates.ensures.found h) c.new-flows.ensures (c.in-Ok.ensures.found h))
