use Rattle.std.proofs.Common.{ap}
use Rattle.flow_segment.specs.declared.sinks.Chosen.{Chosen}
use Rattle.flow_segment.specs.Segment.{part_octets}
use Rattle.flow_segment.proofs.Summed.{collected, not_collected}
use Rattle.flow_segment.proofs.flows.collect_flows.Goals as goal

pub returns-in_err-walk_part-clause-given : goal.returns-in_err-walk_part-clause-given
returns-in_err-walk_part-clause-given g c = λ h messages are.
    let S = g.S.SealedFile in
    let part = c.args.part.now in
    not_collected (part_octets part.prefix part.length (S.octets part.reader)) c.args.templates.now
    (S.number part.reader) part.prefix part.length part.messages c.args.from c.args.to messages
    c.in_err-walk_part.field-0.0 c.args.flows.now.items c.replace.new.dest.items c.walk_part.new.templates
    c.from_residual.result c.from_residual.ensures.1 are (c.in_err-walk_part.ensures.told h)

pub returns-clause-given : goal.returns-clause-given
returns-clause-given g c = λ h messages are.
    let S = g.S.SealedFile in
    let part = c.args.part.now in
    let old : Chosen = record { flows = c.replace.result; from = c.args.from; to = c.args.to } in
    collected (part_octets part.prefix part.length (S.octets part.reader)) c.args.templates.now
    c.walk_part.new.templates part.messages old c.walk_part.new.sink c.args.flows.now.items
    (ap (λ v. v.items) c.replace.ensures.value) (c.in_ok-walk_part.ensures.found h) messages are
