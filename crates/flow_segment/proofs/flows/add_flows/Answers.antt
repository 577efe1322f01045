use Rattle.flow_segment.specs.Segment.{part_octets}
use Rattle.flow_segment.proofs.Summed.{added, not_damaged, spent, width_kept}
use Rattle.flow_segment.proofs.flows.add_flows.Goals as goal

pub returns-in_err-time-clause-given : goal.returns-in_err-time-clause-given
returns-in_err-time-clause-given g c = λ h messages are.
    let S = g.S.SealedFile in
    let table = g.T.Adder.table in
    let part = c.args.part.now in
    not_damaged (part_octets part.prefix part.length (S.octets part.reader)) c.args.templates.now (S.number part.reader)
    part.prefix part.length part.messages messages c.in_err-time.field-0.0 (table c.args.adding.now.rows)
    (table c.walk_part.new.sink.rows) c.walk_part.new.templates c.from_residual.result c.from_residual.ensures.1 are
    (c.in_err-time.ensures.told h)

pub returns-then-adding-clause-given : goal.returns-then-adding-clause-given
returns-then-adding-clause-given g c = λ h messages are.
    let S = g.S.SealedFile in
    let part = c.args.part.now in
    spent g.T.Adder.table (part_octets part.prefix part.length (S.octets part.reader)) c.args.templates.now
    c.walk_part.new.templates part.messages c.args.adding.now c.walk_part.new.sink c.requires
    (c.in_ok-time.ensures.found h) messages are c.if-adding.true

pub returns-clause-width : goal.returns-clause-width
returns-clause-width g c =
    let x = c.in_ok-time.ensures.taken in
    width_kept g.T.Adder.table c.args.adding.now c.walk_part.new.sink x.0 c.requires x.1 c.if-adding.false

pub returns-clause-given : goal.returns-clause-given
returns-clause-given g c = λ h messages are.
    let S = g.S.SealedFile in
    let part = c.args.part.now in
    added g.T.Adder.table (part_octets part.prefix part.length (S.octets part.reader)) c.args.templates.now
    c.walk_part.new.templates part.messages c.args.adding.now c.walk_part.new.sink c.requires
    (c.in_ok-time.ensures.found h) messages are c.if-adding.false
