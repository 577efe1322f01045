use Rattle.std.proofs.Common.{arith}
use Rattle.flow_codec.proofs.Walking.{is_found, is_walk, is_stopped}
use Rattle.flow_codec.proofs.walk.walk_sets.Goals as goal

pub returns-clause-found : goal.returns-clause-found
returns-clause-found g c =
    is_found g.S.RecordSink.holds g.S.RecordSink.refuses c.args.sink.now c.message_of.new.sink c.args.octets.now
    c.args.templates.now c.message_of.new.templates c.message_of.result
    (λ i. omega (arith, c.type_inv.octets i)) c.message_of.ensures.exact

pub returns-clause-only : goal.returns-clause-only
returns-clause-only g c =
    λ m after h. is_walk g.S.RecordSink.holds g.S.RecordSink.refuses c.args.sink.now c.message_of.new.sink
    c.args.octets.now c.args.templates.now c.message_of.new.templates c.message_of.result m after
    c.message_of.ensures.exact h

pub returns-clause-fault : goal.returns-clause-fault
returns-clause-fault g c =
    is_stopped g.S.RecordSink.holds g.S.RecordSink.refuses c.args.sink.now c.message_of.new.sink c.args.octets.now
    c.args.templates.now c.message_of.new.templates c.message_of.result
    (λ i. omega (arith, c.type_inv.octets i)) c.message_of.ensures.exact
