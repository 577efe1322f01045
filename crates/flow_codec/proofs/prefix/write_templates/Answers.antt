use Rattle.flow_codec.proofs.Writing.{domain_put}
use Rattle.flow_codec.proofs.prefix.write_templates.Goals as goal

pub loop-domain-preserved : goal.loop-domain-preserved
loop-domain-preserved c =
    domain_put c.args.time c.due_of.result c.args.due.now c.args.templates.now c.loop-domain.domain-iterator
    c.next.new.self (c.in-Some.domain.now, c.in-Some.here.now) c.loop-domain.octets.items c.put_message.new.octets.items
    c.in-Some.ensures.steps c.due_of.ensures c.loop-domain.invariant c.in_ok-put_message.ensures
