use Rattle.std.proofs.Common.{refl}
use Rattle.flow_codec.specs.Stream.{progress}
use Rattle.flow_report.proofs.Holding.{held_are, accepted_next, refused_by}
use Rattle.flow_report.proofs.dumping.next_message.Goals as goal

pub returns-in-Ok-clause-next : goal.returns-in-Ok-clause-next
returns-in-Ok-clause-next g c = λ fresh.
    let walked = c.in-Ok.ensures.found in
    let all = held_are c.in-Ok.header walked.0 c.clear.new.self c.walk_message.new.sink c.clear.ensures.records
    c.clear.ensures.octets (walked.2 c.clear.new.self) in
    accepted_next (progress c.args.reader.now (g.R.Read.remaining c.args.input.now))
    (progress c.advance.new.self (g.R.Read.remaining c.advance.new.input)) c.args.templates.now
    c.walk_message.new.templates c.in-Ok.header
    walked.0 c.message.result.now (record {
      header = c.in-Ok.header;
      held = c.walk_message.new.sink;
    }) c.in_ok-advance.field-0 c.in_ok-advance.ensures.step c.if-not-branch.false
    c.message.ensures.value refl all walked.1

pub returns-clause-next : goal.returns-clause-next
returns-clause-next g c = λ fresh.
    let fault = rw c.in-Err-Message.field-0-is at c.in-Err-Message.ensures.fault in
    rw c.of_message.ensures.value
    (refused_by (progress c.args.reader.now (g.R.Read.remaining c.args.input.now))
    (progress c.advance.new.self (g.R.Read.remaining c.advance.new.input)) c.args.templates.now
    c.walk_message.new.templates c.count.result
    c.message.result.now c.in_ok-advance.field-0 c.in_ok-advance.ensures.step c.if-not-branch.false
    c.message.ensures.value c.count.ensures.value c.in-Err-Message.fault fault)
