use Rattle.std.proofs.Common.{ap, arith}
use Rattle.flow_codec.specs.Raw.{RawMessage}
use Rattle.flow_codec.specs.Working.{current}
use Rattle.flow_codec.proofs.MessageLaws.{message_takes}
use Rattle.flow_codec.proofs.Walking.{same_message, no_fault, has_fault}
use Rattle.flow_codec.proofs.walk.judge_message.Goals as goal

pub returns-in-Ok-clause-found : goal.returns-in-Ok-clause-found
returns-in-Ok-clause-found c =
    let given = c.in-Ok.ensures.exact in
    let after = current c.in-Ok.walked.header.domain c.args.templates.now c.divided.new.changed in (
      given.0,
      after,
      message_takes c.args.templates.now c.args.octets.now (
        record {
          header = c.in-Ok.walked.header;
          records =
              given.0;
        },
        after,
      ) (λ i. omega (arith, c.type_inv.octets i)) given.1,
    )

pub returns-in-Ok-clause-only : goal.returns-in-Ok-clause-only
returns-in-Ok-clause-only c = λ m after h.
    let given = c.in-Ok.ensures.exact in
    let made : RawMessage = record { header = c.in-Ok.walked.header; records = given.0 } in
    let same = same_message c.args.templates.now c.args.octets.now made m
    (current c.in-Ok.walked.header.domain c.args.templates.now c.divided.new.changed) after given.1 h in
    ap (λ (x : RawMessage). x.header) same.0

pub returns-in-Err-Message-clause-only : goal.returns-in-Err-Message-clause-only
returns-in-Err-Message-clause-only c = λ m after h.
    no_fault c.args.templates.now c.args.octets.now m after c.in-Err-Message.fault
    (rw c.in-Err-Message.field-0-is at c.in-Err-Message.ensures.exact) h

pub returns-in-Err-Message-clause-fault : goal.returns-in-Err-Message-clause-fault
returns-in-Err-Message-clause-fault c =
    has_fault c.args.templates.now c.args.octets.now c.in-Err-Message.fault
    (λ i. omega (arith, c.type_inv.octets i)) (rw c.in-Err-Message.field-0-is at c.in-Err-Message.ensures.exact)
