use Rattle.std.proofs.Common.{◌+◌, drop, subst}
use Rattle.std.specs.Prelude.{⊤}
use Rattle.std.proofs.lemmas.List.{take_all}
use Rattle.flow_segment.specs.Batch.{AreTaken}
use Rattle.flow_segment.proofs.Batches.{none_taken}
use Rattle.flow_snapshot.proofs.KeptFlows.{next_item}
use Rattle.flow_export.proofs.Passed.{next_blameless, one_taken}
use Rattle.flow_export.proofs.passing.take_all.Goals as goal

pub returns-in_err-take_in-clause-given : goal.returns-in_err-take_in-clause-given
returns-in_err-take_in-clause-given c = λ list accepted is.
    let os = c.args.messages.now in
    let i = c.loop-message.message-index in
    let here = next_item os i c.message-item.result c.as_slice-octets.result.now c.loop-message-test.true
    c.message-item.is c.as_slice-octets.ensures in
    next_blameless c.args.carry.now c.loop-message.carry os (drop (i + 1) os) i c.as_slice-octets.result.now list (λ _. ⊤)
    c.from_residual.result c.in_err-take_in.field-0.0 here c.loop-message.invariant.found accepted is
    c.from_residual.ensures.1 c.in_err-take_in.ensures.given

pub loop-message-init : goal.loop-message-init
loop-message-init c = record { found = none_taken c.args.carry.now }

pub loop-message-preserved : goal.loop-message-preserved
loop-message-preserved c = record {
  found = one_taken c.args.carry.now c.loop-message.carry c.take_in.new.carry c.args.messages.now
      c.loop-message.message-index c.message-item.result c.as_slice-octets.result.now c.loop-message-test.true
      c.message-item.is c.as_slice-octets.ensures c.loop-message.invariant.found c.in_ok-take_in.ensures.taken;
}

pub returns-clause-found : goal.returns-clause-found
returns-clause-found c =
    subst (λ os. AreTaken os c.args.carry.now c.loop-message.carry)
    (take_all c.loop-message.message-index c.args.messages.now c.loop-message-test.false)
    c.loop-message.invariant.found
