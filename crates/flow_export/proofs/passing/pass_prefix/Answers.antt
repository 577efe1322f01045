use Rattle.std.proofs.Common.{ap, length, subst, sym, arith}
use Rattle.std.proofs.lemmas.List.{length-drop}
use Rattle.flow_segment.specs.Carry.{Carry}
use Rattle.flow_snapshot.proofs.KeptFlows.{no_fault_left, none_left, nothing_left, restated_err, restated_step}
use Rattle.flow_snapshot.proofs.KeptFlows.{some_left, still_restated, IsStillRestated}
use Rattle.flow_export.proofs.Passed.{none_passed, one_passed, whole_passed}
use Rattle.flow_export.proofs.passing.pass_prefix.Goals as goal

pub returns-in_default-clause-given : goal.returns-in_default-clause-given
returns-in_default-clause-given c = λ all is.
    let some = some_left (length c.messages.rest.now) c.is_empty.result c.is_empty.ensures c.messages-test.true in
    no_fault_left c.messages.rest.now c.in_default.field-0 c.messages.carry.templates all some
    (c.messages.invariant.given all is) c.in_default.ensures.fault

pub messages-preserved : goal.messages-preserved
messages-preserved c = record {
  found = one_passed c.args.prefix.now c.messages.rest.now c.split_at.result.0.now c.split_at.result.1.now c.in-Ok.length
      c.messages.carry c.take_in.new.carry c.messages.invariant.found c.in-Ok.ensures.found.1 c.split_at.ensures.front
      c.split_at.ensures.back c.in_ok-take_in.ensures.taken;
  given = λ all is.
      let some = some_left (length c.messages.rest.now) c.is_empty.result c.is_empty.ensures c.messages-test.true in
      restated_step c.messages.rest.now c.split_at.result.0.now c.split_at.result.1.now c.in-Ok.length
      c.messages.carry.templates c.take_in.new.carry.templates all some c.in-Ok.ensures.found.1 c.split_at.ensures.front
      c.split_at.ensures.back (c.messages.invariant.given all is)
      (λ a octets accepted. ap (λ (x : Carry). x.templates) (c.in_ok-take_in.ensures.given a octets accepted));
  within =
      (let size = ap length c.split_at.ensures.back in
      let left = length-drop c.in-Ok.length c.messages.rest.now in
      let most = c.messages.invariant.within in
      omega (arith, size, left, most));
}

pub returns-in_err-take_in-clause-given : goal.returns-in_err-take_in-clause-given
returns-in_err-take_in-clause-given c = λ all is.
    let some = some_left (length c.messages.rest.now) c.is_empty.result c.is_empty.ensures c.messages-test.true in
    restated_err _ c.messages.rest.now c.split_at.result.0.now c.in-Ok.length c.messages.carry.templates all
    c.from_residual.result c.in_err-take_in.field-0.0 some c.in-Ok.ensures.found.1 c.split_at.ensures.front
    (c.messages.invariant.given all is) c.from_residual.ensures.1 c.in_err-take_in.ensures.given

pub messages-init : goal.messages-init
messages-init c = record {
  found = none_passed c.args.prefix.now c.args.carry.now c.requires;
  given = λ all is. subst (λ (x : Carry). IsStillRestated c.args.prefix.now x.templates all) (sym c.requires)
      (still_restated c.args.prefix.now all is);
  within = omega arith;
}

pub returns-clause-given : goal.returns-clause-given
returns-clause-given c = λ all is. none_left c.messages.rest.now c.messages.carry.templates all
    (nothing_left (length c.messages.rest.now) c.is_empty.result c.is_empty.ensures c.messages-test.false)
    (c.messages.invariant.given all is)

pub returns-clause-found : goal.returns-clause-found
returns-clause-found c = whole_passed c.args.prefix.now c.messages.rest.now c.messages.carry
    (nothing_left (length c.messages.rest.now) c.is_empty.result c.is_empty.ensures c.messages-test.false)
    c.messages.invariant.found
