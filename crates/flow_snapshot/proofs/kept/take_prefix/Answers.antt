use Rattle.std.proofs.Common.{length, subst, sym}
use Rattle.flow_snapshot.proofs.Finding.{none_read, one_read, seen_twice, whole_prefix}
use Rattle.flow_snapshot.proofs.KeptFlows.{no_fault_left, none_left, nothing_left, restated_err, restated_step}
use Rattle.flow_snapshot.proofs.KeptFlows.{none_seen_left, some_left, still_restated, IsStillRestated}
use Rattle.flow_snapshot.proofs.kept.take_prefix.Goals as goal

pub returns-in_default-clause-given : goal.returns-in_default-clause-given
returns-in_default-clause-given c = λ all is.
    let some = some_left (length c.messages.rest.now) c.is_empty.result c.is_empty.ensures c.messages-test.true in
    no_fault_left c.messages.rest.now c.in_default.field-0 c.messages.templates all some
    (c.messages.invariant.given all is) c.in_default.ensures.fault

pub messages-preserved : goal.messages-preserved
messages-preserved c = record {
  found = one_read c.args.prefix.now c.messages.rest.now c.split_at.result.0.now c.split_at.result.1.now c.in-Ok.length
      c.messages.templates c.take_in.new.templates c.in_ok-take_in.field-0 c.messages.invariant.found
      c.in-Ok.ensures.found.1 c.split_at.ensures.front c.split_at.ensures.back c.if-branch.false
      c.in_ok-take_in.ensures.found;
  given = λ all is.
      let some = some_left (length c.messages.rest.now) c.is_empty.result c.is_empty.ensures c.messages-test.true in
      restated_step c.messages.rest.now c.split_at.result.0.now c.split_at.result.1.now c.in-Ok.length
      c.messages.templates c.take_in.new.templates all some c.in-Ok.ensures.found.1 c.split_at.ensures.front
      c.split_at.ensures.back (c.messages.invariant.given all is) c.in_ok-take_in.ensures.given;
}

pub returns-then-branch-clause-given : goal.returns-then-branch-clause-given
returns-then-branch-clause-given c = λ all is.
    let some = some_left (length c.messages.rest.now) c.is_empty.result c.is_empty.ensures c.messages-test.true in
    absurd (seen_twice c.in_ok-take_in.field-0 c.if-branch.true
    (none_seen_left c.messages.rest.now c.split_at.result.0.now c.in-Ok.length c.messages.templates all
    c.in_ok-take_in.field-0 some c.in-Ok.ensures.found.1 c.split_at.ensures.front (c.messages.invariant.given all is)
    c.in_ok-take_in.ensures.none))

pub returns-in_err-take_in-clause-given : goal.returns-in_err-take_in-clause-given
returns-in_err-take_in-clause-given c = λ all is.
    let some = some_left (length c.messages.rest.now) c.is_empty.result c.is_empty.ensures c.messages-test.true in
    restated_err _ c.messages.rest.now c.split_at.result.0.now c.in-Ok.length c.messages.templates all
    c.from_residual.result c.in_err-take_in.field-0.0 some c.in-Ok.ensures.found.1 c.split_at.ensures.front
    (c.messages.invariant.given all is) c.from_residual.ensures.1 c.in_err-take_in.ensures.given

pub messages-init : goal.messages-init
messages-init c = record {
  found = none_read c.args.prefix.now c.args.templates.now c.requires;
  given = λ all is. subst (λ templates. IsStillRestated c.args.prefix.now templates all) (sym c.requires)
      (still_restated c.args.prefix.now all is);
}

pub returns-clause-given : goal.returns-clause-given
returns-clause-given c = λ all is. none_left c.messages.rest.now c.messages.templates all
    (nothing_left (length c.messages.rest.now) c.is_empty.result c.is_empty.ensures c.messages-test.false)
    (c.messages.invariant.given all is)

pub returns-clause-found : goal.returns-clause-found
returns-clause-found c = whole_prefix c.args.prefix.now c.messages.rest.now c.messages.templates
    (nothing_left (length c.messages.rest.now) c.is_empty.result c.is_empty.ensures c.messages-test.false)
    c.messages.invariant.found
