use Rattle.std.proofs.Common.{length, refl, take}
use Rattle.flow_disk.proofs.Results.{on_ok_by}
use Rattle.flow_snapshot.proofs.KeptFlows.{answered_err}
use Rattle.flow_export.proofs.Passed.{first_accepted, passes}
use Rattle.flow_export.proofs.passing.pass.Goals as goal

pub returns-in_err-pass_prefix-clause-given : goal.returns-in_err-pass_prefix-clause-given
returns-in_err-pass_prefix-clause-given c = λ before list restated accepted octets.
    answered_err _ c.from_residual.result (c.in_err-pass_prefix.field-0).0 c.from_residual.ensures.1
    (c.in_err-pass_prefix.ensures.given before restated)

pub returns-clause-given : goal.returns-clause-given
returns-clause-given c = λ before list restated accepted octets.
    let n = c.min.result in
    let first = first_accepted c.pass_prefix.new.carry before list c.args.messages.now n
    (c.in_ok-pass_prefix.ensures.given before restated) accepted octets in
    c.take_all.ensures.given (take n list) first.0 first.1

pub returns-clause-found : goal.returns-clause-found
returns-clause-found c =
    on_ok_by c.take_all.result _ _ (passes c.args.prefix.now c.args.messages.now c.args.count
    (length c.args.messages.now) c.min.result c.pass_prefix.new.carry c.take_all.new.carry refl c.min.ensures
    c.in_ok-pass_prefix.ensures.found) c.take_all.ensures.found
