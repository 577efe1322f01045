use Rattle.std.proofs.lemmas.List.{take_rest}
use Rattle.flow_codec.proofs.Dividing.{refused_by, walked_not_whole, walked_whole, walked_more}
use Rattle.flow_codec.proofs.file.split_file.Goals as goal

pub returns-in_err-length-clause-fault : goal.returns-in_err-length-clause-fault
returns-in_err-length-clause-fault c =
    let bad = rw (take_rest c.args.octets.now c.loop-at.at) at c.in_err-length.ensures.fault in
    refused_by c.args.octets.now c.loop-at.at c.loop-at.spans.items _ c.from_residual.result c.loop-at.invariant bad
    c.from_residual.ensures.1

pub returns-in_err-length-clause-only : goal.returns-in_err-length-clause-only
returns-in_err-length-clause-only c parts whole =
    let bad = rw (take_rest c.args.octets.now c.loop-at.at) at c.in_err-length.ensures.fault in
    absurd (walked_not_whole c.args.octets.now c.loop-at.at c.loop-at.spans.items _ c.loop-at.invariant bad parts whole)

pub loop-at-preserved : goal.loop-at-preserved
loop-at-preserved c =
    let found = rw (take_rest c.args.octets.now c.loop-at.at) at c.in_ok-length.ensures.found in
    let more = walked_more c.args.octets.now c.loop-at.at c.in_ok-length.length c.loop-at.spans.items
    c.loop-at.invariant found.0 found.1 in
    rw c.in_ok-push.ensures.items more

pub returns-clause-only : goal.returns-clause-only
returns-clause-only c parts whole =
    rw c.from_vec.ensures
    (walked_whole c.args.octets.now c.loop-at.at c.loop-at.spans.items c.loop-at.invariant c.loop-at-test.false parts
    whole)
