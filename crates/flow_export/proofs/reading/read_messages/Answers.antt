use Rattle.std.proofs.Common.{◌≡◌, arith, length}
use Rattle.flow_segment.specs.Segment.{part_octets}
use Rattle.flow_snapshot.proofs.KeptFlows.{answered_err}
use Rattle.flow_export.proofs.ReadWhole.{cut_blameless, found_cut, same_count, some_messages}
use Rattle.flow_export.proofs.reading.read_messages.Goals as goal

pub returns-clause-found : goal.returns-clause-found
returns-clause-found g c = λ honest.
    let part = c.args.part.now in
    found_cut part.messages (part_octets part.prefix part.length (g.S.SealedFile.octets part.reader)) _ _
    c.in_ok-shared_messages.ensures (c.in_ok-messages.ensures.found honest)

pub returns-in_err-messages-clause-given : goal.returns-in_err-messages-clause-given
returns-in_err-messages-clause-given g c = λ honest each.
    let part = c.args.part.now in
    answered_err _ c.from_residual.result (c.in_err-messages.field-0).0 c.from_residual.ensures.1
    (cut_blameless part.messages (part_octets part.prefix part.length (g.S.SealedFile.octets part.reader))
    (c.in_err-messages.field-0).0 (some_messages part.messages c.if-part-eq0.false) each
    (c.in_err-messages.ensures.given honest))

pub returns-clause-count : goal.returns-clause-count
returns-clause-count g c =
    let part = c.args.part.now in
    let read = c.in_ok-messages.messages in
    let many : c.len.result ≡ length read.items = omega (arith, c.len.ensures, read.ok.0) in
    same_count part.messages c.len.result (part_octets part.prefix part.length (g.S.SealedFile.octets part.reader)) _
    read.items c.in_ok-shared_messages.ensures many c.if-len-part.false
