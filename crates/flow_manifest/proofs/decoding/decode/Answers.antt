use Rattle.flow_manifest.specs.Manifest.{format_1, format_2}
use Rattle.flow_manifest.proofs.Decoded.{answer, answer_short, found_behind, known_format}
use Rattle.flow_manifest.proofs.decoding.decode.Goals as goal

pub returns-then-octets-lt-HEAD_LENGTH_1-clause-only : goal.returns-then-octets-lt-HEAD_LENGTH_1-clause-only
returns-then-octets-lt-HEAD_LENGTH_1-clause-only c =
    (answer_short format_1 c.u16_of-format.result.0 c.args.octets.now c.u16_of-format.result.1.now
    c.u16_of-format.ensures.is c.in-1.is c.if-octets-lt-HEAD_LENGTH_1.true).only

pub returns-then-octets-lt-HEAD_LENGTH_1-clause-refused : goal.returns-then-octets-lt-HEAD_LENGTH_1-clause-refused
returns-then-octets-lt-HEAD_LENGTH_1-clause-refused c =
    (answer_short format_1 c.u16_of-format.result.0 c.args.octets.now c.u16_of-format.result.1.now
    c.u16_of-format.ensures.is c.in-1.is c.if-octets-lt-HEAD_LENGTH_1.true).refused

pub returns-then-octets-lt-HEAD_LENGTH_2-clause-only : goal.returns-then-octets-lt-HEAD_LENGTH_2-clause-only
returns-then-octets-lt-HEAD_LENGTH_2-clause-only c =
    (answer_short format_2 c.u16_of-format.result.0 c.args.octets.now c.u16_of-format.result.1.now
    c.u16_of-format.ensures.is c.in-2.is c.if-octets-lt-HEAD_LENGTH_2.true).only

pub returns-then-octets-lt-HEAD_LENGTH_2-clause-refused : goal.returns-then-octets-lt-HEAD_LENGTH_2-clause-refused
returns-then-octets-lt-HEAD_LENGTH_2-clause-refused c =
    (answer_short format_2 c.u16_of-format.result.0 c.args.octets.now c.u16_of-format.result.1.now
    c.u16_of-format.ensures.is c.in-2.is c.if-octets-lt-HEAD_LENGTH_2.true).refused

pub returns-else-octets-lt-HEAD_LENGTH_1 : goal.returns-else-octets-lt-HEAD_LENGTH_1
returns-else-octets-lt-HEAD_LENGTH_1 c =
    let head = c.head_1_of.result.0 in
    let rest = c.head_1_of.result.1.now in
    let is = answer format_1 c.args.octets.now c.u16_of-format.result.1.now rest head c.manifest_of.result
    (known_format format_1 c.u16_of-format.result.0 c.args.octets.now c.u16_of-format.result.1.now
    c.u16_of-format.ensures.is c.in-1.is) c.head_1_of.ensures.is c.head_1_of.ensures.fits c.head_1_of.ensures.said
    (found_behind head rest c.manifest_of.result c.manifest_of.ensures.found c.manifest_of.ensures.fault) in
    record { found = is.found; only = is.only; fault = is.fault; refused = is.refused }

pub returns-else-octets-lt-HEAD_LENGTH_2 : goal.returns-else-octets-lt-HEAD_LENGTH_2
returns-else-octets-lt-HEAD_LENGTH_2 c =
    let head = c.head_2_of.result.0 in
    let rest = c.head_2_of.result.1.now in
    let is = answer format_2 c.args.octets.now c.u16_of-format.result.1.now rest head c.manifest_of-in-2.result
    (known_format format_2 c.u16_of-format.result.0 c.args.octets.now c.u16_of-format.result.1.now
    c.u16_of-format.ensures.is c.in-2.is) c.head_2_of.ensures.is c.head_2_of.ensures.fits tt
    (found_behind head rest c.manifest_of-in-2.result c.manifest_of-in-2.ensures.found
    c.manifest_of-in-2.ensures.fault) in
    record { found = is.found; only = is.only; fault = is.fault; refused = is.refused }
