use Rattle.std.proofs.Common.{arith}
use Rattle.flow_rolled.proofs.Headers.{too_short, other_version}
use Rattle.flow_rolled.proofs.message_reading.header_of.Goals as goal

pub returns-then-octets-lt-HEADER_LENGTH-clause-none : goal.returns-then-octets-lt-HEADER_LENGTH-clause-none
returns-then-octets-lt-HEADER_LENGTH-clause-none c =
    λ w p more. too_short w p c.args.octets.now more c.if-octets-lt-HEADER_LENGTH.true

pub returns-then-version-ne-VERSION-clause-none : goal.returns-then-version-ne-VERSION-clause-none
returns-then-version-ne-VERSION-clause-none c =
    λ w p more. other_version w c.u16_of-version.result.0 p c.args.octets.now c.u16_of-version.result.1.now more
    (omega (arith, c.u16_of-version.type_inv)) c.if-version-ne-VERSION.true c.u16_of-version.ensures.is
