use Rattle.std.proofs.Common.{Option, None, Some, arith}
use Rattle.std.specs.Prelude.{IfNone}
use Rattle.flow_rolled.proofs.PartOctets.{no_row}
use Rattle.flow_rolled.proofs.row_reading.take_row.Goals as goal

if_none : {X : Type 0} (o : Option X) (P : Type 0) → P → IfNone o P
if_none None P p = p
if_none (Some x) P p = tt

pub returns-in_err-start-clause-none : goal.returns-in_err-start-clause-none
returns-in_err-start-clause-none c =
    if_none c.from_residual.result _
    (no_row c.args.width c.args.domain c.args.with c.args.octets.now c.u64_of-first.result.1.now
    c.u64_of-last.result.1.now c.u64_of-first.result.0 c.u64_of-last.result.0 c.ranges.width.fits
    (omega (arith, c.u64_of-first.type_inv))
    (omega (arith, c.u64_of-last.type_inv)) c.u64_of-first.ensures.is c.u64_of-last.ensures.is
    c.in_err-start.ensures.none)
