use Rattle.std.proofs.Common.{inr, refl}
use Rattle.flow_disk.proofs.Results.{passed_on}
use Rattle.flow_manifest.specs.declared.error.OpenError.TheVariants.{OutOfMemory}
use Rattle.flow_recover.specs.Opening.{IsDeviceOrMemory}
use Rattle.flow_recover.proofs.chaining.read_taken.Goals as goal

pub returns-clause-found : goal.returns-clause-found
returns-clause-found g c h =
    let is = c.in_ok-span.ensures.found h in
    (is.0, c.take_sealed.new.carry, is.1, is.2, is.3, is.4, c.in_ok-next.ensures.octets)

pub returns-in_err-span-clause-refused : goal.returns-in_err-span-clause-refused
returns-in_err-span-clause-refused g c h p whole at called own =
    passed_on c.from_residual.result (c.in_err-span.field-0).0 IsDeviceOrMemory c.from_residual.ensures.1
    (c.in_err-span.ensures.refused h p whole at called own)

pub returns-in_err-next-clause-refused : goal.returns-in_err-next-clause-refused
returns-in_err-next-clause-refused g c h p whole at called own =
    passed_on c.from_residual-in_err-next.result OutOfMemory IsDeviceOrMemory
    c.from_residual-in_err-next.ensures.1 (inr refl)
