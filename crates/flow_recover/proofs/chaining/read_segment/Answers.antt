use Rattle.std.proofs.Common.{◌≡◌, ◌≢◌}
use Rattle.flow_disk.proofs.Results.{passed_on}
use Rattle.flow_manifest.specs.declared.error.OpenError.TheVariants.{Fault, OutOfMemory}
use Rattle.flow_recover.proofs.chaining.read_segment.Goals as goal

pub returns-clause-found : goal.returns-clause-found
returns-clause-found c = c.in_ok-take_active.ensures.found

pub returns-in_err-take_active-clause-refused : goal.returns-in_err-take_active-clause-refused
returns-in_err-take_active-clause-refused c whole called g =
    passed_on c.from_residual.result (c.in_err-take_active.field-0).0 (λ e. e ≡ OutOfMemory) c.from_residual.ensures.1
    (c.in_err-take_active.ensures.refused whole called g)

pub returns-in_err-take_active-clause-device : goal.returns-in_err-take_active-clause-device
returns-in_err-take_active-clause-device c =
    passed_on c.from_residual.result (c.in_err-take_active.field-0).0 (λ e. e ≢ Fault) c.from_residual.ensures.1
    c.in_err-take_active.ensures.device
