use Rattle.std.proofs.Common.{sym}
use Rattle.std.proofs.lemmas.List.{take_rest}
use Rattle.flow_manifest.proofs.Openings.{told_fault}
use Rattle.flow_manifest.proofs.reading.manifest_in.Goals as goal

pub returns-in-Err-clause-fault : goal.returns-in-Err-clause-fault
returns-in-Err-clause-fault c =
    told_fault c.args.slot c.args.octets.now _ c.in-Err.fault c.told_in.result
    (sym (take_rest c.args.octets.now 1)) c.if-gate.false c.told_in.ensures.is c.in-Err.ensures.fault
