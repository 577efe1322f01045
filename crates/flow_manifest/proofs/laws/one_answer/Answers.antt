use Rattle.std.proofs.Common.{refl}
use Rattle.flow_manifest.specs.Manifest.{format_2}
use Rattle.flow_manifest.proofs.Bodies.{one_manifest}
use Rattle.flow_manifest.proofs.Faults.{one_fault, never_both}
use Rattle.flow_manifest.proofs.laws.one_answer.Goals as goal

pub returns-clause-own_octets : goal.returns-clause-own_octets
returns-clause-own_octets c = λ m valid. record { valid = valid; format = format_2; said = tt; is = refl }

pub returns-clause-one_manifest : goal.returns-clause-one_manifest
returns-clause-one_manifest c = one_manifest

pub returns-clause-one_fault : goal.returns-clause-one_fault
returns-clause-one_fault c = one_fault

pub returns-clause-never_both : goal.returns-clause-never_both
returns-clause-never_both c = never_both
