use Rattle.flow_manifest.proofs.OneInForce.{one_in_force, one_value, one_open_fault, never_in_force}
use Rattle.flow_manifest.proofs.laws.one_in_force.Goals as goal

pub returns-clause-one_manifest : goal.returns-clause-one_manifest
returns-clause-one_manifest c = one_in_force

pub returns-clause-one_value : goal.returns-clause-one_value
returns-clause-one_value c = one_value

pub returns-clause-one_fault : goal.returns-clause-one_fault
returns-clause-one_fault c = one_open_fault

pub returns-clause-never_both : goal.returns-clause-never_both
returns-clause-never_both c = never_in_force
