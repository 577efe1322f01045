use Rattle.std.proofs.Common.{◌↔◌, length}
use Rattle.flow_manifest.specs.Manifest.{HaveOwnFiles}
use Rattle.flow_manifest.proofs.checks.have_own_files.Given as goal

abbrev pub invariant-loop-rest : goal.invariant-loop-rest
invariant-loop-rest l = HaveOwnFiles l.rest ↔ HaveOwnFiles l.entries

abbrev pub decreases-loop-rest : goal.decreases-loop-rest
decreases-loop-rest l = length l.rest
