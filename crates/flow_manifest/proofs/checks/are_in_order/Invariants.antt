use Rattle.std.proofs.Common.{◌↔◌, length}
use Rattle.flow_manifest.specs.Manifest.{IsInOrder}
use Rattle.flow_manifest.proofs.checks.are_in_order.Given as goal

abbrev pub invariant-loop-rest : goal.invariant-loop-rest
invariant-loop-rest l = IsInOrder l.rest ↔ IsInOrder l.entries

abbrev pub decreases-loop-rest : goal.decreases-loop-rest
decreases-loop-rest l = length l.rest
