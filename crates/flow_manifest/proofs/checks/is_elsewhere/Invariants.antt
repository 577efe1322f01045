use Rattle.std.proofs.Common.{◌≢◌, ◌↔◌, length}
use Rattle.std.specs.List.{AllByRecursion}
use Rattle.flow_manifest.proofs.checks.is_elsewhere.Given as goal

abbrev pub invariant-loop-rest : goal.invariant-loop-rest
invariant-loop-rest l =
    AllByRecursion (λ other. other.file ≢ l.file) l.rest ↔ AllByRecursion (λ other. other.file ≢ l.file) l.entries

abbrev pub decreases-loop-rest : goal.decreases-loop-rest
decreases-loop-rest l = length l.rest
