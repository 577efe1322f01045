use Rattle.std.proofs.Common.{◌↔◌, length}
use Rattle.std.specs.List.{AllByRecursion}
use Rattle.flow_manifest.specs.Manifest.{IsEntry}
use Rattle.flow_manifest.proofs.checks.are_entries.Given as goal

abbrev pub invariant-loop-rest : goal.invariant-loop-rest
invariant-loop-rest l =
    AllByRecursion (IsEntry l.limit l.next) l.rest ↔ AllByRecursion (IsEntry l.limit l.next) l.entries

abbrev pub decreases-loop-rest : goal.decreases-loop-rest
decreases-loop-rest l = length l.rest
