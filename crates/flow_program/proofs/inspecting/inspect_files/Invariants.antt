use Rattle.std.proofs.Common.{◌≡◌}
use Rattle.std.specs.Prelude.{map}
use Rattle.flow_program.proofs.OneByOne.{IsUnderWay}
use Rattle.flow_program.proofs.inspecting.inspect_files.Given as goal

abbrev pub invariant-loop-path : goal.invariant-loop-path
invariant-loop-path g l =
    IsUnderWay l.format (map (λ path. path.now) l.paths) l.path-index (g.R.Read.remaining l.fn.input)
    (g.R.Read.remaining l.input) (g.W.Write.contents l.fn.output) (g.W.Write.contents l.output)
    × (l.number ≡ l.path-index)
