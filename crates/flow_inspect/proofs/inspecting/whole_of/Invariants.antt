use Rattle.std.proofs.Common.{◌≡◌, take}
use Rattle.flow_inspect.specs.Reports.{whole_of}
use Rattle.flow_inspect.proofs.inspecting.whole_of.Given as goal

abbrev pub invariant-loop-i : goal.invariant-loop-i
invariant-loop-i l = l.whole ≡ whole_of (take l.i l.reports.entries)
