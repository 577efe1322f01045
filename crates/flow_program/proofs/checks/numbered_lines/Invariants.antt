use Rattle.std.proofs.Common.{◌≡◌, ◌++◌, true, drop}
use Rattle.flow_program.specs.Checks.{numbered_lines}
use Rattle.flow_program.proofs.checks.numbered_lines.Given as goal

-- what is made so far, and what is still to be made, are all
abbrev pub invariant-loop-octet : goal.invariant-loop-octet
invariant-loop-octet l =
    l.lines.items ++ numbered_lines l.fn.number l.begins (drop l.octet-index l.fn.text)
    ≡ numbered_lines l.fn.number true l.fn.text
