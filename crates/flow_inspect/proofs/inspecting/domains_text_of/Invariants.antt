use Rattle.std.proofs.Common.{◌≡◌, take}
use Rattle.flow_inspect.specs.Reports.{domains_text}
use Rattle.flow_inspect.proofs.inspecting.domains_text_of.Given as goal

abbrev pub invariant-loop-i : goal.invariant-loop-i
invariant-loop-i l = l.text.items ≡ domains_text l.format l.file (take l.i l.reports.entries)
