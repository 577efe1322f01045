use Rattle.std.proofs.Common.{◌≡◌, ◌++◌, take}
use Rattle.flow_report.specs.Lines.{octets_text}
use Rattle.flow_columns.proofs.value.push_octets.Given as goal

abbrev pub invariant-loop-octet : goal.invariant-loop-octet
invariant-loop-octet l = l.text.items ≡ l.initial.text.items ++ octets_text (take l.octet-index l.octets)
