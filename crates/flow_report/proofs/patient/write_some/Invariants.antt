use Rattle.std.specs.Io.KnownBytes.{Keeps}
use Rattle.flow_report.proofs.patient.write_some.Given as goal

abbrev pub invariant-loop : goal.invariant-loop
invariant-loop g l = Keeps (g.W.Write.contents l.initial.output) (g.W.Write.contents l.output)
