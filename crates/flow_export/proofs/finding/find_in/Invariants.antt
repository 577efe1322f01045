use Rattle.std.proofs.Common.{take}
use Rattle.flow_export.specs.Span.{FindsIn}
use Rattle.flow_export.proofs.finding.find_in.Given as goal

-- what is found of the messages so far
abbrev pub invariant-loop-index : goal.invariant-loop-index
invariant-loop-index l = record {
  found : FindsIn l.fn.span.from l.fn.span.to (take l.index l.fn.messages) l.fn.templates l.templates l.found;
}
