use Rattle.std.proofs.Common.{take}
use Rattle.flow_export.specs.Export.{Writes}
use Rattle.flow_export.specs.Span.{AreSpanMessages}
use Rattle.flow_export.proofs.ChosenText.{IsWrittenSoFar}
use Rattle.flow_export.proofs.selecting.write_chosen.Given as goal

-- the messages so far were accepted, and those of them that are chosen are written
abbrev pub invariant-loop-index : goal.invariant-loop-index
invariant-loop-index g l =
    let old = g.W.Write.contents l.fn.output in
    let now = g.W.Write.contents l.output in
    record {
      written : IsWrittenSoFar l.fn.asked.span.from l.fn.asked.span.to l.fn.asked.skip (take l.index l.first)
          l.fn.templates l.templates old now;
      whole : Writes (AreSpanMessages l.fn.asked.span.from l.fn.asked.span.to) old now;
    }
