use Rattle.std.proofs.Common.{take}
use Rattle.std.specs.List.{AllByRecursion}
use Rattle.std.specs.Io.KnownBytes.{Appends}
use Rattle.flow_codec.specs.Cutting.{IsCutOff}
use Rattle.flow_codec.specs.Message.{joined}
use Rattle.flow_export.proofs.exporting.write_some.Given as goal

-- the messages so far are written, and each is whole
abbrev pub invariant-loop-message : goal.invariant-loop-message
invariant-loop-message g l = record {
  written : Appends (g.W.Write.contents l.fn.output) (g.W.Write.contents l.output)
      (joined (take l.message-index l.chosen));
  whole : AllByRecursion IsCutOff (take l.message-index l.chosen);
}
