use Rattle.std.proofs.Common.{◌≡◌, None, take}
use Rattle.flow_gate.specs.Steps.{slices}
use Rattle.flow_feed.specs.Given.{AreGivenSingly, HasTaken}
use Rattle.flow_feed.proofs.giving.take_singly.Given as goal

abbrev pub invariant-loop-message : goal.invariant-loop-message
invariant-loop-message g l = record {
  taken : HasTaken g.A.Appender.appends (AreGivenSingly (take l.count (slices l.messages))) l.fn.appender l.appender
      (take l.count (slices l.messages)) None;
  count : l.count ≡ l.message-index;
}
