use Rattle.std.proofs.Common.{◌≡◌, List, drop, take}
use Rattle.flow_measure.specs.History.{Accepted, AreAcceptedFrom}
use Rattle.flow_segment.specs.Carry.{octets_of}
use Rattle.flow_snapshot.proofs.Finding.{AreBehind}
use Rattle.flow_snapshot.proofs.KeptFlows.{HasChosenFlows, Taken}
use Rattle.flow_snapshot.proofs.kept.collect_after.Given as goal

-- the messages so far were taken
abbrev pub invariant-loop-message : goal.invariant-loop-message
invariant-loop-message l = record {
  found : AreBehind l.fn.templates (take l.message-index l.messages) l.templates;
  taken : (list : List Accepted) → AreAcceptedFrom l.fn.templates list → octets_of list ≡ l.messages
      → Taken (HasChosenFlows l.from l.to l.fn.flows.items l.chosen) l.fn.templates list
      (drop l.message-index l.messages) l.templates;
}
