use Rattle.std.proofs.Common.{List, take}
use Rattle.flow_headline.specs.Heard.{AreHeard, HasHeard, Heard}
use Rattle.flow_headline.proofs.hearing.run_heard.Given as goal

abbrev pub invariant-events : goal.invariant-events
invariant-events g l = record {
  run : (heard : List (Heard _ _)) × AreHeard g.D.Disk l.fn.archive (take l.event-index l.events) heard l.archive
      × HasHeard g.L.Listener.hears l.fn.listener heard l.listener;
}
