use Rattle.std.proofs.Common.{◌≡◌, ◌++◌}
use Rattle.std.specs.Prelude.{replicate}
use Rattle.flow_archive.specs.declared.event.Event.TheVariants.{Retire}
use Rattle.flow_turns.proofs.job.push_removals.Given as goal

abbrev pub invariant-loop : goal.invariant-loop
invariant-loop l = l.events.items ≡ l.fn.events.items ++ replicate l.counter Retire
