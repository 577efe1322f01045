use Rattle.std.proofs.Common.{◌-◌, ◌^◌}
use Rattle.flow_codec.specs.Stream.{progress}
use Rattle.flow_inspect.proofs.Following.{HasInspected}
use Rattle.flow_inspect.proofs.inspecting.add_messages.Given as goal

abbrev pub invariant-messages : goal.invariant-messages
invariant-messages g l = HasInspected (g.R.Read.remaining l.initial.input)
    (progress l.reader (g.R.Read.remaining l.input)) l.templates l.reports.entries

abbrev pub decreases-messages : goal.decreases-messages
decreases-messages g l = 2 ^ 48 - l.reader.count
