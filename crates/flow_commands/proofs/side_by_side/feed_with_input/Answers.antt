use Rattle.std.proofs.Common.{map}
use Rattle.flow_commands.proofs.AllFed.{by_kind, with_input}
use Rattle.flow_commands.proofs.side_by_side.feed_with_input.Goals as goal

pub returns-clause-fed : goal.returns-clause-fed
returns-clause-fed g c =
    with_input g.D.Disk g.H.File.Read.remaining g.J.Naming.opening c.args.plan (g.R.Read.remaining c.args.input.now)
    (map g.S.AsStr.text c.args.paths.now) c.args.place c.join-feds.result.0.items c.join-feds.result.1
    (rw c.kind-files.ensures at c.join-feds.ensures.first.1) c.requires.input
    (by_kind g.D.Disk g.J.Naming.opening c.args.plan (g.R.Read.remaining c.args.input.now) c.input_kind-kind.result
    c.join-feds.result.1 c.input_kind-kind.ensures c.join-feds.ensures.second)
