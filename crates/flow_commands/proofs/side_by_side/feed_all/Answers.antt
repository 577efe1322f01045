use Rattle.std.proofs.Common.{◌≡◌, map, subst, sym, Some, None}
use Rattle.flow_commands.specs.Feeding.{octets_given, AreFed}
use Rattle.flow_commands.proofs.AllFed.{without_given, without_input}
use Rattle.flow_commands.proofs.side_by_side.feed_all.Goals as goal
use Rattle.flow_commands.proofs.side_by_side.feed_all.Goals.{in-None-place_of_input, in-Some-place_of_input}

pub returns-in-None-clause-fed : goal.returns-in-None-clause-fed
returns-in-None-clause-fed g c =
    let octets = g.H.File.Read.remaining in
    let paths = map g.S.AsStr.text c.args.paths.now in
    let feds = c.feed_each.result.items in
    let is : c.args.input ≡ None = c.in-None.is in
    subst (λ input. AreFed g.D.Disk octets g.J.Naming.opening c.args.plan (octets_given g.R.Read.remaining input) paths feds) (sym is)
    (without_given g.D.Disk octets g.J.Naming.opening c.args.plan paths feds (rw c.kind-files.ensures at c.feed_each.ensures.fed))

pub returns-after-place_of_input-clause-fed : goal.returns-after-place_of_input-clause-fed
returns-after-place_of_input-clause-fed g c =
    let octets = g.H.File.Read.remaining in
    let known = g.R.Read.remaining in
    let paths = map g.S.AsStr.text c.args.paths.now in
    let is : c.args.input ≡ Some c.in-Some.input = c.in-Some.is in
    subst (λ input. AreFed g.D.Disk octets g.J.Naming.opening c.args.plan (octets_given known input) paths
    c.match-place_of_input.result.items) (sym is)
    (elim c.match-place_of_input.branch [
      | in-None-place_of_input w ↦ subst (λ feds. AreFed g.D.Disk octets g.J.Naming.opening c.args.plan
          (Some (known c.in-Some.input.now)) paths feds.items) (sym w.result-is)
          (without_input g.D.Disk octets g.J.Naming.opening c.args.plan (Some (known c.in-Some.input.now)) paths
          w.feed_each-in-None-place_of_input.result.items (rw c.kind-files.ensures at w.feed_each-in-None-place_of_input.ensures.fed)
          (λ some. w.in-None-place_of_input.ensures.none))
      | in-Some-place_of_input w ↦ subst (λ feds. AreFed g.D.Disk octets g.J.Naming.opening c.args.plan
          (Some (known c.in-Some.input.now)) paths feds.items) (sym w.result-is) w.feed_with_input.ensures.fed
    ])
