use Rattle.std.proofs.Common.{rules, ◌≡◌, ◌∙◌, ap, arith, length, map, subst, sym}
use Rattle.std.proofs.lemmas.Option.{slice_get_within}
use Rattle.flow_commands.specs.Feeding.{unfed, AreFilesFed, IsFedAt}
use Rattle.flow_commands.proofs.AllFed.{each_fed, moved, written_back}
use Rattle.flow_commands.proofs.side_by_side.feed_each.Goals as goal

pub returns-clause-fed : goal.returns-clause-fed
returns-clause-fed g c =
    let octets = g.H.File.Read.remaining in
    let text = g.S.AsStr.text in
    let paths = c.args.paths.now in
    let old = c.as_mut_slice.result.now in
    let new = c.for_each_mut.new.s in
    let value = c.as_mut_slice.ensures.value in
    let same : length new ≡ length old = search rules in
    let back = written_back c.args.feds.len c.args.feds.items new (sym c.as_mut_slice.ensures.len ∙ ap length value)
    (same ∙ ap length value) in
    subst (AreFilesFed g.D.Disk octets g.J.Naming.opening c.args.kind (map text paths)) (sym back)
    (each_fed g.D.Disk octets g.J.Naming.opening c.args.kind text paths old new (value ∙ c.requires.none) same
    (λ k path there.
    let within = slice_get_within paths k path there in
    let room = c.requires.room in
    let long = ap length value in
    let at = (c.for_each_mut.ensures k unfed (omega (arith, within, room, long))).1 in
    moved (IsFedAt g.D.Disk octets g.J.Naming.opening c.args.kind (text path)) _ _ _ _ at.argument_is at.left (at.call path there)))
