use Rattle.std.proofs.Common.{◌≡◌, ◌<◌, arith, length, refl, rules}
use Rattle.std.proofs.lemmas.Option.{slice_get-get_or}
use Rattle.flow_shell.proofs.Table.{all_replaced, replaced_one}
use Rattle.flow_shell.proofs.board.Places.replace.Goals as goal

pub loop-place-preserved : goal.loop-place-preserved
loop-place-preserved c =
    let i = c.loop-place.place-index in
    let items = c.loop-place.place-items in
    let old : length c.args.self.now.places ≡ 8 = search rules in
    let lt : i < length items = omega (arith, c.loop-place.invariant.size) in
    replaced_one i c.args.from c.args.to c.args.self.now.places items _ c.replaced.result _ c.loop-place.invariant lt
    (slice_get-get_or items i _ lt) c.replaced.ensures.same c.replaced.ensures.other (search rules)

pub returns : goal.returns
returns c = let old : length c.args.self.now.places ≡ 8 = search rules in
    (all_replaced c.loop-place.place-index _ _ _ _ c.loop-place.invariant (omega arith), refl)
