use Rattle.std.proofs.Common.{rules, ◌≡◌, ◌≢◌, codes}
use Rattle.flow_commands.proofs.AllFed.{input_here, none_at_all, none_more}
use Rattle.flow_commands.proofs.side_by_side.place_of_input.Goals as goal

pub returns-then-eq-clause-input : goal.returns-then-eq-clause-input
returns-then-eq-clause-input g c =
    let is : g.S.AsStr.text c.index-paths-i.result ≡ codes "-" = search rules in
    input_here g.S.AsStr.text c.args.paths.now c.loop-i.i c.index-paths-i.result c.loop-i-test.true
    c.index-paths-i.is is c.loop-i.invariant

pub loop-i-preserved : goal.loop-i-preserved
loop-i-preserved g c =
    let other : g.S.AsStr.text c.index-paths-i.result ≢ codes "-" = search rules in
    none_more g.S.AsStr.text c.args.paths.now c.loop-i.i c.index-paths-i.result c.loop-i-test.true
    c.index-paths-i.is other c.loop-i.invariant

pub returns-clause-none : goal.returns-clause-none
returns-clause-none g c = none_at_all g.S.AsStr.text c.args.paths.now c.loop-i.i c.loop-i-test.false c.loop-i.invariant
