use Rattle.std.proofs.Common.{arith}
use Rattle.flow_memory_directory.specs.Nodes.{NodeEnters}
use Rattle.flow_memory_directory.proofs.AllFiles.{all_begin, all_more, all_end}
use Rattle.flow_memory_directory.proofs.all.enter_all.Goals as goal

pub nodes-init : goal.nodes-init
nodes-init c = all_begin NodeEnters c.args.nodes.now.items

pub nodes-preserved : goal.nodes-preserved
nodes-preserved c = all_more NodeEnters c.args.nodes.now.items c.nodes.nodes.items c.nodes.place c.index_mut.result.now
    c.enter.new.self c.nodes.invariant
    (omega (
      arith,
      c.nodes.invariant.long,
      c.nodes-test.true,
      c.nodes.auto.place-end,
      c.len-place-end.ensures,
      c.args.nodes.now.ok.0,
      c.nodes.nodes.ok.0,
    )) c.index_mut.ensures.value c.enter.ensures

pub returns : goal.returns
returns c = all_end NodeEnters c.args.nodes.now.items c.nodes.nodes.items c.nodes.place c.nodes.invariant
    (omega (arith, c.nodes-test.false, c.nodes.auto.place-end, c.len-place-end.ensures, c.args.nodes.now.ok.0))
