use Rattle.flow_memory_directory.specs.Nodes.{AllSoFar, NodeEnters}
use Rattle.flow_memory_directory.proofs.all.enter_all.Given as goal

abbrev pub invariant-nodes : goal.invariant-nodes
invariant-nodes l = AllSoFar NodeEnters l.fn.nodes.items l.nodes.items l.place
