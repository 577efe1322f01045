use Rattle.flow_memory_directory.specs.Nodes.{AllSoFar, NodeMisses}
use Rattle.flow_memory_directory.proofs.all.miss_all.Given as goal

abbrev pub invariant-nodes : goal.invariant-nodes
invariant-nodes l = AllSoFar NodeMisses l.fn.nodes.items l.nodes.items l.place
