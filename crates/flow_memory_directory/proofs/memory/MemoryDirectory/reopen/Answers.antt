use Rattle.flow_directory.specs.Calls.{Opening}
use Rattle.flow_memory_directory.specs.Memory.{files_of}
use Rattle.flow_memory_directory.proofs.At.{keeps_none}
use Rattle.flow_memory_directory.proofs.Results.{opening_not}
use Rattle.flow_memory_directory.proofs.memory.MemoryDirectory.reopen.Goals as goal

pub returns-then-not-strikes : goal.returns-then-not-strikes
returns-then-not-strikes c = let same = keeps_none c.args.self.now c.args.index (λ was now. Opening was now) (opening_not (files_of c.args.self.now c.args.index)) in
    record { here = same.here; others = same.others; time = same.time }

pub returns : goal.returns
returns c = record {
  here = c.lose_node.ensures.here;
  others = c.lose_node.ensures.others;
  time = c.lose_node.ensures.time;
}
