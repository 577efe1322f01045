use Rattle.std.proofs.Common.{refl}
use Rattle.std.proofs.Common.{true}
use Rattle.flow_memory_directory.specs.Bound.{bound}
use Rattle.flow_memory_directory.specs.Memory.{deeds_of}
use Rattle.flow_memory_directory.proofs.At.{sound_at, still_all, keeps_at}
use Rattle.flow_memory_directory.proofs.At.{sound_either, on_ok}
use Rattle.flow_memory_directory.proofs.Changing.{sound_same}
use Rattle.flow_memory_directory.proofs.Names.{lending}
use Rattle.flow_memory_directory.proofs.memory.MemoryDirectory.lend_node.Goals as goal

pub invariant_of-self : goal.invariant_of-self
invariant_of-self c = record {
  sound = still_all c.args.self.now c.in_ok-index.index c.args.file c.index_mut.result.now c.in_ok-index.ensures.found.0 c.in_ok-index.ensures.found.1 c.index_mut.ensures.value c.lend.new.self
      (sound_either (bound (deeds_of c.args.self.now) c.args.file) c.index_mut.result.now c.lend.new.self c.lend.result (sound_at c.args.self.now c.in_ok-index.index c.args.file c.index_mut.result.now c.in_ok-index.ensures.found.0 c.in_ok-index.ensures.found.1 c.index_mut.ensures.value)
      (on_ok c.lend.result (λ done. (sound_same (bound (deeds_of c.args.self.now) c.args.file) c.index_mut.result.now c.lend.new.self (sound_at c.args.self.now c.in_ok-index.index c.args.file c.index_mut.result.now c.in_ok-index.ensures.found.0 c.in_ok-index.ensures.found.1 c.index_mut.ensures.value) (done.octets_are) done.device_is)) c.lend.ensures.done)
      c.lend.ensures.failed);
}

pub returns-clause-done : goal.returns-clause-done
returns-clause-done c = keeps_at c.args.self.now c.in_ok-index.index c.args.file c.index_mut.result.now c.in_ok-index.ensures.found.0 c.in_ok-index.ensures.found.1 c.index_mut.ensures.value c.lend.new.self
    (sound_same (bound (deeds_of c.args.self.now) c.args.file) c.index_mut.result.now c.lend.new.self (sound_at c.args.self.now c.in_ok-index.index c.args.file c.index_mut.result.now c.in_ok-index.ensures.found.0 c.in_ok-index.ensures.found.1 c.index_mut.ensures.value) (c.in_ok-lend.ensures.done.octets_are) c.in_ok-lend.ensures.done.device_is) _ refl refl _
    (lending (bound (deeds_of c.args.self.now) c.args.file) (bound (deeds_of c.args.self.now) c.args.file) c.index_mut.result.now c.lend.new.self c.in_ok-lend.ensures.done refl true c.in_ok-lend.ensures.lent
    c.in_ok-lend.ensures.mode)
