use Rattle.std.proofs.Common.{refl}
use Rattle.flow_memory_directory.specs.Bound.{bound}
use Rattle.flow_memory_directory.specs.Memory.{deeds_of}
use Rattle.flow_memory_directory.proofs.At.{sound_at, still_all, keeps_at}
use Rattle.flow_memory_directory.proofs.At.{sound_either, on_ok}
use Rattle.flow_memory_directory.proofs.Changing.{sound_same}
use Rattle.flow_memory_directory.proofs.Names.{changing_mode}
use Rattle.flow_memory_directory.proofs.memory.MemoryDirectory.set_mode_of_node.Goals as goal

pub invariant_of-self : goal.invariant_of-self
invariant_of-self c = record {
  sound = still_all c.args.self.now c.in_ok-index.index c.args.file c.index_mut.result.now c.in_ok-index.ensures.found.0 c.in_ok-index.ensures.found.1 c.index_mut.ensures.value c.set_read_only.new.self
      (sound_either (bound (deeds_of c.args.self.now) c.args.file) c.index_mut.result.now c.set_read_only.new.self c.set_read_only.result (sound_at c.args.self.now c.in_ok-index.index c.args.file c.index_mut.result.now c.in_ok-index.ensures.found.0 c.in_ok-index.ensures.found.1 c.index_mut.ensures.value)
      (on_ok c.set_read_only.result (λ done. (sound_same (bound (deeds_of c.args.self.now) c.args.file) c.index_mut.result.now c.set_read_only.new.self (sound_at c.args.self.now c.in_ok-index.index c.args.file c.index_mut.result.now c.in_ok-index.ensures.found.0 c.in_ok-index.ensures.found.1 c.index_mut.ensures.value) (done.octets_are) done.device_is)) c.set_read_only.ensures.done)
      c.set_read_only.ensures.failed);
}

pub returns-clause-done : goal.returns-clause-done
returns-clause-done c = keeps_at c.args.self.now c.in_ok-index.index c.args.file c.index_mut.result.now c.in_ok-index.ensures.found.0 c.in_ok-index.ensures.found.1 c.index_mut.ensures.value c.set_read_only.new.self
    (sound_same (bound (deeds_of c.args.self.now) c.args.file) c.index_mut.result.now c.set_read_only.new.self (sound_at c.args.self.now c.in_ok-index.index c.args.file c.index_mut.result.now c.in_ok-index.ensures.found.0 c.in_ok-index.ensures.found.1 c.index_mut.ensures.value) (c.in_ok-set_read_only.ensures.done.octets_are) c.in_ok-set_read_only.ensures.done.device_is) _ refl refl _
    (changing_mode (bound (deeds_of c.args.self.now) c.args.file) (bound (deeds_of c.args.self.now) c.args.file) c.index_mut.result.now c.set_read_only.new.self c.in_ok-set_read_only.ensures.done refl c.args.read_only
    c.in_ok-set_read_only.ensures.mode c.in_ok-set_read_only.ensures.lent)
