use Rattle.std.proofs.Common.{◌∙◌, sym, refl}
use Rattle.flow_memory_directory.specs.Bound.{bound}
use Rattle.flow_memory_directory.specs.Memory.{deeds_of}
use Rattle.flow_memory_directory.proofs.At.{sound_at, still_all, keeps_at}
use Rattle.flow_memory_directory.proofs.At.{sound_either, on_both}
use Rattle.flow_memory_directory.proofs.Changing.{sound_same}
use Rattle.flow_memory_directory.proofs.Names.{creating}
use Rattle.flow_memory_directory.proofs.memory.MemoryDirectory.create_node.Goals as goal

pub invariant_of-self : goal.invariant_of-self
invariant_of-self c = record {
  sound = still_all c.args.self.now c.in_ok-index.index c.args.file c.index_mut.result.now c.in_ok-index.ensures.found.0 c.in_ok-index.ensures.found.1 c.index_mut.ensures.value c.create.new.self
      (sound_either (bound (deeds_of c.args.self.now) c.args.file) c.index_mut.result.now c.create.new.self c.create.result (sound_at c.args.self.now c.in_ok-index.index c.args.file c.index_mut.result.now c.in_ok-index.ensures.found.0 c.in_ok-index.ensures.found.1 c.index_mut.ensures.value)
      (on_both c.create.result (λ absent done. (sound_same (bound (deeds_of c.args.self.now) c.args.file) c.index_mut.result.now c.create.new.self (sound_at c.args.self.now c.in_ok-index.index c.args.file c.index_mut.result.now c.in_ok-index.ensures.found.0 c.in_ok-index.ensures.found.1 c.index_mut.ensures.value) (done.octets_are ∙ sym (c.index_mut.result.now.absent absent)) done.device_is)) c.create.ensures.absent c.create.ensures.done)
      c.create.ensures.failed);
}

pub returns-clause-done : goal.returns-clause-done
returns-clause-done c = keeps_at c.args.self.now c.in_ok-index.index c.args.file c.index_mut.result.now c.in_ok-index.ensures.found.0 c.in_ok-index.ensures.found.1 c.index_mut.ensures.value c.create.new.self
    (sound_same (bound (deeds_of c.args.self.now) c.args.file) c.index_mut.result.now c.create.new.self (sound_at c.args.self.now c.in_ok-index.index c.args.file c.index_mut.result.now c.in_ok-index.ensures.found.0 c.in_ok-index.ensures.found.1 c.index_mut.ensures.value) (c.in_ok-create.ensures.done.octets_are ∙ sym (c.index_mut.result.now.absent c.in_ok-create.ensures.absent)) c.in_ok-create.ensures.done.device_is) _ refl refl _
    (creating (bound (deeds_of c.args.self.now) c.args.file) (bound (deeds_of c.args.self.now) c.args.file) c.index_mut.result.now c.create.new.self c.in_ok-create.ensures.done c.in_ok-create.ensures.absent refl)
