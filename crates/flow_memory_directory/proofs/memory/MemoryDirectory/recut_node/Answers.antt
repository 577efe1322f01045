use Rattle.std.proofs.Common.{◌∙◌, length, arith, refl, ap}
use Rattle.flow_directory.specs.File.{File}
use Rattle.flow_memory_directory.specs.Bound.{bound}
use Rattle.flow_memory_directory.specs.Memory.{deeds_of}
use Rattle.flow_memory_directory.proofs.At.{sound_at, file_at, still_all, keeps_at}
use Rattle.flow_memory_directory.proofs.At.{sound_either, on_ok}
use Rattle.flow_memory_directory.proofs.Changing.{sound_same}
use Rattle.std.proofs.lemmas.List.{take_all}
use Rattle.flow_memory_directory.proofs.Rules.{retruncating}
use Rattle.flow_memory_directory.proofs.memory.MemoryDirectory.recut_node.Goals as goal

pub invariant_of-self : goal.invariant_of-self
invariant_of-self c = record {
  sound = still_all c.args.self.now c.in_ok-index.index c.args.file c.index_mut.result.now c.in_ok-index.ensures.found.0 c.in_ok-index.ensures.found.1 c.index_mut.ensures.value c.cut.new.self
      (sound_either (bound (deeds_of c.args.self.now) c.args.file) c.index_mut.result.now c.cut.new.self c.cut.result (sound_at c.args.self.now c.in_ok-index.index c.args.file c.index_mut.result.now c.in_ok-index.ensures.found.0 c.in_ok-index.ensures.found.1 c.index_mut.ensures.value)
      (on_ok c.cut.result (λ done. (sound_same (bound (deeds_of c.args.self.now) c.args.file) c.index_mut.result.now c.cut.new.self (sound_at c.args.self.now c.in_ok-index.index c.args.file c.index_mut.result.now c.in_ok-index.ensures.found.0 c.in_ok-index.ensures.found.1 c.index_mut.ensures.value) (done.octets_are ∙ take_all c.args.count c.index_mut.result.now.octets.items (omega (arith, (c.requires ∙ ap (λ (f : File). length f.held.reads) (file_at c.args.self.now c.in_ok-index.index c.args.file c.index_mut.result.now c.in_ok-index.ensures.found.0 c.in_ok-index.ensures.found.1 c.index_mut.ensures.value))))) done.device_is)) c.cut.ensures.done)
      c.cut.ensures.failed);
}

pub returns-clause-done : goal.returns-clause-done
returns-clause-done c = keeps_at c.args.self.now c.in_ok-index.index c.args.file c.index_mut.result.now c.in_ok-index.ensures.found.0 c.in_ok-index.ensures.found.1 c.index_mut.ensures.value c.cut.new.self
    (sound_same (bound (deeds_of c.args.self.now) c.args.file) c.index_mut.result.now c.cut.new.self (sound_at c.args.self.now c.in_ok-index.index c.args.file c.index_mut.result.now c.in_ok-index.ensures.found.0 c.in_ok-index.ensures.found.1 c.index_mut.ensures.value) (c.in_ok-cut.ensures.done.octets_are ∙ take_all c.args.count c.index_mut.result.now.octets.items (omega (arith, (c.requires ∙ ap (λ (f : File). length f.held.reads) (file_at c.args.self.now c.in_ok-index.index c.args.file c.index_mut.result.now c.in_ok-index.ensures.found.0 c.in_ok-index.ensures.found.1 c.index_mut.ensures.value))))) c.in_ok-cut.ensures.done.device_is) _ refl refl _
    (retruncating (bound (deeds_of c.args.self.now) c.args.file) (bound (deeds_of c.args.self.now) c.args.file) c.index_mut.result.now c.cut.new.self c.args.count c.in_ok-cut.ensures.done refl (c.requires ∙ ap (λ (f : File). length f.held.reads) (file_at c.args.self.now c.in_ok-index.index c.args.file c.index_mut.result.now c.in_ok-index.ensures.found.0 c.in_ok-index.ensures.found.1 c.index_mut.ensures.value)))
