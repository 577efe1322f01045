use Rattle.std.proofs.Common.{◌∙◌, length, take, drop, refl, ap}
use Rattle.flow_directory.specs.File.{File}
use Rattle.flow_memory_directory.specs.Bound.{bound}
use Rattle.flow_memory_directory.specs.Memory.{deeds_of}
use Rattle.flow_memory_directory.proofs.At.{sound_at, file_at, still_all, keeps_at}
use Rattle.flow_memory_directory.proofs.At.{sound_either, on_ok}
use Rattle.flow_memory_directory.proofs.Changing.{sound_same}
use Rattle.flow_memory_directory.proofs.Rules.{rewriting, put_same}
use Rattle.flow_memory_directory.proofs.memory.MemoryDirectory.rewrite_node.Goals as goal

pub invariant_of-self : goal.invariant_of-self
invariant_of-self c = record {
  sound = still_all c.args.self.now c.in_ok-index.index c.args.file c.index_mut.result.now c.in_ok-index.ensures.found.0 c.in_ok-index.ensures.found.1 c.index_mut.ensures.value c.write.new.self
      (sound_either (bound (deeds_of c.args.self.now) c.args.file) c.index_mut.result.now c.write.new.self c.write.result (sound_at c.args.self.now c.in_ok-index.index c.args.file c.index_mut.result.now c.in_ok-index.ensures.found.0 c.in_ok-index.ensures.found.1 c.index_mut.ensures.value)
      (on_ok c.write.result (λ done. (sound_same (bound (deeds_of c.args.self.now) c.args.file) c.index_mut.result.now c.write.new.self (sound_at c.args.self.now c.in_ok-index.index c.args.file c.index_mut.result.now c.in_ok-index.ensures.found.0 c.in_ok-index.ensures.found.1 c.index_mut.ensures.value) (done.octets_are ∙ (put_same c.index_mut.result.now.octets.items c.args.at c.args.octets.now
      (c.requires ∙ ap (λ (f : File). take (length c.args.octets.now) (drop c.args.at f.held.reads)) (file_at c.args.self.now c.in_ok-index.index c.args.file c.index_mut.result.now c.in_ok-index.ensures.found.0 c.in_ok-index.ensures.found.1 c.index_mut.ensures.value)))) done.device_is)) c.write.ensures.done)
      c.write.ensures.failed);
}

pub returns-clause-done : goal.returns-clause-done
returns-clause-done c = keeps_at c.args.self.now c.in_ok-index.index c.args.file c.index_mut.result.now c.in_ok-index.ensures.found.0 c.in_ok-index.ensures.found.1 c.index_mut.ensures.value c.write.new.self
    (sound_same (bound (deeds_of c.args.self.now) c.args.file) c.index_mut.result.now c.write.new.self (sound_at c.args.self.now c.in_ok-index.index c.args.file c.index_mut.result.now c.in_ok-index.ensures.found.0 c.in_ok-index.ensures.found.1 c.index_mut.ensures.value) (c.in_ok-write.ensures.done.octets_are ∙ (put_same c.index_mut.result.now.octets.items c.args.at c.args.octets.now
    (c.requires ∙ ap (λ (f : File). take (length c.args.octets.now) (drop c.args.at f.held.reads)) (file_at c.args.self.now c.in_ok-index.index c.args.file c.index_mut.result.now c.in_ok-index.ensures.found.0 c.in_ok-index.ensures.found.1 c.index_mut.ensures.value)))) c.in_ok-write.ensures.done.device_is) _ refl refl _
    (rewriting (bound (deeds_of c.args.self.now) c.args.file) (bound (deeds_of c.args.self.now) c.args.file) c.index_mut.result.now c.write.new.self c.args.at c.args.octets.now c.in_ok-write.ensures.done refl
    (put_same c.index_mut.result.now.octets.items c.args.at c.args.octets.now
    (c.requires ∙ ap (λ (f : File). take (length c.args.octets.now) (drop c.args.at f.held.reads)) (file_at c.args.self.now c.in_ok-index.index c.args.file c.index_mut.result.now c.in_ok-index.ensures.found.0 c.in_ok-index.ensures.found.1 c.index_mut.ensures.value))))
