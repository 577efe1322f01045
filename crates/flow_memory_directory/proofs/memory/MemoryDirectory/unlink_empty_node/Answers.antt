use Rattle.std.proofs.Common.{◌∙◌, sym, refl, ap}
use Rattle.flow_directory.specs.File.{File}
use Rattle.flow_memory_directory.specs.Bound.{bound}
use Rattle.flow_memory_directory.specs.Memory.{deeds_of}
use Rattle.flow_memory_directory.proofs.At.{sound_at, file_at, still_all, keeps_at}
use Rattle.flow_memory_directory.proofs.At.{sound_either, on_both}
use Rattle.flow_memory_directory.proofs.Changing.{sound_same}
use Rattle.flow_memory_directory.proofs.Names.{unlinking_empty_either, still_empty, still_there}
use Rattle.flow_memory_directory.proofs.memory.MemoryDirectory.unlink_empty_node.Goals as goal

pub invariant_of-self : goal.invariant_of-self
invariant_of-self c = record {
  sound = still_all c.args.self.now c.in_ok-index.index c.args.file c.index_mut.result.now c.in_ok-index.ensures.found.0 c.in_ok-index.ensures.found.1 c.index_mut.ensures.value c.unlink.new.self
      (sound_either (bound (deeds_of c.args.self.now) c.args.file) c.index_mut.result.now c.unlink.new.self c.unlink.result (sound_at c.args.self.now c.in_ok-index.index c.args.file c.index_mut.result.now c.in_ok-index.ensures.found.0 c.in_ok-index.ensures.found.1 c.index_mut.ensures.value)
      (on_both c.unlink.result (λ done none. (sound_same (bound (deeds_of c.args.self.now) c.args.file) c.index_mut.result.now c.unlink.new.self (sound_at c.args.self.now c.in_ok-index.index c.args.file c.index_mut.result.now c.in_ok-index.ensures.found.0 c.in_ok-index.ensures.found.1 c.index_mut.ensures.value) (still_empty (bound (deeds_of c.args.self.now) c.args.file) (bound (deeds_of c.args.self.now) c.args.file) c.index_mut.result.now c.unlink.new.self done none c.index_mut.result.now.linked refl (sym (ap (λ (f : File). f.held.reads) (file_at c.args.self.now c.in_ok-index.index c.args.file c.index_mut.result.now c.in_ok-index.ensures.found.0 c.in_ok-index.ensures.found.1 c.index_mut.ensures.value)) ∙ c.requires)) (still_there (bound (deeds_of c.args.self.now) c.args.file) (bound (deeds_of c.args.self.now) c.args.file) c.index_mut.result.now c.unlink.new.self done none c.index_mut.result.now.linked refl))) c.unlink.ensures.done c.unlink.ensures.none)
      c.unlink.ensures.failed);
}

pub returns-clause-done : goal.returns-clause-done
returns-clause-done c = keeps_at c.args.self.now c.in_ok-index.index c.args.file c.index_mut.result.now c.in_ok-index.ensures.found.0 c.in_ok-index.ensures.found.1 c.index_mut.ensures.value c.unlink.new.self
    (sound_same (bound (deeds_of c.args.self.now) c.args.file) c.index_mut.result.now c.unlink.new.self (sound_at c.args.self.now c.in_ok-index.index c.args.file c.index_mut.result.now c.in_ok-index.ensures.found.0 c.in_ok-index.ensures.found.1 c.index_mut.ensures.value) (still_empty (bound (deeds_of c.args.self.now) c.args.file) (bound (deeds_of c.args.self.now) c.args.file) c.index_mut.result.now c.unlink.new.self c.in_ok-linked.ensures.done c.in_ok-linked.ensures.none c.in_ok-linked.linked c.in_ok-linked.ensures.linked (sym (ap (λ (f : File). f.held.reads) (file_at c.args.self.now c.in_ok-index.index c.args.file c.index_mut.result.now c.in_ok-index.ensures.found.0 c.in_ok-index.ensures.found.1 c.index_mut.ensures.value)) ∙ c.requires)) (still_there (bound (deeds_of c.args.self.now) c.args.file) (bound (deeds_of c.args.self.now) c.args.file) c.index_mut.result.now c.unlink.new.self c.in_ok-linked.ensures.done c.in_ok-linked.ensures.none c.in_ok-linked.linked c.in_ok-linked.ensures.linked)) _ refl refl _
    (unlinking_empty_either (bound (deeds_of c.args.self.now) c.args.file) (bound (deeds_of c.args.self.now) c.args.file) c.index_mut.result.now c.unlink.new.self c.in_ok-linked.ensures.done c.in_ok-linked.ensures.none
    c.in_ok-linked.linked c.in_ok-linked.ensures.linked (sym (ap (λ (f : File). f.held.reads) (file_at c.args.self.now c.in_ok-index.index c.args.file c.index_mut.result.now c.in_ok-index.ensures.found.0 c.in_ok-index.ensures.found.1 c.index_mut.ensures.value)) ∙ c.requires) refl)
