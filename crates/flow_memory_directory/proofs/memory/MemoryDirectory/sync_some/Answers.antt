use Rattle.std.proofs.Common.{ℕ, List, subst, sym, refl}
use Rattle.flow_memory_directory.specs.Bound.{bound, IsSound}
use Rattle.flow_memory_directory.specs.Memory.{deeds_of}
use Rattle.flow_memory_directory.specs.Nodes.{octets_in, device_in}
use Rattle.flow_memory_directory.proofs.At.{sound_at, still_all, keeps_at}
use Rattle.flow_memory_directory.proofs.At.{sound_either, on_both}
use Rattle.flow_memory_directory.proofs.Images.{left_sound}
use Rattle.flow_memory_directory.proofs.Rules.{syncing_some}
use Rattle.flow_memory_directory.proofs.memory.MemoryDirectory.sync_some.Goals as goal

pub invariant_of-self : goal.invariant_of-self
invariant_of-self c = record {
  sound = still_all c.args.self.now c.in_ok-index.index c.args.file c.index_mut.result.now c.in_ok-index.ensures.found.0 c.in_ok-index.ensures.found.1 c.index_mut.ensures.value c.sync_some.new.self
      (sound_either (bound (deeds_of c.args.self.now) c.args.file) c.index_mut.result.now c.sync_some.new.self c.sync_some.result (sound_at c.args.self.now c.in_ok-index.index c.args.file c.index_mut.result.now c.in_ok-index.ensures.found.0 c.in_ok-index.ensures.found.1 c.index_mut.ensures.value)
      (on_both c.sync_some.result (λ done between. (subst (λ (l : List ℕ). IsSound (bound (deeds_of c.args.self.now) c.args.file) l (device_in c.sync_some.new.self)) (sym done.octets_are)
      (left_sound (bound (deeds_of c.args.self.now) c.args.file) (octets_in c.index_mut.result.now) (device_in c.index_mut.result.now) (device_in c.sync_some.new.self) (sound_at c.args.self.now c.in_ok-index.index c.args.file c.index_mut.result.now c.in_ok-index.ensures.found.0 c.in_ok-index.ensures.found.1 c.index_mut.ensures.value) between))) c.sync_some.ensures.done c.sync_some.ensures.between)
      c.sync_some.ensures.failed);
}

pub returns-clause-done : goal.returns-clause-done
returns-clause-done c = keeps_at c.args.self.now c.in_ok-index.index c.args.file c.index_mut.result.now c.in_ok-index.ensures.found.0 c.in_ok-index.ensures.found.1 c.index_mut.ensures.value c.sync_some.new.self
    (subst (λ (l : List ℕ). IsSound (bound (deeds_of c.args.self.now) c.args.file) l (device_in c.sync_some.new.self)) (sym c.in_ok-sync_some.ensures.done.octets_are)
    (left_sound (bound (deeds_of c.args.self.now) c.args.file) (octets_in c.index_mut.result.now) (device_in c.index_mut.result.now) (device_in c.sync_some.new.self) (sound_at c.args.self.now c.in_ok-index.index c.args.file c.index_mut.result.now c.in_ok-index.ensures.found.0 c.in_ok-index.ensures.found.1 c.index_mut.ensures.value) c.in_ok-sync_some.ensures.between)) _ refl refl _
    (syncing_some (bound (deeds_of c.args.self.now) c.args.file) (bound (deeds_of c.args.self.now) c.args.file) c.index_mut.result.now c.sync_some.new.self c.in_ok-sync_some.ensures.done refl c.in_ok-sync_some.ensures.lost)
