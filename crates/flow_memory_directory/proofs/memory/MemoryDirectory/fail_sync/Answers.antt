use Rattle.std.proofs.Common.{ℕ, List, subst, sym, refl}
use Rattle.flow_memory_directory.specs.Bound.{bound, IsSound}
use Rattle.flow_memory_directory.specs.Memory.{deeds_of}
use Rattle.flow_memory_directory.specs.Nodes.{octets_in, device_in}
use Rattle.flow_memory_directory.proofs.At.{sound_at, still_all, keeps_at}
use Rattle.flow_memory_directory.proofs.Images.{memory_sound}
use Rattle.flow_memory_directory.proofs.Rules.{sync_fell}
use Rattle.flow_memory_directory.proofs.memory.MemoryDirectory.fail_sync.Goals as goal

pub invariant_of-self : goal.invariant_of-self
invariant_of-self c = record {
  sound = still_all c.args.self.now c.args.index c.args.index c.index_mut.result.now refl c.requires c.index_mut.ensures.value c.fail.new.self
      (subst (λ (l : List ℕ). IsSound (bound (deeds_of c.args.self.now) c.args.index) (octets_in c.fail.new.self) l) (sym c.fail.ensures.device_is)
      (memory_sound (bound (deeds_of c.args.self.now) c.args.index) (octets_in c.index_mut.result.now) (device_in c.index_mut.result.now)
      (octets_in c.fail.new.self) (sound_at c.args.self.now c.args.index c.args.index c.index_mut.result.now refl c.requires c.index_mut.ensures.value) c.fail.ensures.between));
}

pub returns-clause-rule : goal.returns-clause-rule
returns-clause-rule c = keeps_at c.args.self.now c.args.index c.args.index c.index_mut.result.now refl c.requires c.index_mut.ensures.value c.fail.new.self
    (subst (λ (l : List ℕ). IsSound (bound (deeds_of c.args.self.now) c.args.index) (octets_in c.fail.new.self) l) (sym c.fail.ensures.device_is)
    (memory_sound (bound (deeds_of c.args.self.now) c.args.index) (octets_in c.index_mut.result.now) (device_in c.index_mut.result.now)
    (octets_in c.fail.new.self) (sound_at c.args.self.now c.args.index c.args.index c.index_mut.result.now refl c.requires c.index_mut.ensures.value) c.fail.ensures.between)) _ refl refl _
    (sync_fell (bound (deeds_of c.args.self.now) c.args.index) c.index_mut.result.now c.fail.new.self c.fail.ensures _)
