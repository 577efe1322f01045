use Rattle.std.proofs.Common.{refl}
use Rattle.flow_memory_directory.specs.Bound.{bound}
use Rattle.flow_memory_directory.specs.Memory.{deeds_of}
use Rattle.flow_memory_directory.proofs.At.{sound_at, still_all, keeps_at}
use Rattle.flow_memory_directory.proofs.Changing.{sound_same}
use Rattle.flow_memory_directory.proofs.Rules.{opening}
use Rattle.flow_memory_directory.proofs.memory.MemoryDirectory.lose_node.Goals as goal

pub invariant_of-self : goal.invariant_of-self
invariant_of-self c = record {
  sound = still_all c.args.self.now c.args.index c.args.index c.index_mut.result.now refl c.requires c.index_mut.ensures.value c.lose.new.self
      (sound_same (bound (deeds_of c.args.self.now) c.args.index) c.index_mut.result.now c.lose.new.self (sound_at c.args.self.now c.args.index c.args.index c.index_mut.result.now refl c.requires c.index_mut.ensures.value) (c.lose.ensures.octets_are) c.lose.ensures.device_is);
}

pub returns : goal.returns
returns c = keeps_at c.args.self.now c.args.index c.args.index c.index_mut.result.now refl c.requires c.index_mut.ensures.value c.lose.new.self
    (sound_same (bound (deeds_of c.args.self.now) c.args.index) c.index_mut.result.now c.lose.new.self (sound_at c.args.self.now c.args.index c.args.index c.index_mut.result.now refl c.requires c.index_mut.ensures.value) (c.lose.ensures.octets_are) c.lose.ensures.device_is) _ refl refl _
    (opening (bound (deeds_of c.args.self.now) c.args.index) (bound (deeds_of c.args.self.now) c.args.index) c.index_mut.result.now c.lose.new.self c.lose.ensures refl)
