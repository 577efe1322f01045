use Rattle.std.proofs.Common.{refl}
use Rattle.std.proofs.Common.{false}
use Rattle.flow_memory_directory.specs.Bound.{bound}
use Rattle.flow_memory_directory.specs.Memory.{deeds_of}
use Rattle.flow_memory_directory.proofs.At.{sound_at, still_all, keeps_at}
use Rattle.flow_memory_directory.proofs.Changing.{sound_same}
use Rattle.flow_memory_directory.proofs.Names.{lending}
use Rattle.flow_memory_directory.proofs.memory.MemoryDirectory.take_back_node.Goals as goal

pub invariant_of-self : goal.invariant_of-self
invariant_of-self c = record {
  sound = still_all c.args.self.now c.args.index c.args.index c.index_mut.result.now refl c.requires c.index_mut.ensures.value c.take_back.new.self
      (sound_same (bound (deeds_of c.args.self.now) c.args.index) c.index_mut.result.now c.take_back.new.self (sound_at c.args.self.now c.args.index c.args.index c.index_mut.result.now refl c.requires c.index_mut.ensures.value) (c.take_back.ensures.done.octets_are) c.take_back.ensures.done.device_is);
}

pub returns : goal.returns
returns c = keeps_at c.args.self.now c.args.index c.args.index c.index_mut.result.now refl c.requires c.index_mut.ensures.value c.take_back.new.self
    (sound_same (bound (deeds_of c.args.self.now) c.args.index) c.index_mut.result.now c.take_back.new.self (sound_at c.args.self.now c.args.index c.args.index c.index_mut.result.now refl c.requires c.index_mut.ensures.value) (c.take_back.ensures.done.octets_are) c.take_back.ensures.done.device_is) _ refl refl _
    (lending (bound (deeds_of c.args.self.now) c.args.index) (bound (deeds_of c.args.self.now) c.args.index) c.index_mut.result.now c.take_back.new.self c.take_back.ensures.done refl false c.take_back.ensures.lent
    c.take_back.ensures.mode)
