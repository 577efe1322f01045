use Rattle.std.proofs.Common.{arith}
use Rattle.flow_memory_directory.specs.Memory.{deeds_of}
use Rattle.flow_memory_directory.proofs.Restoring.{restored_more, restored_sound, restored_image}
use Rattle.flow_memory_directory.proofs.Restoring.{restored_files, restored_quiet}
use Rattle.flow_memory_directory.proofs.memory.MemoryDirectory.power_cut.Goals as goal

pub places-preserved : goal.places-preserved
places-preserved c = restored_more c.args.self.nodes.items (deeds_of c.args.self) c.places.place c.index.result.now
    c.places.nodes.items c.restore.new.nodes.items c.places.log.items c.restore.new.log.items c.places.invariant
    (omega (arith, c.places-test.true, c.places.auto.place-end, c.len-place-end.ensures, c.args.self.nodes.ok.0))
    c.index.ensures c.in_ok-restore.ensures

pub invariant_of-result : goal.invariant_of-result
invariant_of-result c = record {
  sound = restored_sound c.args.self.nodes.items (deeds_of c.args.self) c.places.place c.places.nodes.items c.places.log.items
      c.places.invariant (omega (
        arith,
        c.places.invariant.within,
        c.places-test.false,
        c.places.auto.place-end,
        c.len-place-end.ensures,
        c.args.self.nodes.ok.0,
      )) c.args.self.sound;
}

pub returns-clause-image : goal.returns-clause-image
returns-clause-image c = restored_image c.args.self.nodes.items (deeds_of c.args.self) c.places.place c.places.nodes.items c.places.log.items
    c.places.invariant (omega (
      arith,
      c.places.invariant.within,
      c.places-test.false,
      c.places.auto.place-end,
      c.len-place-end.ensures,
      c.args.self.nodes.ok.0,
    )) c.args.self.sound

pub returns-clause-restored : goal.returns-clause-restored
returns-clause-restored c = restored_files c.args.self.nodes.items (deeds_of c.args.self) c.places.place c.places.nodes.items c.places.log.items
    c.places.invariant (omega (
      arith,
      c.places.invariant.within,
      c.places-test.false,
      c.places.auto.place-end,
      c.len-place-end.ensures,
      c.args.self.nodes.ok.0,
    )) c.args.self.sound

pub returns-clause-quiet : goal.returns-clause-quiet
returns-clause-quiet c = restored_quiet c.args.self.nodes.items (deeds_of c.args.self) c.places.place c.places.nodes.items c.places.log.items
    c.places.invariant (omega (
      arith,
      c.places.invariant.within,
      c.places-test.false,
      c.places.auto.place-end,
      c.len-place-end.ensures,
      c.args.self.nodes.ok.0,
    )) c.args.self.sound
