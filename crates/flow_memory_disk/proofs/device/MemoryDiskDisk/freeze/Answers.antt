use Rattle.std.proofs.Common.{ℕ, List, length, sym, ◌∙◌, ap}
use Rattle.std.specs.Arc.{arc_value}
use Rattle.flow_memory_disk.specs.declared.sealed.MemorySealed.{MemorySealed}
use Rattle.flow_memory_disk.specs.Memory.{story_of}
use Rattle.flow_memory_disk.specs.Laws.{size_is}
use Rattle.flow_memory_disk.proofs.Told.{elapses_same, elapses_frozen}
use Rattle.flow_memory_disk.proofs.device.MemoryDiskDisk.freeze.Goals as goal

pub returns-in_err-octets-clause-time : goal.returns-in_err-octets-clause-time
returns-in_err-octets-clause-time c =
    elapses_same (story_of c.args.self.now) (story_of c.try_freeze.new.self) c.in_err-octets.ensures.err

pub returns-clause-sealed : goal.returns-clause-sealed
returns-clause-sealed c = (
  ap (λ (s : MemorySealed). s.number) c.new.ensures,
  ap (λ (s : MemorySealed). length (arc_value s.octets).items) c.new.ensures
      ∙ ap (λ (l : List ℕ). length l) c.in_ok-octets.ensures.octets ∙ sym (size_is c.args.self.now c.args.file),
)

pub returns-clause-time : goal.returns-clause-time
returns-clause-time c =
    elapses_frozen (story_of c.args.self.now) (story_of c.try_freeze.new.self) c.args.file c.in_ok-octets.ensures.ok
