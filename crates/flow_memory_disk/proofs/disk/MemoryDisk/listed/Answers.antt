use Rattle.std.proofs.Common.{◌≡◌, ℕ, drop, sym, ◌∙◌, ap, arith}
use Rattle.flow_disk.specs.Disk.{Marks}
use Rattle.flow_memory_disk.specs.Stored.{looked, marks_in, unwritten}
use Rattle.flow_memory_disk.specs.Laws.{marks_are}
use Rattle.flow_memory_disk.proofs.disk.MemoryDisk.listed.Goals as goal

pub returns : goal.returns
returns c n =
    let files = c.args.self.now.files.items in
    let none : c.loop-index.index ≡ 0 = omega arith in
    c.loop-index.invariant n ∙ ap (λ (k : ℕ). (looked marks_in unwritten (drop k files) n).listed) none
    ∙ sym (ap (λ (m : Marks). m.listed) (marks_are c.args.self.now n))
