use Rattle.std.proofs.Common.{ℕ, List, length, sym, ◌∙◌, ap}
use Rattle.flow_disk.specs.Disk.{Held}
use Rattle.flow_memory_disk.specs.Laws.{size_is}
use Rattle.flow_memory_disk.proofs.Looked.{place_found, missing}
use Rattle.flow_memory_disk.proofs.Read.{held_there, held_nowhere}
use Rattle.flow_memory_disk.proofs.disk.MemoryDisk.octets.Goals as goal

pub returns-in-Some-clause-octets : goal.returns-in-Some-clause-octets
returns-in-Some-clause-octets c =
    let disk = c.args.self.now in
    let place = place_found disk.files.items c.args.file c.in-Some.index (sym c.place.ensures ∙ c.in-Some.is) in
    c.deref.ensures.value
    ∙ sym (ap (λ (h : Held). h.reads)
    (held_there disk c.args.file c.in-Some.index c.index.result.now place c.index.ensures))

pub returns-in-Some-clause-size : goal.returns-in-Some-clause-size
returns-in-Some-clause-size c =
    let disk = c.args.self.now in
    let place = place_found disk.files.items c.args.file c.in-Some.index (sym c.place.ensures ∙ c.in-Some.is) in
    ap (λ (l : List ℕ). length l) (c.deref.ensures.value
    ∙ sym (ap (λ (h : Held). h.reads)
    (held_there disk c.args.file c.in-Some.index c.index.result.now place c.index.ensures)))
    ∙ sym (size_is disk c.args.file)

pub returns-in-None-clause-octets : goal.returns-in-None-clause-octets
returns-in-None-clause-octets c =
    let disk = c.args.self.now in
    sym (ap (λ (h : Held). h.reads)
    (held_nowhere disk c.args.file (missing disk.files.items c.args.file (sym c.place.ensures ∙ c.in-None.is))))

pub returns-in-None-clause-size : goal.returns-in-None-clause-size
returns-in-None-clause-size c =
    let disk = c.args.self.now in
    sym (size_is disk c.args.file
    ∙ ap (λ (h : Held). length h.reads)
    (held_nowhere disk c.args.file (missing disk.files.items c.args.file (sym c.place.ensures ∙ c.in-None.is))))
