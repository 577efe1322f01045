use Rattle.std.proofs.Common.{length, sym, ◌∙◌, ap}
use Rattle.std.proofs.lemmas.List.{length-reverse}
use Rattle.flow_disk.specs.Disk.{Held}
use Rattle.flow_memory_disk.proofs.Looked.{place_found, missing}
use Rattle.flow_memory_disk.proofs.Read.{held_there, held_nowhere}
use Rattle.flow_memory_disk.proofs.disk.MemoryDisk.touched_count.Goals as goal

pub returns-in-Some : goal.returns-in-Some
returns-in-Some c =
    let disk = c.args.self.now in
    let stored = c.index.result.now in
    let place = place_found disk.files.items c.args.file c.in-Some.index (sym c.place.ensures ∙ c.in-Some.is) in
    c.touched_count.ensures ∙ stored.touched.ok.0 ∙ sym (length-reverse stored.touched.items)
    ∙ sym (ap (λ (h : Held). length h.touched)
    (held_there disk c.args.file c.in-Some.index stored place c.index.ensures))

pub returns-in-None : goal.returns-in-None
returns-in-None c =
    let disk = c.args.self.now in
    sym (ap (λ (h : Held). length h.touched) (held_nowhere disk c.args.file
    (missing disk.files.items c.args.file (sym c.place.ensures ∙ c.in-None.is))))
