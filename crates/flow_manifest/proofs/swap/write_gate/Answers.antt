use Rattle.std.proofs.Common.{◌≡◌, ◌≤◌, length, IsTrue, subst, sym, arith}
use Rattle.flow_disk.specs.Disk.{AllImages, ComesOf, InFile, settled_at}
use Rattle.flow_disk.specs.Laws.{IsAlone}
use Rattle.flow_disk.proofs.Results.{on_ok_by}
use Rattle.flow_manifest.specs.Slots.{SetsGate}
use Rattle.flow_manifest.proofs.Gates.{gate_write, gate_run, gate_after}
use Rattle.flow_manifest.proofs.swap.write_gate.Goals as goal

pub returns-in_err-write_at-clause-any_moment : goal.returns-in_err-write_at-clause-any_moment
returns-in_err-write_at-clause-any_moment g c h =
    let D = g.D.Disk in
    let d = c.args.disk.now in
    let file = c.args.file in
    let one : IsAlone (D.held d file) =
    record {
      reads = g.met.D.Disk.reads_image d file h;
      alone =
          λ image. g.met.D.Disk.settled_alone d file image h c.requires.settled;
    } in
    let some : 1 ≤ length (D.held d file).reads = omega (arith, c.requires.room, g.met.D.Disk.has_size d file h) in
    gate_write D d file one some
    (λ image. g.met.D.Disk.only_now d image h) c.write_at.new.self _ (c.write_at.ensures.time h)

pub returns-clause-any_moment : goal.returns-clause-any_moment
returns-clause-any_moment g c h =
    let D = g.D.Disk in
    let d = c.args.disk.now in
    let file = c.args.file in
    let one : IsAlone (D.held d file) =
    record {
      reads = g.met.D.Disk.reads_image d file h;
      alone =
          λ image. g.met.D.Disk.settled_alone d file image h c.requires.settled;
    } in
    let some : 1 ≤ length (D.held d file).reads = omega (arith, c.requires.room, g.met.D.Disk.has_size d file h) in
    let wrote = c.in_ok-write_at.ensures.held h in
    gate_run D d file one some
    (λ image. g.met.D.Disk.only_now d image h) c.write_at.new.self c.sync.new.self _ _
    (c.write_at.ensures.time h) wrote.done wrote.others
    (c.sync.ensures.time (subst IsTrue (sym c.write_at.ensures.honest) h))

pub returns-clause-after : goal.returns-clause-after
returns-clause-after g c h =
    let D = g.D.Disk in
    let d = c.args.disk.now in
    let file = c.args.file in
    let one : IsAlone (D.held d file) =
    record {
      reads = g.met.D.Disk.reads_image d file h;
      alone =
          λ image. g.met.D.Disk.settled_alone d file image h c.requires.settled;
    } in
    let some : 1 ≤ length (D.held d file).reads = omega (arith, c.requires.room, g.met.D.Disk.has_size d file h) in
    let wrote = c.in_ok-write_at.ensures.held h in
    let synced = c.sync.ensures.held (subst IsTrue (sym c.write_at.ensures.honest) h) in
    let new = c.sync.new.self in
    on_ok_by c.sync.result (D.held new file ≡ settled_at (D.held c.write_at.new.self file).reads)
    (AllImages (D.held new) (ComesOf (D.held d) (InFile file (SetsGate c.args.gate))))
    (λ done. gate_after D d file one some c.args.gate c.write_at.new.self new wrote.done
    wrote.others done synced.others)
    synced.done
