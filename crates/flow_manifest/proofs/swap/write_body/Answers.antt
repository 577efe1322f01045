use Rattle.std.proofs.Common.{◌≡◌, ◌≤◌, length, IsTrue, subst, sym, ◌∙◌, arith, refl}
use Rattle.flow_disk.specs.Disk.{AllImages, ComesOf, InFile, settled_at}
use Rattle.flow_disk.specs.Laws.{IsAlone}
use Rattle.flow_disk.proofs.Results.{on_ok_by}
use Rattle.flow_manifest.specs.Slots.{HasBody}
use Rattle.flow_manifest.proofs.Gates.{body_write, body_cut, body_run, body_after}
use Rattle.flow_manifest.proofs.swap.write_body.Goals as goal

pub returns-in_err-write_at-clause-any_moment : goal.returns-in_err-write_at-clause-any_moment
returns-in_err-write_at-clause-any_moment g c h =
    let D = g.D.Disk in
    let d = c.args.disk.now in
    let file = c.args.file in
    let one : IsAlone (D.held d file) =
    record {
      reads = g.met.D.Disk.reads_image d file h;
      alone =
          λ image. g.met.D.Disk.settled_alone d file image h c.requires.settled;
    } in
    let some : 1 ≤ length (D.held d file).reads = omega (arith, c.requires.room, g.met.D.Disk.has_size d file h) in
    let within = g.met.D.Disk.fast_within d file h in
    body_write D d file one some within
    (λ image. g.met.D.Disk.only_now d image h) c.write_at.new.self _ _ (c.write_at.ensures.time h)

pub returns-in_err-cut-clause-any_moment : goal.returns-in_err-cut-clause-any_moment
returns-in_err-cut-clause-any_moment g c h =
    let D = g.D.Disk in
    let d = c.args.disk.now in
    let file = c.args.file in
    let one : IsAlone (D.held d file) =
    record {
      reads = g.met.D.Disk.reads_image d file h;
      alone =
          λ image. g.met.D.Disk.settled_alone d file image h c.requires.settled;
    } in
    let some : 1 ≤ length (D.held d file).reads = omega (arith, c.requires.room, g.met.D.Disk.has_size d file h) in
    let within = g.met.D.Disk.fast_within d file h in
    let so_far = body_write D d file one some within
    (λ image. g.met.D.Disk.only_now d image h) c.write_at.new.self _ _ (c.write_at.ensures.time h) in
    let h1 = subst IsTrue (sym c.write_at.ensures.honest) h in
    let wrote = c.in_ok-write_at.ensures.held h in
    body_cut D d file one some within c.write_at.new.self c.cut.new.self _ _ _ _
    (omega arith) so_far wrote.done wrote.others (c.cut.ensures.time h1)

pub returns-clause-any_moment : goal.returns-clause-any_moment
returns-clause-any_moment g c h =
    let D = g.D.Disk in
    let d = c.args.disk.now in
    let file = c.args.file in
    let one : IsAlone (D.held d file) =
    record {
      reads = g.met.D.Disk.reads_image d file h;
      alone =
          λ image. g.met.D.Disk.settled_alone d file image h c.requires.settled;
    } in
    let some : 1 ≤ length (D.held d file).reads = omega (arith, c.requires.room, g.met.D.Disk.has_size d file h) in
    let h1 = subst IsTrue (sym c.write_at.ensures.honest) h in
    let wrote = c.in_ok-write_at.ensures.held h in
    let was_cut = c.in_ok-cut.ensures.held h1 in
    body_run D d file one some (g.met.D.Disk.fast_within d file h)
    (λ image. g.met.D.Disk.only_now d image h) c.write_at.new.self c.cut.new.self c.sync.new.self _ _ _ _ _ _
    (omega arith)
    (c.write_at.ensures.time h) wrote.done wrote.others (c.cut.ensures.time h1) was_cut.done was_cut.others
    (c.sync.ensures.time (subst IsTrue (sym c.cut.ensures.honest) h1))

pub returns-clause-after : goal.returns-clause-after
returns-clause-after g c h =
    let D = g.D.Disk in
    let d = c.args.disk.now in
    let file = c.args.file in
    let one : IsAlone (D.held d file) =
    record {
      reads = g.met.D.Disk.reads_image d file h;
      alone =
          λ image. g.met.D.Disk.settled_alone d file image h c.requires.settled;
    } in
    let some : 1 ≤ length (D.held d file).reads = omega (arith, c.requires.room, g.met.D.Disk.has_size d file h) in
    let within = g.met.D.Disk.fast_within d file h in
    let h1 = subst IsTrue (sym c.write_at.ensures.honest) h in
    let wrote = c.in_ok-write_at.ensures.held h in
    let h2 = subst IsTrue (sym c.cut.ensures.honest) h1 in
    let was_cut = c.in_ok-cut.ensures.held h1 in
    let synced = c.sync.ensures.held h2 in
    let new = c.sync.new.self in
    on_ok_by c.sync.result (D.held new file ≡ settled_at (D.held c.cut.new.self file).reads)
    (AllImages (D.held new) (ComesOf (D.held d) (InFile file (HasBody c.args.body.now))))
    (λ done. body_after D d file one some within c.write_at.new.self c.cut.new.self new
    c.args.body.now _ refl wrote.done was_cut.done (λ n differs. was_cut.others n differs
    ∙ wrote.others n differs) done synced.others)
    synced.done
