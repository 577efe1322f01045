use Rattle.std.proofs.Common.{ℕ, List, IsTrue, sym, ◌∙◌, ap, subst}
use Rattle.flow_disk.specs.Disk.{Held, settled_at}
use Rattle.flow_disk.specs.Laws.{IsAlone}
use Rattle.flow_disk.proofs.Calls.{comes}
use Rattle.flow_gate.specs.Steps.{Adds}
use Rattle.flow_gate.proofs.Opening.{once_opened, inside_write, inside_sync}
use Rattle.flow_gate.proofs.gate.open_gate.Goals as goal

pub returns-in_err-write_at-clause-any_moment : goal.returns-in_err-write_at-clause-any_moment
returns-in_err-write_at-clause-any_moment g c h messages placed =
    let d = c.args.disk.now in
    let D = g.D.Disk in
    let file = c.args.file in
    let alone : IsAlone (D.held d file) =
    record {
      reads = g.met.D.Disk.reads_image d file h;
      alone =
          λ image is. g.met.D.Disk.settled_alone d file image h c.requires.settled is;
    } in
    let only_now = λ (image : ℕ → List ℕ). g.met.D.Disk.only_now d image h in
    inside_write D d file c.args.end messages alone placed only_now c.write_at.new.self _
    (c.write_at.ensures.time h)

pub returns-in_err-sync-clause-any_moment : goal.returns-in_err-sync-clause-any_moment
returns-in_err-sync-clause-any_moment g c h messages placed =
    let d = c.args.disk.now in
    let D = g.D.Disk in
    let file = c.args.file in
    let alone : IsAlone (D.held d file) =
    record {
      reads = g.met.D.Disk.reads_image d file h;
      alone =
          λ image is. g.met.D.Disk.settled_alone d file image h c.requires.settled is;
    } in
    let only_now = λ (image : ℕ → List ℕ). g.met.D.Disk.only_now d image h in
    let written = inside_write D d file c.args.end messages alone placed only_now
    c.write_at.new.self _ (c.write_at.ensures.time h) in
    let wrote = c.in_ok-write_at.ensures.held h in
    let h1 = subst IsTrue (sym c.write_at.ensures.honest) h in
    inside_sync D d file c.args.end messages alone placed only_now c.write_at.new.self
    c.sync.new.self _ written wrote.done wrote.others (c.sync.ensures.time h1)

pub returns-clause-any_moment : goal.returns-clause-any_moment
returns-clause-any_moment g c h messages placed =
    let d = c.args.disk.now in
    let D = g.D.Disk in
    let file = c.args.file in
    let alone : IsAlone (D.held d file) =
    record {
      reads = g.met.D.Disk.reads_image d file h;
      alone =
          λ image is. g.met.D.Disk.settled_alone d file image h c.requires.settled is;
    } in
    let only_now = λ (image : ℕ → List ℕ). g.met.D.Disk.only_now d image h in
    let written = inside_write D d file c.args.end messages alone placed only_now
    c.write_at.new.self _ (c.write_at.ensures.time h) in
    let wrote = c.in_ok-write_at.ensures.held h in
    let h1 = subst IsTrue (sym c.write_at.ensures.honest) h in
    inside_sync D d file c.args.end messages alone placed only_now c.write_at.new.self
    c.sync.new.self _ written wrote.done wrote.others (c.sync.ensures.time h1)

pub returns-clause-after : goal.returns-clause-after
returns-clause-after g c h messages placed =
    let d = c.args.disk.now in
    let D = g.D.Disk in
    let file = c.args.file in
    let alone : IsAlone (D.held d file) =
    record {
      reads = g.met.D.Disk.reads_image d file h;
      alone =
          λ image is. g.met.D.Disk.settled_alone d file image h c.requires.settled is;
    } in
    let wrote = c.in_ok-write_at.ensures.held h in
    let h1 = subst IsTrue (sym c.write_at.ensures.honest) h in
    let synced = c.in_ok-sync.ensures.held h1 in
    comes (D.held d) (D.held c.sync.new.self) file (Adds c.args.end messages) (λ n differs. synced.others n differs
    ∙ wrote.others n differs)
    (once_opened (D.held d file) c.args.end messages alone placed (D.held c.sync.new.self file) (synced.done
    ∙ ap (λ (f : Held). settled_at f.reads) wrote.done))
