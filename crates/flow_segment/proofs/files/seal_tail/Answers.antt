use Rattle.std.proofs.Common.{◌≤◌, ◌∙◌, ℕ, List, IsTrue, length, sym, ap, subst, arith}
use Rattle.flow_disk.specs.Disk.{Held, IsImage}
use Rattle.flow_disk.specs.Laws.{IsAlone}
use Rattle.flow_disk.proofs.Images.{settled_one}
use Rattle.flow_disk.proofs.Calls.{comes}
use Rattle.flow_segment.specs.Steps.{BecomesFront}
use Rattle.flow_segment.proofs.Sealing.{inside_cut, inside_sync}
use Rattle.flow_segment.proofs.files.seal_tail.Goals as goal

pub returns-in_err-cut-clause-any_moment : goal.returns-in_err-cut-clause-any_moment
returns-in_err-cut-clause-any_moment g c h =
    let D = g.D.Disk in
    let d0 = c.args.disk.now in
    let f = c.args.file in
    let alone : IsAlone (D.held d0 f) =
    record {
      reads = g.met.D.Disk.reads_image d0 f h;
      alone = λ image is. g.met.D.Disk.settled_alone d0 f image h c.requires.settled is;
    } in
    let room : c.args.length ≤ length (D.held d0 f).reads =
    omega (arith, g.met.D.Disk.has_size d0 f h, c.requires.room) in
    inside_cut D d0 f c.args.length alone room (g.met.D.Disk.fast_within d0 f h)
    (λ image. g.met.D.Disk.only_now d0 image h) c.cut.new.self (c.cut.ensures.time h)

pub returns-in_err-sync-clause-any_moment : goal.returns-in_err-sync-clause-any_moment
returns-in_err-sync-clause-any_moment g c h =
    let D = g.D.Disk in
    let d0 = c.args.disk.now in
    let f = c.args.file in
    let alone : IsAlone (D.held d0 f) =
    record {
      reads = g.met.D.Disk.reads_image d0 f h;
      alone = λ image is. g.met.D.Disk.settled_alone d0 f image h c.requires.settled is;
    } in
    let room : c.args.length ≤ length (D.held d0 f).reads =
    omega (arith, g.met.D.Disk.has_size d0 f h, c.requires.room) in
    let whole = g.met.D.Disk.fast_within d0 f h in
    let now = λ (image : ℕ → List ℕ). g.met.D.Disk.only_now d0 image h in
    let so_far = inside_cut D d0 f c.args.length alone room whole now c.cut.new.self
    (c.cut.ensures.time h) in
    let done = c.in_ok-cut.ensures.held h in
    inside_sync D d0 f c.args.length alone room whole now c.cut.new.self c.sync.new.self _
    so_far done.done done.others (c.sync.ensures.time (subst IsTrue (sym c.cut.ensures.honest) h))

pub returns-clause-any_moment : goal.returns-clause-any_moment
returns-clause-any_moment g c h =
    let D = g.D.Disk in
    let d0 = c.args.disk.now in
    let f = c.args.file in
    let alone : IsAlone (D.held d0 f) =
    record {
      reads = g.met.D.Disk.reads_image d0 f h;
      alone = λ image is. g.met.D.Disk.settled_alone d0 f image h c.requires.settled is;
    } in
    let room : c.args.length ≤ length (D.held d0 f).reads =
    omega (arith, g.met.D.Disk.has_size d0 f h, c.requires.room) in
    let whole = g.met.D.Disk.fast_within d0 f h in
    let now = λ (image : ℕ → List ℕ). g.met.D.Disk.only_now d0 image h in
    let so_far = inside_cut D d0 f c.args.length alone room whole now c.cut.new.self
    (c.cut.ensures.time h) in
    let done = c.in_ok-cut.ensures.held h in
    inside_sync D d0 f c.args.length alone room whole now c.cut.new.self c.sync.new.self _
    so_far done.done done.others (c.sync.ensures.time (subst IsTrue (sym c.cut.ensures.honest) h))

pub returns-clause-octets : goal.returns-clause-octets
returns-clause-octets g c h =
    let h1 = subst IsTrue (sym c.cut.ensures.honest) h in
    let reads = λ (x : Held). x.reads in
    ap reads (c.in_ok-sync.ensures.held h1).done ∙ ap reads (c.in_ok-cut.ensures.held h).done

pub returns-clause-after : goal.returns-clause-after
returns-clause-after g c h image is =
    let D = g.D.Disk in
    let d0 = c.args.disk.now in
    let f = c.args.file in
    let h1 = subst IsTrue (sym c.cut.ensures.honest) h in
    let one = c.in_ok-cut.ensures.held h in
    let two = c.in_ok-sync.ensures.held h1 in
    comes (D.held d0) (D.held c.sync.new.self) f (BecomesFront c.args.length) (λ n differs. two.others n differs
    ∙ one.others n differs)
    (λ b has. (
      (D.held d0 f).reads,
      g.met.D.Disk.reads_image d0 f h,
      settled_one (D.held c.cut.new.self f).reads b (subst (λ (x : Held). IsImage x b) two.done has)
          ∙ ap (λ (x : Held). x.reads) one.done,
    )) image is
