use Rattle.std.proofs.Common.{◌≡◌, ◌∙◌, ◌++◌, IsTrue, sym, ap, subst}
use Rattle.flow_disk.specs.Disk.{Held, IsImage}
use Rattle.flow_disk.proofs.Images.{settled_one}
use Rattle.flow_disk.proofs.Calls.{comes}
use Rattle.flow_segment.specs.Steps.{trailer, Becomes}
use Rattle.flow_segment.proofs.Making.{LeavesOthers, begun, changed_by, settled_by, prefix_put}
use Rattle.flow_segment.proofs.files.make_segment.Given.{Over}
use Rattle.flow_segment.proofs.files.make_segment.Goals.{After-write_at, After-write_at-2, After-cut, After-sync}
use Rattle.flow_segment.proofs.files.make_segment.Goals.{In_ok-cut}
use Rattle.flow_segment.proofs.files.make_segment.Goals as goal

module _ (g : Over) (c : After-write_at g) where
  one : IsTrue (g.D.Disk.honest c.args.disk.now)
      → LeavesOthers g.D.Disk c.args.disk.now c.args.file c.write_at.new.self
  one h = changed_by _
      (begun h (g.met.D.Disk.reads_image c.args.disk.now c.args.file h)
      (λ image. g.met.D.Disk.only_now c.args.disk.now image h))
      c.write_at.ensures.honest c.write_at.ensures.time (λ t. (c.write_at.ensures.held t).others)

module _ (g : Over) (c : After-write_at-2 g) where
  two : LeavesOthers g.D.Disk c.args.disk.now c.args.file c.write_at.new.self
      → LeavesOthers g.D.Disk c.args.disk.now c.args.file c.write_at-2.new.self
  two so_far = changed_by _ so_far c.write_at-2.ensures.honest c.write_at-2.ensures.time
      (λ t. (c.write_at-2.ensures.held t).others)

module _ (g : Over) (c : After-cut g) where
  three : LeavesOthers g.D.Disk c.args.disk.now c.args.file c.write_at-2.new.self
      → LeavesOthers g.D.Disk c.args.disk.now c.args.file c.cut.new.self
  three so_far = changed_by _ so_far c.cut.ensures.honest c.cut.ensures.time (λ t. (c.cut.ensures.held t).others)

module _ (g : Over) (c : After-sync g) where
  four : LeavesOthers g.D.Disk c.args.disk.now c.args.file c.cut.new.self
      → LeavesOthers g.D.Disk c.args.disk.now c.args.file c.sync.new.self
  four so_far = settled_by so_far c.sync.ensures.honest c.sync.ensures.time (λ t. (c.sync.ensures.held t).others)

pub returns-in_err-write_at-clause-any_moment : goal.returns-in_err-write_at-clause-any_moment
returns-in_err-write_at-clause-any_moment g c h =
    (one g (goal.at.returns-in_err-write_at-clause-any_moment g c).After-write_at h).run

pub returns-in_err-write_at-2-clause-any_moment : goal.returns-in_err-write_at-2-clause-any_moment
returns-in_err-write_at-2-clause-any_moment g c h = let at = goal.at.returns-in_err-write_at-2-clause-any_moment g c in
    (two g at.After-write_at-2 (one g at.After-write_at h)).run

pub returns-in_err-cut-clause-any_moment : goal.returns-in_err-cut-clause-any_moment
returns-in_err-cut-clause-any_moment g c h = let at = goal.at.returns-in_err-cut-clause-any_moment g c in
    (three g at.After-cut (two g at.After-write_at-2 (one g at.After-write_at h))).run

pub returns-in_err-sync-clause-any_moment : goal.returns-in_err-sync-clause-any_moment
returns-in_err-sync-clause-any_moment g c h = let at = goal.at.returns-in_err-sync-clause-any_moment g c in
    (four g at.After-sync (three g at.After-cut (two g at.After-write_at-2 (one g at.After-write_at h)))).run

pub returns-clause-any_moment : goal.returns-clause-any_moment
returns-clause-any_moment g c h = let at = goal.at.returns-clause-any_moment g c in
    (four g at.After-sync (three g at.After-cut (two g at.After-write_at-2 (one g at.After-write_at h)))).run

-- what the file reads as once it is cut
now : (g : Over) (c : In_ok-cut g) → IsTrue (g.D.Disk.honest c.args.disk.now)
    → (g.D.Disk.held c.cut.new.self c.args.file).reads ≡ c.args.prefix.now ++ trailer
now g c h =
    let h1 = subst IsTrue (sym c.write_at.ensures.honest) h in
    let h2 = subst IsTrue (sym c.write_at-2.ensures.honest) h1 in
    let reads = λ (x : Held). x.reads in
    let held = λ (d : g.row.D.Denot). g.D.Disk.held d c.args.file in
    prefix_put c.args.prefix.now (held c.args.disk.now) (held c.write_at.new.self) (held c.write_at-2.new.self)
    (held c.cut.new.self) (ap reads (c.in_ok-write_at.ensures.held h).done)
    (ap reads (c.in_ok-write_at-2.ensures.held h1).done) (ap reads (c.in_ok-cut.ensures.held h2).done)

pub returns-clause-octets : goal.returns-clause-octets
returns-clause-octets g c h =
    let at = goal.at.returns-clause-octets g c in
    let cut = three g at.After-cut (two g at.After-write_at-2 (one g at.After-write_at h)) in
    ap (λ (x : Held). x.reads) (c.in_ok-sync.ensures.held cut.honest).done ∙ now g at.In_ok-cut h

pub returns-clause-after : goal.returns-clause-after
returns-clause-after g c h image is =
    let D = g.D.Disk in
    let at = goal.at.returns-clause-after g c in
    let cut = three g at.After-cut (two g at.After-write_at-2 (one g at.After-write_at h)) in
    let settled = four g at.After-sync cut in
    comes (D.held c.args.disk.now) (D.held c.sync.new.self) c.args.file (Becomes (c.args.prefix.now ++ trailer))
    settled.others
    (λ b has. (
      (D.held c.args.disk.now c.args.file).reads,
      settled.image,
      settled_one (D.held c.cut.new.self c.args.file).reads b
          (subst (λ (x : Held). IsImage x b) (c.in_ok-sync.ensures.held cut.honest).done has)
          ∙ now g at.In_ok-cut h,
    )) image is
