use Rattle.std.proofs.Common.{◌≡◌, IsTrue, subst, ◌∙◌}
use Rattle.flow_disk.specs.Disk.{Held, IsImage}
use Rattle.flow_directory.specs.File.{held_of}
use Rattle.flow_folder_disk.proofs.Leaving.{honest_then, leaves_all, leaves_then}
use Rattle.flow_folder_disk.proofs.folder.Folder.take_empty_name.Goals as goal

pub returns-clause-leaves : goal.returns-clause-leaves
returns-clause-leaves g c h =
    let k : IsTrue (g.S.Directory.honest c.unname_empty.new.self.system) = honest_then
    (g.S.Directory.honest c.args.self.now.system) (g.S.Directory.honest c.unname_empty.new.self.system)
    c.unname_empty.ensures.honest h in
    let l : IsTrue (g.S.Directory.honest c.sync_names.new.self.system) = honest_then
    (g.S.Directory.honest c.unname_empty.new.self.system) (g.S.Directory.honest c.sync_names.new.self.system)
    c.sync_names.ensures.honest k in
    let first : (g.S.Directory.files c.unname_empty.new.self.system c.args.file).held ≡
    (g.S.Directory.files c.args.self.now.system c.args.file).held = c.unname_empty.ensures.held h in
    let both : (g.S.Directory.files c.sync_names.new.self.system c.args.file).held ≡
    (g.S.Directory.files c.args.self.now.system c.args.file).held
    = c.sync_names.ensures.held k c.args.file ∙ first in
    leaves_then g.S.Directory.files g.S.Directory.moment g.S.Directory.left_since c.args.self.now.system
    c.sync_names.new.self.system c.settle.new.self.system c.args.file
    (leaves_then g.S.Directory.files g.S.Directory.moment g.S.Directory.left_since c.args.self.now.system
    c.unname_empty.new.self.system c.sync_names.new.self.system c.args.file (c.unname_empty.ensures.leaves h)
    (λ image is. subst (λ (x : Held). IsImage x image) first is)
    (leaves_all g.S.Directory.files g.S.Directory.moment g.S.Directory.left_since c.unname_empty.new.self.system
    c.sync_names.new.self.system c.args.file (held_of (g.S.Directory.files c.unname_empty.new.self.system))
    (c.sync_names.ensures.seen k) (c.sync_names.ensures.time k)))
    (λ image is. subst (λ (x : Held). IsImage x image) both is) (c.settle.ensures.leaves l)
