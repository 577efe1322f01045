use Rattle.std.proofs.Common.{IsTrue, ap}
use Rattle.flow_directory.specs.File.{File}
use Rattle.flow_folder_disk.proofs.Leaving.{honest_then, leaves_removal_again}
use Rattle.flow_folder_disk.proofs.Writing.{leaves_remove}
use Rattle.flow_folder_disk.proofs.folder.Folder.remove.Goals as goal

pub returns-then-is_err-clause-leaves : goal.returns-then-is_err-clause-leaves
returns-then-is_err-clause-leaves g c h =
    let k : IsTrue (g.S.Directory.honest c.forget.new.self.system) = honest_then
    (g.S.Directory.honest c.args.self.now.system) (g.S.Directory.honest c.forget.new.self.system)
    c.forget.ensures.honest h in
    let l : IsTrue (g.S.Directory.honest c.take_name-removed.new.self.system) = honest_then
    (g.S.Directory.honest c.forget.new.self.system) (g.S.Directory.honest c.take_name-removed.new.self.system)
    c.take_name-removed.ensures.honest k in
    leaves_removal_again g.S.Directory.files g.S.Directory.moment g.S.Directory.left_since c.args.self.now.system
    c.take_name-removed.new.self.system c.take_name.new.self.system c.args.file
    (leaves_remove g.S.Directory.files g.S.Directory.moment g.S.Directory.left_since c.args.self.now.system
    c.forget.new.self.system c.take_name-removed.new.self.system c.args.file (c.forget.ensures.leaves h)
    (ap (λ (f : File). f.held) (c.forget.ensures.files h c.args.file)) (c.take_name-removed.ensures.leaves k))
    (c.take_name.ensures.leaves l)

pub returns-else-is_err-clause-leaves : goal.returns-else-is_err-clause-leaves
returns-else-is_err-clause-leaves g c h =
    let k : IsTrue (g.S.Directory.honest c.forget.new.self.system) = honest_then
    (g.S.Directory.honest c.args.self.now.system) (g.S.Directory.honest c.forget.new.self.system)
    c.forget.ensures.honest h in
    leaves_remove g.S.Directory.files g.S.Directory.moment g.S.Directory.left_since c.args.self.now.system
    c.forget.new.self.system c.take_name-removed.new.self.system c.args.file (c.forget.ensures.leaves h)
    (ap (λ (f : File). f.held) (c.forget.ensures.files h c.args.file)) (c.take_name-removed.ensures.leaves k)
