use Rattle.std.proofs.Common.{IsTrue}
use Rattle.flow_disk.specs.Files.{while_removing}
use Rattle.flow_directory.specs.File.{held_of}
use Rattle.flow_folder_disk.proofs.Leaving.{honest_then, leaves_one, leaves_removal}
use Rattle.flow_folder_disk.proofs.folder.Folder.unname.Goals as goal

pub returns-then-not-branch-clause-leaves : goal.returns-then-not-branch-clause-leaves
returns-then-not-branch-clause-leaves g c h =
    let k : IsTrue (g.S.Directory.honest c.unlink.new.self) = honest_then (g.S.Directory.honest c.args.self.now.system)
    (g.S.Directory.honest c.unlink.new.self) c.unlink.ensures.honest h in
    leaves_removal g.S.Directory.files g.S.Directory.moment g.S.Directory.left_since c.args.self.now.system
    c.unlink.new.self c.name_and_unname.new.self.system c.args.file
    (leaves_one g.S.Directory.files g.S.Directory.moment g.S.Directory.left_since c.args.self.now.system
    c.unlink.new.self c.args.file (while_removing (held_of (g.S.Directory.files c.args.self.now.system)) c.args.file)
    (c.unlink.ensures.others h) (c.unlink.ensures.time h)) (c.name_and_unname.ensures.leaves k)
