use Rattle.std.proofs.Common.{IsTrue}
use Rattle.flow_directory.specs.File.{held_of}
use Rattle.flow_folder_disk.proofs.Leaving.{honest_then, leaves_all, leaves_removal}
use Rattle.flow_folder_disk.proofs.folder.Folder.take_name.Goals as goal

pub returns-in_err-sync_names-clause-leaves : goal.returns-in_err-sync_names-clause-leaves
returns-in_err-sync_names-clause-leaves g c h =
    let k : IsTrue (g.S.Directory.honest c.unname.new.self.system) = honest_then
    (g.S.Directory.honest c.args.self.now.system) (g.S.Directory.honest c.unname.new.self.system)
    c.unname.ensures.honest h in
    leaves_removal g.S.Directory.files g.S.Directory.moment g.S.Directory.left_since c.args.self.now.system
    c.unname.new.self.system c.sync_names.new.self.system c.args.file (c.unname.ensures.leaves h)
    (leaves_all g.S.Directory.files g.S.Directory.moment g.S.Directory.left_since c.unname.new.self.system
    c.sync_names.new.self.system c.args.file (held_of (g.S.Directory.files c.unname.new.self.system))
    (c.sync_names.ensures.seen k)
    (c.sync_names.ensures.time k))

pub returns-clause-leaves : goal.returns-clause-leaves
returns-clause-leaves g c h =
    let k : IsTrue (g.S.Directory.honest c.unname.new.self.system) = honest_then
    (g.S.Directory.honest c.args.self.now.system) (g.S.Directory.honest c.unname.new.self.system)
    c.unname.ensures.honest h in
    let l : IsTrue (g.S.Directory.honest c.sync_names.new.self.system) = honest_then
    (g.S.Directory.honest c.unname.new.self.system) (g.S.Directory.honest c.sync_names.new.self.system)
    c.sync_names.ensures.honest k in
    leaves_removal g.S.Directory.files g.S.Directory.moment g.S.Directory.left_since c.args.self.now.system
    c.sync_names.new.self.system c.settle.new.self.system c.args.file
    (leaves_removal g.S.Directory.files g.S.Directory.moment g.S.Directory.left_since c.args.self.now.system
    c.unname.new.self.system c.sync_names.new.self.system c.args.file (c.unname.ensures.leaves h)
    (leaves_all g.S.Directory.files g.S.Directory.moment g.S.Directory.left_since c.unname.new.self.system
    c.sync_names.new.self.system c.args.file (held_of (g.S.Directory.files c.unname.new.self.system))
    (c.sync_names.ensures.seen k)
    (c.sync_names.ensures.time k))) (c.settle.ensures.leaves l)
