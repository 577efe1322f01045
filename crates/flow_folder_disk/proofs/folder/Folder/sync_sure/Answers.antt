use Rattle.std.proofs.Common.{IsTrue}
use Rattle.flow_directory.specs.File.{held_of}
use Rattle.flow_folder_disk.proofs.Leaving.{honest_then, leaves_all, leaves_then}
use Rattle.flow_folder_disk.proofs.Synced.{synced_failed, synced_seen}
use Rattle.flow_folder_disk.proofs.folder.Folder.sync_sure.Goals as goal

pub returns-in_err-sync_open-clause-synced : goal.returns-in_err-sync_open-clause-synced
returns-in_err-sync_open-clause-synced g c h =
    synced_failed (g.S.Directory.files c.args.self.now.system c.args.file)
    (g.S.Directory.files c.sync_open.new.self.system c.args.file) c.from_residual.result c.from_residual.ensures.0
    (c.sync_open.ensures.synced h).within

pub returns-clause-synced : goal.returns-clause-synced
returns-clause-synced g c h =
    let k : IsTrue (g.S.Directory.honest c.sync_open.new.self.system) = honest_then
    (g.S.Directory.honest c.args.self.now.system) (g.S.Directory.honest c.sync_open.new.self.system)
    c.sync_open.ensures.honest h in
    synced_seen (g.S.Directory.files c.args.self.now.system c.args.file)
    (g.S.Directory.files c.sync_open.new.self.system c.args.file)
    (g.S.Directory.files c.sync_names.new.self.system c.args.file) tt c.sync_names.result
    (c.in_ok-sync_open.ensures.synced h)
    (c.sync_names.ensures.seen k c.args.file)

pub returns-clause-leaves : goal.returns-clause-leaves
returns-clause-leaves g c h =
    let k : IsTrue (g.S.Directory.honest c.sync_open.new.self.system) = honest_then
    (g.S.Directory.honest c.args.self.now.system) (g.S.Directory.honest c.sync_open.new.self.system)
    c.sync_open.ensures.honest h in
    leaves_then g.S.Directory.files g.S.Directory.moment g.S.Directory.left_since c.args.self.now.system
    c.sync_open.new.self.system c.sync_names.new.self.system c.args.file (c.sync_open.ensures.leaves h)
    (c.sync_open.ensures.synced h).within
    (leaves_all g.S.Directory.files g.S.Directory.moment g.S.Directory.left_since c.sync_open.new.self.system
    c.sync_names.new.self.system c.args.file (held_of (g.S.Directory.files c.sync_open.new.self.system))
    (c.sync_names.ensures.seen k) (c.sync_names.ensures.time k))
