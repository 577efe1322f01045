use Rattle.std.proofs.Common.{IsTrue}
use Rattle.flow_folder_disk.proofs.Leaving.{honest_then, leaves_next}
use Rattle.flow_folder_disk.proofs.Synced.{held_within, synced_failed, synced_from}
use Rattle.flow_folder_disk.proofs.folder.Folder.sync_found.Goals as goal

pub returns-in_err-found-clause-synced : goal.returns-in_err-found-clause-synced
returns-in_err-found-clause-synced g c h =
    synced_failed (g.S.Directory.files c.args.self.now.system c.args.file)
    (g.S.Directory.files c.find_to_sync.new.self.system c.args.file) c.from_residual.result c.from_residual.ensures.0
    (held_within (g.S.Directory.files c.args.self.now.system c.args.file).held
    (g.S.Directory.files c.find_to_sync.new.self.system c.args.file).held (c.find_to_sync.ensures.seen h).held)

pub returns-clause-synced : goal.returns-clause-synced
returns-clause-synced g c h =
    let k : IsTrue (g.S.Directory.honest c.find_to_sync.new.self.system) = honest_then
    (g.S.Directory.honest c.args.self.now.system) (g.S.Directory.honest c.find_to_sync.new.self.system)
    c.find_to_sync.ensures.honest h in
    synced_from (g.S.Directory.files c.args.self.now.system c.args.file)
    (g.S.Directory.files c.find_to_sync.new.self.system c.args.file)
    (g.S.Directory.files c.sync_opened.new.self.system c.args.file) c.sync_opened.result
    (c.find_to_sync.ensures.seen h).held (c.sync_opened.ensures.synced k)

pub returns-clause-leaves : goal.returns-clause-leaves
returns-clause-leaves g c h =
    let k : IsTrue (g.S.Directory.honest c.find_to_sync.new.self.system) = honest_then
    (g.S.Directory.honest c.args.self.now.system) (g.S.Directory.honest c.find_to_sync.new.self.system)
    c.find_to_sync.ensures.honest h in
    leaves_next g.S.Directory.files g.S.Directory.moment g.S.Directory.left_since c.args.self.now.system
    c.find_to_sync.new.self.system c.sync_opened.new.self.system c.args.file (c.find_to_sync.ensures.leaves h)
    (c.find_to_sync.ensures.seen h).held
    (c.sync_opened.ensures.leaves k)
