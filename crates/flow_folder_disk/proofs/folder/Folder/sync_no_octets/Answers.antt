use Rattle.std.proofs.Common.{IsTrue}
use Rattle.flow_directory.specs.File.{held_of}
use Rattle.flow_folder_disk.proofs.Leaving.{honest_then, leaves_all, leaves_next}
use Rattle.flow_folder_disk.proofs.Removing.{settled_seen, sure_seen, synced_sure}
use Rattle.flow_folder_disk.proofs.Synced.{held_within, settled_again, synced_failed}
use Rattle.flow_folder_disk.proofs.folder.Folder.sync_no_octets.Goals as goal

pub returns-in_err-sync_names-clause-synced : goal.returns-in_err-sync_names-clause-synced
returns-in_err-sync_names-clause-synced g c h =
    synced_failed (g.S.Directory.files c.args.self.now.system c.args.file)
    (g.S.Directory.files c.sync_names.new.self.system c.args.file) c.from_residual.result c.from_residual.ensures.0
    (held_within (g.S.Directory.files c.args.self.now.system c.args.file).held
    (g.S.Directory.files c.sync_names.new.self.system c.args.file).held (c.sync_names.ensures.held h c.args.file))

pub returns-in_err-sync_names-clause-settled : goal.returns-in_err-sync_names-clause-settled
returns-in_err-sync_names-clause-settled g c h =
    settled_seen (g.S.Directory.files c.args.self.now.system c.args.file)
    (g.S.Directory.files c.sync_names.new.self.system c.args.file) (c.requires.settled h)
    (c.sync_names.ensures.seen h c.args.file)

pub returns-in_err-sync_names-clause-leaves : goal.returns-in_err-sync_names-clause-leaves
returns-in_err-sync_names-clause-leaves g c h =
    (leaves_all g.S.Directory.files g.S.Directory.moment g.S.Directory.left_since c.args.self.now.system
    c.sync_names.new.self.system c.args.file (held_of (g.S.Directory.files c.args.self.now.system))
    (c.sync_names.ensures.seen h) (c.sync_names.ensures.time h))

pub returns-clause-synced : goal.returns-clause-synced
returns-clause-synced g c h =
    let k : IsTrue (g.S.Directory.honest c.sync_names.new.self.system) = honest_then
    (g.S.Directory.honest c.args.self.now.system) (g.S.Directory.honest c.sync_names.new.self.system)
    c.sync_names.ensures.honest h in
    synced_sure (g.S.Directory.files c.args.self.now.system c.args.file)
    (g.S.Directory.files c.sync_names.new.self.system c.args.file)
    (g.S.Directory.files c.settle.new.self.system c.args.file) c.settle.result
    (sure_seen (g.S.Directory.files c.args.self.now.system c.args.file)
    (g.S.Directory.files c.sync_names.new.self.system c.args.file) (c.requires.settled h).sure
    (c.sync_names.ensures.seen h c.args.file))
    (c.sync_names.ensures.held h c.args.file) (c.settle.ensures.settled k)

pub returns-clause-settled : goal.returns-clause-settled
returns-clause-settled g c h =
    let k : IsTrue (g.S.Directory.honest c.sync_names.new.self.system) = honest_then
    (g.S.Directory.honest c.args.self.now.system) (g.S.Directory.honest c.sync_names.new.self.system)
    c.sync_names.ensures.honest h in
    settled_again (g.S.Directory.files c.sync_names.new.self.system c.args.file)
    (g.S.Directory.files c.settle.new.self.system c.args.file) c.settle.result
    (settled_seen (g.S.Directory.files c.args.self.now.system c.args.file)
    (g.S.Directory.files c.sync_names.new.self.system c.args.file) (c.requires.settled h)
    (c.sync_names.ensures.seen h c.args.file))
    (c.settle.ensures.settled k)

pub returns-clause-leaves : goal.returns-clause-leaves
returns-clause-leaves g c h =
    let k : IsTrue (g.S.Directory.honest c.sync_names.new.self.system) = honest_then
    (g.S.Directory.honest c.args.self.now.system) (g.S.Directory.honest c.sync_names.new.self.system)
    c.sync_names.ensures.honest h in
    leaves_next g.S.Directory.files g.S.Directory.moment g.S.Directory.left_since c.args.self.now.system
    c.sync_names.new.self.system c.settle.new.self.system c.args.file
    (leaves_all g.S.Directory.files g.S.Directory.moment g.S.Directory.left_since c.args.self.now.system
    c.sync_names.new.self.system c.args.file (held_of (g.S.Directory.files c.args.self.now.system))
    (c.sync_names.ensures.seen h) (c.sync_names.ensures.time h))
    (c.sync_names.ensures.held h c.args.file) (c.settle.ensures.leaves k)
