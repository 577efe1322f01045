use Rattle.std.proofs.Common.{IsTrue}
use Rattle.flow_directory.specs.File.{held_of}
use Rattle.flow_folder_disk.proofs.Leaving.{honest_then, leaves_all, leaves_then, seen_same, seen_then}
use Rattle.flow_folder_disk.proofs.Synced.{held_within, synced_failed, synced_pending, synced_seen}
use Rattle.flow_folder_disk.proofs.folder.Folder.sync_pending.Goals as goal

pub returns-in_err-settle_pending-clause-synced : goal.returns-in_err-settle_pending-clause-synced
returns-in_err-settle_pending-clause-synced g c h =
    synced_failed (g.S.Directory.files c.args.self.now.system c.args.file)
    (g.S.Directory.files c.settle_pending.new.self.system c.args.file) c.from_residual.result c.from_residual.ensures.0
    (c.settle_pending.ensures.settles h).within

pub returns-in_err-sync_names-clause-synced : goal.returns-in_err-sync_names-clause-synced
returns-in_err-sync_names-clause-synced g c h =
    let k : IsTrue (g.S.Directory.honest c.settle_pending.new.self.system) = honest_then
    (g.S.Directory.honest c.args.self.now.system) (g.S.Directory.honest c.settle_pending.new.self.system)
    c.settle_pending.ensures.honest h in
    synced_failed (g.S.Directory.files c.args.self.now.system c.args.file)
    (g.S.Directory.files c.sync_names.new.self.system c.args.file) c.from_residual-in_err-sync_names.result
    c.from_residual-in_err-sync_names.ensures.0
    (λ image is. (c.settle_pending.ensures.settles h).within image
    (held_within (g.S.Directory.files c.settle_pending.new.self.system c.args.file).held
    (g.S.Directory.files c.sync_names.new.self.system c.args.file).held (c.sync_names.ensures.held k c.args.file) image
    is))

pub returns-in_err-sync_names-clause-leaves : goal.returns-in_err-sync_names-clause-leaves
returns-in_err-sync_names-clause-leaves g c h =
    let k : IsTrue (g.S.Directory.honest c.settle_pending.new.self.system) = honest_then
    (g.S.Directory.honest c.args.self.now.system) (g.S.Directory.honest c.settle_pending.new.self.system)
    c.settle_pending.ensures.honest h in
    (leaves_then g.S.Directory.files g.S.Directory.moment g.S.Directory.left_since c.args.self.now.system
    c.settle_pending.new.self.system c.sync_names.new.self.system c.args.file (c.settle_pending.ensures.leaves h)
    (c.settle_pending.ensures.settles h).within
    (leaves_all g.S.Directory.files g.S.Directory.moment g.S.Directory.left_since c.settle_pending.new.self.system
    c.sync_names.new.self.system c.args.file (held_of (g.S.Directory.files c.settle_pending.new.self.system))
    (c.sync_names.ensures.seen k) (c.sync_names.ensures.time k)))

pub returns-clause-synced : goal.returns-clause-synced
returns-clause-synced g c h =
    let k : IsTrue (g.S.Directory.honest c.settle_pending.new.self.system) = honest_then
    (g.S.Directory.honest c.args.self.now.system) (g.S.Directory.honest c.settle_pending.new.self.system)
    c.settle_pending.ensures.honest h in
    let l : IsTrue (g.S.Directory.honest c.sync_names.new.self.system) = honest_then
    (g.S.Directory.honest c.settle_pending.new.self.system) (g.S.Directory.honest c.sync_names.new.self.system)
    c.sync_names.ensures.honest k in
    synced_seen (g.S.Directory.files c.args.self.now.system c.args.file)
    (g.S.Directory.files c.settle_pending.new.self.system c.args.file)
    (g.S.Directory.files c.forget.new.self.system c.args.file) tt _
    (synced_pending (g.S.Directory.files c.args.self.now.system c.args.file)
    (g.S.Directory.files c.settle_pending.new.self.system c.args.file) _ (c.in_ok-settle_pending.ensures.settles h))
    (seen_then (g.S.Directory.files c.settle_pending.new.self.system c.args.file)
    (g.S.Directory.files c.sync_names.new.self.system c.args.file)
    (g.S.Directory.files c.forget.new.self.system c.args.file) (c.sync_names.ensures.seen k c.args.file)
    (seen_same (g.S.Directory.files c.sync_names.new.self.system c.args.file)
    (g.S.Directory.files c.forget.new.self.system c.args.file) (c.forget.ensures.files l c.args.file)))

pub returns-clause-leaves : goal.returns-clause-leaves
returns-clause-leaves g c h =
    let k : IsTrue (g.S.Directory.honest c.settle_pending.new.self.system) = honest_then
    (g.S.Directory.honest c.args.self.now.system) (g.S.Directory.honest c.settle_pending.new.self.system)
    c.settle_pending.ensures.honest h in
    let l : IsTrue (g.S.Directory.honest c.sync_names.new.self.system) = honest_then
    (g.S.Directory.honest c.settle_pending.new.self.system) (g.S.Directory.honest c.sync_names.new.self.system)
    c.sync_names.ensures.honest k in
    leaves_then g.S.Directory.files g.S.Directory.moment g.S.Directory.left_since c.args.self.now.system
    c.sync_names.new.self.system c.forget.new.self.system c.args.file
    (leaves_then g.S.Directory.files g.S.Directory.moment g.S.Directory.left_since c.args.self.now.system
    c.settle_pending.new.self.system c.sync_names.new.self.system c.args.file (c.settle_pending.ensures.leaves h)
    (c.settle_pending.ensures.settles h).within
    (leaves_all g.S.Directory.files g.S.Directory.moment g.S.Directory.left_since c.settle_pending.new.self.system
    c.sync_names.new.self.system c.args.file (held_of (g.S.Directory.files c.settle_pending.new.self.system))
    (c.sync_names.ensures.seen k) (c.sync_names.ensures.time k)))
    (λ image is. (c.settle_pending.ensures.settles h).within image
    (held_within (g.S.Directory.files c.settle_pending.new.self.system c.args.file).held
    (g.S.Directory.files c.sync_names.new.self.system c.args.file).held (c.sync_names.ensures.held k c.args.file) image
    is))
    (c.forget.ensures.leaves l)
