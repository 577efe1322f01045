use Rattle.std.proofs.Common.{IsTrue, sym, subst}
use Rattle.flow_directory.specs.File.{held_of}
use Rattle.flow_folder_disk.specs.Known.{Leaves, IsSynced}
use Rattle.flow_folder_disk.proofs.folder.Folder.sync_begun.Goals as goal

pub returns-clause-leaves : goal.returns-clause-leaves
returns-clause-leaves g c h =
    let k : IsTrue (g.S.Directory.honest c.keep_found.new.self.system) = subst (λ d. IsTrue (g.S.Directory.honest d))
    (sym c.keep_found.ensures.system) h in
    subst (λ d. Leaves g.S.Directory.files g.S.Directory.moment g.S.Directory.left_since d
    c.sync_pending.new.self.system c.args.file (held_of (g.S.Directory.files d))) c.keep_found.ensures.system
    (c.sync_pending.ensures.leaves k)

pub returns-clause-synced : goal.returns-clause-synced
returns-clause-synced g c h =
    let k : IsTrue (g.S.Directory.honest c.keep_found.new.self.system) = subst (λ d. IsTrue (g.S.Directory.honest d))
    (sym c.keep_found.ensures.system) h in
    subst (λ d. IsSynced (g.S.Directory.files d c.args.file)
    (g.S.Directory.files c.sync_pending.new.self.system c.args.file) c.sync_pending.result) c.keep_found.ensures.system
    (c.sync_pending.ensures.synced k)
