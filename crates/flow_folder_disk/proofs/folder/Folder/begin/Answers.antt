use Rattle.std.proofs.Common.{IsTrue, sym, subst}
use Rattle.flow_directory.specs.File.{held_of}
use Rattle.flow_folder_disk.specs.Known.{Leaves}
use Rattle.flow_folder_disk.proofs.Leaving.{honest_then, leaves_next}
use Rattle.flow_folder_disk.proofs.folder.Folder.begin.Goals as goal

pub returns-in_err-make-clause-leaves : goal.returns-in_err-make-clause-leaves
returns-in_err-make-clause-leaves g c h =
    let k : IsTrue (g.S.Directory.honest c.begin_found.new.self.system) = honest_then
    (g.S.Directory.honest c.args.self.now.system) (g.S.Directory.honest c.begin_found.new.self.system)
    c.begin_found.ensures.honest h in
    leaves_next g.S.Directory.files g.S.Directory.moment g.S.Directory.left_since c.args.self.now.system
    c.begin_found.new.self.system c.make.new.self.system c.args.file (c.begin_found.ensures.leaves h)
    (c.begin_found.ensures.held h) (c.make.ensures.leaves k)

pub returns-clause-leaves : goal.returns-clause-leaves
returns-clause-leaves g c h =
    let k : IsTrue (g.S.Directory.honest c.begin_found.new.self.system) = honest_then
    (g.S.Directory.honest c.args.self.now.system) (g.S.Directory.honest c.begin_found.new.self.system)
    c.begin_found.ensures.honest h in
    subst (λ d. Leaves g.S.Directory.files g.S.Directory.moment g.S.Directory.left_since c.args.self.now.system d
    c.args.file (held_of (g.S.Directory.files c.args.self.now.system))) (sym c.keep_new.ensures.system)
    (leaves_next g.S.Directory.files g.S.Directory.moment g.S.Directory.left_since c.args.self.now.system
    c.begin_found.new.self.system c.make.new.self.system c.args.file (c.begin_found.ensures.leaves h)
    (c.begin_found.ensures.held h) (c.make.ensures.leaves k))
