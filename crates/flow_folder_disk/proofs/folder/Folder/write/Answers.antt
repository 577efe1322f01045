use Rattle.std.proofs.Common.{IsTrue, refl}
use Rattle.flow_folder_disk.proofs.Leaving.{honest_then}
use Rattle.flow_folder_disk.proofs.Removing.{on_ok}
use Rattle.flow_folder_disk.proofs.Writing.{writes_after, writes_not, leaves_write, leaves_no_write, covers_write}
use Rattle.flow_folder_disk.proofs.folder.Folder.write.Goals as goal

pub returns-in_err-begin-clause-held : goal.returns-in_err-begin-clause-held
returns-in_err-begin-clause-held g c h =
    writes_not (g.S.Directory.files c.args.self.now.system) (g.S.Directory.files c.begin.new.self.system) c.args.file
    (c.begin.ensures.held h)
    (c.begin.ensures.leaves h).others c.args.at c.args.octets.now c.from_residual.result c.from_residual.ensures.0

pub returns-in_err-begin-clause-leaves : goal.returns-in_err-begin-clause-leaves
returns-in_err-begin-clause-leaves g c h =
    leaves_no_write g.S.Directory.files g.S.Directory.moment g.S.Directory.left_since c.args.self.now.system
    c.begin.new.self.system c.args.file (c.begin.ensures.leaves h) c.args.at
    c.args.octets.now

pub returns-clause-held : goal.returns-clause-held
returns-clause-held g c h =
    let k : IsTrue (g.S.Directory.honest c.begin.new.self.system) = honest_then
    (g.S.Directory.honest c.args.self.now.system) (g.S.Directory.honest c.begin.new.self.system) c.begin.ensures.honest
    h in
    writes_after (g.S.Directory.files c.args.self.now.system) (g.S.Directory.files c.begin.new.self.system)
    (g.S.Directory.files c.write_pending-2.new.self.system)
    c.args.file c.args.file refl (c.begin.ensures.held h) (c.begin.ensures.leaves h).others c.args.at c.args.octets.now
    c.write_pending-2.result (c.write_pending-2.ensures.held k)

pub returns-clause-leaves : goal.returns-clause-leaves
returns-clause-leaves g c h =
    let k : IsTrue (g.S.Directory.honest c.begin.new.self.system) = honest_then
    (g.S.Directory.honest c.args.self.now.system) (g.S.Directory.honest c.begin.new.self.system) c.begin.ensures.honest
    h in
    leaves_write g.S.Directory.files g.S.Directory.moment g.S.Directory.left_since c.args.self.now.system
    c.begin.new.self.system c.write_pending-2.new.self.system c.args.file
    (c.begin.ensures.leaves h) (c.begin.ensures.held h) c.args.at c.args.octets.now (c.write_pending-2.ensures.leaves k)

pub returns-clause-covered : goal.returns-clause-covered
returns-clause-covered g c h =
    let k : IsTrue (g.S.Directory.honest c.begin.new.self.system) = honest_then
    (g.S.Directory.honest c.args.self.now.system) (g.S.Directory.honest c.begin.new.self.system) c.begin.ensures.honest
    h in
    on_ok c.write_pending-2.result (λ covers. covers_write g.S.Directory.files g.S.Directory.moment
    g.S.Directory.left_since c.args.self.now.system c.begin.new.self.system
    c.write_pending-2.new.self.system c.args.file (c.begin.ensures.leaves h) (c.begin.ensures.held h) c.args.at
    c.args.octets.now covers) (c.write_pending-2.ensures.covered k)
