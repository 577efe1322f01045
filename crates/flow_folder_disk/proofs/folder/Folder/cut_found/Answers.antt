use Rattle.std.proofs.Common.{IsTrue, refl}
use Rattle.flow_folder_disk.proofs.Leaving.{honest_then}
use Rattle.flow_folder_disk.proofs.Removing.{on_ok}
use Rattle.flow_folder_disk.proofs.Writing.{covers_cut, cuts_after, leaves_cut}
use Rattle.flow_folder_disk.proofs.folder.Folder.cut_found.Goals as goal

pub returns-clause-held : goal.returns-clause-held
returns-clause-held g c h =
    let k : IsTrue (g.S.Directory.honest c.begin_found.new.self.system) = honest_then
    (g.S.Directory.honest c.args.self.now.system) (g.S.Directory.honest c.begin_found.new.self.system)
    c.begin_found.ensures.honest h in
    cuts_after (g.S.Directory.files c.args.self.now.system) (g.S.Directory.files c.begin_found.new.self.system)
    (g.S.Directory.files c.loosen.new.self.system) c.args.file c.args.file refl (c.begin_found.ensures.held h)
    (c.begin_found.ensures.leaves h).others c.args.count c.loosen.result
    (c.loosen.ensures.held k)

pub returns-clause-leaves : goal.returns-clause-leaves
returns-clause-leaves g c h =
    let k : IsTrue (g.S.Directory.honest c.begin_found.new.self.system) = honest_then
    (g.S.Directory.honest c.args.self.now.system) (g.S.Directory.honest c.begin_found.new.self.system)
    c.begin_found.ensures.honest h in
    leaves_cut g.S.Directory.files g.S.Directory.moment g.S.Directory.left_since c.args.self.now.system
    c.begin_found.new.self.system c.loosen.new.self.system c.args.file (c.begin_found.ensures.leaves h)
    (c.begin_found.ensures.held h) c.args.count (c.loosen.ensures.leaves k)

pub returns-clause-covered : goal.returns-clause-covered
returns-clause-covered g c h =
    let k : IsTrue (g.S.Directory.honest c.begin_found.new.self.system) = honest_then
    (g.S.Directory.honest c.args.self.now.system) (g.S.Directory.honest c.begin_found.new.self.system)
    c.begin_found.ensures.honest h in
    on_ok c.loosen.result (λ covers. covers_cut g.S.Directory.files g.S.Directory.moment g.S.Directory.left_since
    c.args.self.now.system c.begin_found.new.self.system c.loosen.new.self.system c.args.file
    (c.begin_found.ensures.leaves h) (c.begin_found.ensures.held h) c.args.count covers)
    (c.loosen.ensures.covered k)

pub returns-then-branch-clause-leaves : goal.returns-then-branch-clause-leaves
returns-then-branch-clause-leaves g c h =
    let k : IsTrue (g.S.Directory.honest c.begin_found.new.self.system) = honest_then
    (g.S.Directory.honest c.args.self.now.system) (g.S.Directory.honest c.begin_found.new.self.system)
    c.begin_found.ensures.honest h in
    leaves_cut g.S.Directory.files g.S.Directory.moment g.S.Directory.left_since c.args.self.now.system
    c.begin_found.new.self.system c.cut_pending.new.self.system c.args.file (c.begin_found.ensures.leaves h)
    (c.begin_found.ensures.held h) c.args.count (c.cut_pending.ensures.leaves k)
