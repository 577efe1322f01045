use Rattle.std.proofs.Common.{IsTrue, refl, ap}
use Rattle.flow_directory.specs.File.{File}
use Rattle.flow_folder_disk.proofs.Leaving.{honest_then, leaves_stays}
use Rattle.flow_folder_disk.proofs.Removing.{on_ok}
use Rattle.flow_folder_disk.proofs.Writing.{covers_cut, cuts_after, leaves_cut}
use Rattle.flow_folder_disk.proofs.folder.Folder.cut.Goals as goal

pub returns-clause-held : goal.returns-clause-held
returns-clause-held g c h =
    let k : IsTrue (g.S.Directory.honest c.is_read_only.new.self.system) = honest_then
    (g.S.Directory.honest c.args.self.now.system) (g.S.Directory.honest c.is_read_only.new.self.system)
    c.is_read_only.ensures.honest h in
    cuts_after (g.S.Directory.files c.args.self.now.system) (g.S.Directory.files c.is_read_only.new.self.system)
    (g.S.Directory.files c.cut_found.new.self.system) c.args.file c.args.file refl
    (ap (λ (x : File). x.held) (c.is_read_only.ensures.files h c.args.file))
    (leaves_stays g.S.Directory.files g.S.Directory.moment g.S.Directory.left_since c.args.self.now.system
    c.is_read_only.new.self.system c.args.file (c.is_read_only.ensures.files h) (c.is_read_only.ensures.time h)).others
    c.args.count c.cut_found.result
    (c.cut_found.ensures.held k)

pub returns-clause-leaves : goal.returns-clause-leaves
returns-clause-leaves g c h =
    let k : IsTrue (g.S.Directory.honest c.is_read_only.new.self.system) = honest_then
    (g.S.Directory.honest c.args.self.now.system) (g.S.Directory.honest c.is_read_only.new.self.system)
    c.is_read_only.ensures.honest h in
    leaves_cut g.S.Directory.files g.S.Directory.moment g.S.Directory.left_since c.args.self.now.system
    c.is_read_only.new.self.system c.cut_found.new.self.system c.args.file
    (leaves_stays g.S.Directory.files g.S.Directory.moment g.S.Directory.left_since c.args.self.now.system
    c.is_read_only.new.self.system c.args.file (c.is_read_only.ensures.files h) (c.is_read_only.ensures.time h))
    (ap (λ (x : File). x.held) (c.is_read_only.ensures.files h c.args.file)) c.args.count (c.cut_found.ensures.leaves k)

pub returns-clause-covered : goal.returns-clause-covered
returns-clause-covered g c h =
    let k : IsTrue (g.S.Directory.honest c.is_read_only.new.self.system) = honest_then
    (g.S.Directory.honest c.args.self.now.system) (g.S.Directory.honest c.is_read_only.new.self.system)
    c.is_read_only.ensures.honest h in
    on_ok c.cut_found.result (λ covers. covers_cut g.S.Directory.files g.S.Directory.moment g.S.Directory.left_since
    c.args.self.now.system c.is_read_only.new.self.system c.cut_found.new.self.system c.args.file
    (leaves_stays g.S.Directory.files g.S.Directory.moment g.S.Directory.left_since c.args.self.now.system
    c.is_read_only.new.self.system c.args.file (c.is_read_only.ensures.files h) (c.is_read_only.ensures.time h))
    (ap (λ (x : File). x.held) (c.is_read_only.ensures.files h c.args.file)) c.args.count covers)
    (c.cut_found.ensures.covered k)

pub returns-then-branch-clause-leaves : goal.returns-then-branch-clause-leaves
returns-then-branch-clause-leaves g c h =
    let k : IsTrue (g.S.Directory.honest c.is_read_only.new.self.system) = honest_then
    (g.S.Directory.honest c.args.self.now.system) (g.S.Directory.honest c.is_read_only.new.self.system)
    c.is_read_only.ensures.honest h in
    leaves_cut g.S.Directory.files g.S.Directory.moment g.S.Directory.left_since c.args.self.now.system
    c.is_read_only.new.self.system c.loosen.new.self.system c.args.file
    (leaves_stays g.S.Directory.files g.S.Directory.moment g.S.Directory.left_since c.args.self.now.system
    c.is_read_only.new.self.system c.args.file (c.is_read_only.ensures.files h) (c.is_read_only.ensures.time h))
    (ap (λ (x : File). x.held) (c.is_read_only.ensures.files h c.args.file)) c.args.count (c.loosen.ensures.leaves k)
