use Rattle.std.proofs.Common.{IsTrue, sym, ◌∙◌}
use Rattle.flow_folder_disk.proofs.Leaving.{honest_then, leaves_then}
use Rattle.flow_folder_disk.proofs.folder.Folder.remove_empty.Goals as goal

pub take_empty_name-requires-clause-empty : goal.take_empty_name-requires-clause-empty
take_empty_name-requires-clause-empty g c h =
    let k : IsTrue (g.S.Directory.honest c.args.self.now.system) = sym c.take_empty_name-removed.ensures.honest ∙ h in
    c.take_empty_name-removed.ensures.reads k ∙ c.requires.empty k

pub returns-then-is_err-clause-leaves : goal.returns-then-is_err-clause-leaves
returns-then-is_err-clause-leaves g c h =
    let k : IsTrue (g.S.Directory.honest c.take_empty_name-removed.new.self.system) = honest_then
    (g.S.Directory.honest c.args.self.now.system) (g.S.Directory.honest c.take_empty_name-removed.new.self.system)
    c.take_empty_name-removed.ensures.honest h in
    leaves_then g.S.Directory.files g.S.Directory.moment g.S.Directory.left_since c.args.self.now.system
    c.take_empty_name-removed.new.self.system c.take_empty_name.new.self.system c.args.file
    (c.take_empty_name-removed.ensures.leaves h)
    (c.take_empty_name-removed.ensures.synced h).within (c.take_empty_name.ensures.leaves k)
