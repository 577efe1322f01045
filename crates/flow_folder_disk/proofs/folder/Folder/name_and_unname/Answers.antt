use Rattle.std.proofs.Common.{IsTrue, refl, ◌∙◌}
use Rattle.flow_directory.specs.File.{held_of}
use Rattle.flow_folder_disk.proofs.Leaving.{honest_then, leaves_next, leaves_one}
use Rattle.flow_folder_disk.proofs.folder.Folder.name_and_unname.Goals as goal

pub returns-in_err-create-clause-honest : goal.returns-in_err-create-clause-honest
returns-in_err-create-clause-honest g c =
    c.create.ensures.honest

pub returns-in_err-create-clause-pending : goal.returns-in_err-create-clause-pending
returns-in_err-create-clause-pending g c =
    refl

pub returns-in_err-create-clause-lost : goal.returns-in_err-create-clause-lost
returns-in_err-create-clause-lost g c =
    refl

pub returns-in_err-create-clause-waiting : goal.returns-in_err-create-clause-waiting
returns-in_err-create-clause-waiting g c =
    c.requires.waiting

pub returns-in_err-create-clause-held : goal.returns-in_err-create-clause-held
returns-in_err-create-clause-held g c h =
    (c.create.ensures.created h).held

pub returns-in_err-create-clause-leaves : goal.returns-in_err-create-clause-leaves
returns-in_err-create-clause-leaves g c h =
    leaves_one g.S.Directory.files g.S.Directory.moment g.S.Directory.left_since c.args.self.now.system
    c.create.new.self c.args.file (held_of (g.S.Directory.files c.args.self.now.system))
    (c.create.ensures.others h) (c.create.ensures.time h)

pub returns-in_err-unlink_empty-clause-honest : goal.returns-in_err-unlink_empty-clause-honest
returns-in_err-unlink_empty-clause-honest g c =
    c.unlink_empty.ensures.honest ∙ c.create.ensures.honest

pub returns-in_err-unlink_empty-clause-pending : goal.returns-in_err-unlink_empty-clause-pending
returns-in_err-unlink_empty-clause-pending g c =
    refl

pub returns-in_err-unlink_empty-clause-lost : goal.returns-in_err-unlink_empty-clause-lost
returns-in_err-unlink_empty-clause-lost g c =
    refl

pub returns-in_err-unlink_empty-clause-waiting : goal.returns-in_err-unlink_empty-clause-waiting
returns-in_err-unlink_empty-clause-waiting g c =
    c.requires.waiting

pub returns-in_err-unlink_empty-clause-held : goal.returns-in_err-unlink_empty-clause-held
returns-in_err-unlink_empty-clause-held g c h =
    let k : IsTrue (g.S.Directory.honest c.create.new.self) = honest_then
    (g.S.Directory.honest c.args.self.now.system) (g.S.Directory.honest c.create.new.self) c.create.ensures.honest h in
    (c.unlink_empty.ensures.unlinked k).held ∙ (c.create.ensures.created h).held

pub returns-in_err-unlink_empty-clause-leaves : goal.returns-in_err-unlink_empty-clause-leaves
returns-in_err-unlink_empty-clause-leaves g c h =
    let k : IsTrue (g.S.Directory.honest c.create.new.self) = honest_then
    (g.S.Directory.honest c.args.self.now.system) (g.S.Directory.honest c.create.new.self) c.create.ensures.honest h in
    leaves_next g.S.Directory.files g.S.Directory.moment g.S.Directory.left_since c.args.self.now.system
    c.create.new.self c.unlink_empty.new.self c.args.file
    (leaves_one g.S.Directory.files g.S.Directory.moment g.S.Directory.left_since c.args.self.now.system
    c.create.new.self c.args.file (held_of (g.S.Directory.files c.args.self.now.system))
    (c.create.ensures.others h) (c.create.ensures.time h))
    (c.create.ensures.created h).held
    (leaves_one g.S.Directory.files g.S.Directory.moment g.S.Directory.left_since c.create.new.self
    c.unlink_empty.new.self c.args.file (held_of (g.S.Directory.files c.create.new.self))
    (c.unlink_empty.ensures.others k) (c.unlink_empty.ensures.time k))

pub returns-clause-honest : goal.returns-clause-honest
returns-clause-honest g c =
    c.unlink_empty.ensures.honest ∙ c.create.ensures.honest

pub returns-clause-pending : goal.returns-clause-pending
returns-clause-pending g c =
    refl

pub returns-clause-lost : goal.returns-clause-lost
returns-clause-lost g c =
    refl

pub returns-clause-waiting : goal.returns-clause-waiting
returns-clause-waiting g c =
    c.requires.waiting

pub returns-clause-held : goal.returns-clause-held
returns-clause-held g c h =
    let k : IsTrue (g.S.Directory.honest c.create.new.self) = honest_then
    (g.S.Directory.honest c.args.self.now.system) (g.S.Directory.honest c.create.new.self) c.create.ensures.honest h in
    (c.unlink_empty.ensures.unlinked k).held ∙ (c.create.ensures.created h).held

pub returns-clause-leaves : goal.returns-clause-leaves
returns-clause-leaves g c h =
    let k : IsTrue (g.S.Directory.honest c.create.new.self) = honest_then
    (g.S.Directory.honest c.args.self.now.system) (g.S.Directory.honest c.create.new.self) c.create.ensures.honest h in
    leaves_next g.S.Directory.files g.S.Directory.moment g.S.Directory.left_since c.args.self.now.system
    c.create.new.self c.unlink_empty.new.self c.args.file
    (leaves_one g.S.Directory.files g.S.Directory.moment g.S.Directory.left_since c.args.self.now.system
    c.create.new.self c.args.file (held_of (g.S.Directory.files c.args.self.now.system))
    (c.create.ensures.others h) (c.create.ensures.time h))
    (c.create.ensures.created h).held
    (leaves_one g.S.Directory.files g.S.Directory.moment g.S.Directory.left_since c.create.new.self
    c.unlink_empty.new.self c.args.file (held_of (g.S.Directory.files c.create.new.self))
    (c.unlink_empty.ensures.others k) (c.unlink_empty.ensures.time k))
