use Rattle.std.proofs.Common.{IsTrue, refl, ◌∙◌}
use Rattle.flow_directory.specs.File.{held_of}
use Rattle.flow_folder_disk.proofs.Leaving.{held_then, honest_then, leaves_next, leaves_one}
use Rattle.flow_folder_disk.proofs.folder.Folder.unname_empty.Goals as goal

pub returns-in_err-unlink_empty-clause-honest : goal.returns-in_err-unlink_empty-clause-honest
returns-in_err-unlink_empty-clause-honest g c =
    c.unlink_empty.ensures.honest

pub returns-in_err-unlink_empty-clause-pending : goal.returns-in_err-unlink_empty-clause-pending
returns-in_err-unlink_empty-clause-pending g c =
    refl

pub returns-in_err-unlink_empty-clause-lost : goal.returns-in_err-unlink_empty-clause-lost
returns-in_err-unlink_empty-clause-lost g c =
    refl

pub returns-in_err-unlink_empty-clause-waiting : goal.returns-in_err-unlink_empty-clause-waiting
returns-in_err-unlink_empty-clause-waiting g c =
    c.requires.waiting

pub returns-in_err-unlink_empty-clause-held : goal.returns-in_err-unlink_empty-clause-held
returns-in_err-unlink_empty-clause-held g c h =
    (c.unlink_empty.ensures.unlinked h).held

pub returns-in_err-unlink_empty-clause-leaves : goal.returns-in_err-unlink_empty-clause-leaves
returns-in_err-unlink_empty-clause-leaves g c h =
    leaves_one g.S.Directory.files g.S.Directory.moment g.S.Directory.left_since c.args.self.now.system
    c.unlink_empty.new.self c.args.file (held_of (g.S.Directory.files c.args.self.now.system))
    (c.unlink_empty.ensures.others h) (c.unlink_empty.ensures.time h)

pub returns-clause-honest : goal.returns-clause-honest
returns-clause-honest g c =
    c.unlink_empty.ensures.honest

pub returns-clause-pending : goal.returns-clause-pending
returns-clause-pending g c =
    refl

pub returns-clause-lost : goal.returns-clause-lost
returns-clause-lost g c =
    refl

pub returns-clause-waiting : goal.returns-clause-waiting
returns-clause-waiting g c =
    c.requires.waiting

pub returns-clause-held : goal.returns-clause-held
returns-clause-held g c h =
    (c.unlink_empty.ensures.unlinked h).held

pub returns-clause-leaves : goal.returns-clause-leaves
returns-clause-leaves g c h =
    leaves_one g.S.Directory.files g.S.Directory.moment g.S.Directory.left_since c.args.self.now.system
    c.unlink_empty.new.self c.args.file (held_of (g.S.Directory.files c.args.self.now.system))
    (c.unlink_empty.ensures.others h) (c.unlink_empty.ensures.time h)

pub returns-then-not-branch-clause-honest : goal.returns-then-not-branch-clause-honest
returns-then-not-branch-clause-honest g c =
    c.name_and_unname.ensures.honest ∙ c.unlink_empty.ensures.honest

pub returns-then-not-branch-clause-pending : goal.returns-then-not-branch-clause-pending
returns-then-not-branch-clause-pending g c =
    c.name_and_unname.ensures.pending

pub returns-then-not-branch-clause-lost : goal.returns-then-not-branch-clause-lost
returns-then-not-branch-clause-lost g c =
    c.name_and_unname.ensures.lost

pub returns-then-not-branch-clause-waiting : goal.returns-then-not-branch-clause-waiting
returns-then-not-branch-clause-waiting g c =
    c.name_and_unname.ensures.waiting

pub returns-then-not-branch-clause-free : goal.returns-then-not-branch-clause-free
returns-then-not-branch-clause-free g c h =
    let k : IsTrue (g.S.Directory.honest c.unlink_empty.new.self) = honest_then
    (g.S.Directory.honest c.args.self.now.system) (g.S.Directory.honest c.unlink_empty.new.self)
    c.unlink_empty.ensures.honest h in
    c.name_and_unname.ensures.free k

pub returns-then-not-branch-clause-gone : goal.returns-then-not-branch-clause-gone
returns-then-not-branch-clause-gone g c h =
    let k : IsTrue (g.S.Directory.honest c.unlink_empty.new.self) = honest_then
    (g.S.Directory.honest c.args.self.now.system) (g.S.Directory.honest c.unlink_empty.new.self)
    c.unlink_empty.ensures.honest h in
    c.name_and_unname.ensures.gone k

pub returns-then-not-branch-clause-held : goal.returns-then-not-branch-clause-held
returns-then-not-branch-clause-held g c h =
    let k : IsTrue (g.S.Directory.honest c.unlink_empty.new.self) = honest_then
    (g.S.Directory.honest c.args.self.now.system) (g.S.Directory.honest c.unlink_empty.new.self)
    c.unlink_empty.ensures.honest h in
    held_then (g.S.Directory.files c.args.self.now.system c.args.file)
    (g.S.Directory.files c.unlink_empty.new.self c.args.file)
    (g.S.Directory.files c.name_and_unname.new.self.system c.args.file) (c.name_and_unname.ensures.held k)
    (c.unlink_empty.ensures.unlinked h).held

pub returns-then-not-branch-clause-leaves : goal.returns-then-not-branch-clause-leaves
returns-then-not-branch-clause-leaves g c h =
    let k : IsTrue (g.S.Directory.honest c.unlink_empty.new.self) = honest_then
    (g.S.Directory.honest c.args.self.now.system) (g.S.Directory.honest c.unlink_empty.new.self)
    c.unlink_empty.ensures.honest h in
    leaves_next g.S.Directory.files g.S.Directory.moment g.S.Directory.left_since c.args.self.now.system
    c.unlink_empty.new.self c.name_and_unname.new.self.system c.args.file
    (leaves_one g.S.Directory.files g.S.Directory.moment g.S.Directory.left_since c.args.self.now.system
    c.unlink_empty.new.self c.args.file (held_of (g.S.Directory.files c.args.self.now.system))
    (c.unlink_empty.ensures.others h) (c.unlink_empty.ensures.time h))
    (c.unlink_empty.ensures.unlinked h).held
    (c.name_and_unname.ensures.leaves k)
