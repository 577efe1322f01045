use Rattle.std.proofs.Common.{IsTrue, false, refl, ◌∙◌}
use Rattle.flow_directory.specs.File.{held_of}
use Rattle.flow_folder_disk.proofs.Leaving.{changing_reached, honest_then, leaves_next, leaves_one, opening_seen}
use Rattle.flow_folder_disk.proofs.Leaving.{reached_seen, reached_then}
use Rattle.flow_folder_disk.proofs.Synced.{not_ok}
use Rattle.flow_folder_disk.proofs.folder.Folder.make_writable.Goals as goal

pub returns-in_err-open-clause-honest : goal.returns-in_err-open-clause-honest
returns-in_err-open-clause-honest g c =
    c.open.ensures.honest

pub returns-in_err-open-clause-pending : goal.returns-in_err-open-clause-pending
returns-in_err-open-clause-pending g c =
    refl

pub returns-in_err-open-clause-names : goal.returns-in_err-open-clause-names
returns-in_err-open-clause-names g c =
    refl

pub returns-in_err-open-clause-lost : goal.returns-in_err-open-clause-lost
returns-in_err-open-clause-lost g c =
    refl

pub returns-in_err-open-clause-reached : goal.returns-in_err-open-clause-reached
returns-in_err-open-clause-reached g c h =
    reached_seen (g.S.Directory.files c.args.self.now.system c.args.file)
    (g.S.Directory.files c.open.new.self c.args.file)
    (opening_seen (g.S.Directory.files c.args.self.now.system c.args.file)
    (g.S.Directory.files c.open.new.self c.args.file) (c.open.ensures.opened h))

pub returns-in_err-open-clause-writable : goal.returns-in_err-open-clause-writable
returns-in_err-open-clause-writable g c h =
    not_ok _ c.from_residual.result c.from_residual.ensures.0

pub returns-in_err-open-clause-leaves : goal.returns-in_err-open-clause-leaves
returns-in_err-open-clause-leaves g c h =
    leaves_one g.S.Directory.files g.S.Directory.moment g.S.Directory.left_since c.args.self.now.system
    c.open.new.self c.args.file (held_of (g.S.Directory.files c.args.self.now.system))
    (c.open.ensures.others h) (c.open.ensures.time h)

pub returns-clause-honest : goal.returns-clause-honest
returns-clause-honest g c =
    c.set_read_only.ensures.honest ∙ c.open.ensures.honest

pub returns-clause-pending : goal.returns-clause-pending
returns-clause-pending g c =
    refl

pub returns-clause-names : goal.returns-clause-names
returns-clause-names g c =
    refl

pub returns-clause-lost : goal.returns-clause-lost
returns-clause-lost g c =
    refl

pub returns-clause-reached : goal.returns-clause-reached
returns-clause-reached g c h =
    let k : IsTrue (g.S.Directory.honest c.open.new.self) = honest_then
    (g.S.Directory.honest c.args.self.now.system) (g.S.Directory.honest c.open.new.self) c.open.ensures.honest h in
    reached_then (g.S.Directory.files c.args.self.now.system c.args.file)
    (g.S.Directory.files c.open.new.self c.args.file)
    (g.S.Directory.files c.set_read_only.new.self c.args.file)
    (reached_seen (g.S.Directory.files c.args.self.now.system c.args.file)
    (g.S.Directory.files c.open.new.self c.args.file)
    (opening_seen (g.S.Directory.files c.args.self.now.system c.args.file)
    (g.S.Directory.files c.open.new.self c.args.file) (c.open.ensures.opened h)))
    (changing_reached (g.S.Directory.files c.open.new.self c.args.file)
    (g.S.Directory.files c.set_read_only.new.self c.args.file) false
    c.set_read_only.result (c.set_read_only.ensures.changed k))

pub returns-clause-writable : goal.returns-clause-writable
returns-clause-writable g c h =
    let k : IsTrue (g.S.Directory.honest c.open.new.self) = honest_then
    (g.S.Directory.honest c.args.self.now.system) (g.S.Directory.honest c.open.new.self) c.open.ensures.honest h in
    (c.set_read_only.ensures.changed k).mode

pub returns-clause-leaves : goal.returns-clause-leaves
returns-clause-leaves g c h =
    let k : IsTrue (g.S.Directory.honest c.open.new.self) = honest_then
    (g.S.Directory.honest c.args.self.now.system) (g.S.Directory.honest c.open.new.self) c.open.ensures.honest h in
    leaves_next g.S.Directory.files g.S.Directory.moment g.S.Directory.left_since c.args.self.now.system
    c.open.new.self c.set_read_only.new.self c.args.file
    (leaves_one g.S.Directory.files g.S.Directory.moment g.S.Directory.left_since c.args.self.now.system
    c.open.new.self c.args.file (held_of (g.S.Directory.files c.args.self.now.system))
    (c.open.ensures.others h) (c.open.ensures.time h))
    (c.open.ensures.opened h).held
    (leaves_one g.S.Directory.files g.S.Directory.moment g.S.Directory.left_since c.open.new.self
    c.set_read_only.new.self c.args.file (held_of (g.S.Directory.files c.open.new.self))
    (c.set_read_only.ensures.others k) (c.set_read_only.ensures.time k))
