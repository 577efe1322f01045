use Rattle.std.proofs.Common.{IsTrue, true, refl, ◌∙◌}
use Rattle.flow_directory.specs.File.{held_of}
use Rattle.flow_folder_disk.proofs.Leaving.{changing_reached, honest_then, leaves_next, leaves_one, leaves_stays}
use Rattle.flow_folder_disk.proofs.Leaving.{reached_seen, reached_then, seen_same}
use Rattle.flow_folder_disk.proofs.folder.Folder.close_read_only.Goals as goal

pub returns-then-read_only-clause-honest : goal.returns-then-read_only-clause-honest
returns-then-read_only-clause-honest g c =
    c.close.ensures.honest

pub returns-then-read_only-clause-pending : goal.returns-then-read_only-clause-pending
returns-then-read_only-clause-pending g c =
    refl

pub returns-then-read_only-clause-reached : goal.returns-then-read_only-clause-reached
returns-then-read_only-clause-reached g c h =
    reached_seen (g.S.Directory.files c.args.self.now.system c.args.file)
    (g.S.Directory.files c.close.new.self c.args.file)
    (seen_same (g.S.Directory.files c.args.self.now.system c.args.file)
    (g.S.Directory.files c.close.new.self c.args.file)
    (c.close.ensures.files h c.args.file))

pub returns-then-read_only-clause-leaves : goal.returns-then-read_only-clause-leaves
returns-then-read_only-clause-leaves g c h =
    leaves_stays g.S.Directory.files g.S.Directory.moment g.S.Directory.left_since c.args.self.now.system
    c.close.new.self c.args.file (c.close.ensures.files h) (c.close.ensures.time h)

pub returns-clause-honest : goal.returns-clause-honest
returns-clause-honest g c =
    c.close-2.ensures.honest ∙ c.set_read_only.ensures.honest

pub returns-clause-pending : goal.returns-clause-pending
returns-clause-pending g c =
    refl

pub returns-clause-reached : goal.returns-clause-reached
returns-clause-reached g c h =
    let k : IsTrue (g.S.Directory.honest c.set_read_only.new.self) = honest_then
    (g.S.Directory.honest c.args.self.now.system) (g.S.Directory.honest c.set_read_only.new.self)
    c.set_read_only.ensures.honest h in
    reached_then (g.S.Directory.files c.args.self.now.system c.args.file)
    (g.S.Directory.files c.set_read_only.new.self c.args.file)
    (g.S.Directory.files c.close-2.new.self c.args.file)
    (changing_reached (g.S.Directory.files c.args.self.now.system c.args.file)
    (g.S.Directory.files c.set_read_only.new.self c.args.file) true
    c.set_read_only.result (c.set_read_only.ensures.changed h))
    (reached_seen (g.S.Directory.files c.set_read_only.new.self c.args.file)
    (g.S.Directory.files c.close-2.new.self c.args.file)
    (seen_same (g.S.Directory.files c.set_read_only.new.self c.args.file)
    (g.S.Directory.files c.close-2.new.self c.args.file)
    (c.close-2.ensures.files k c.args.file)))

pub returns-clause-leaves : goal.returns-clause-leaves
returns-clause-leaves g c h =
    let k : IsTrue (g.S.Directory.honest c.set_read_only.new.self) = honest_then
    (g.S.Directory.honest c.args.self.now.system) (g.S.Directory.honest c.set_read_only.new.self)
    c.set_read_only.ensures.honest h in
    leaves_next g.S.Directory.files g.S.Directory.moment g.S.Directory.left_since c.args.self.now.system
    c.set_read_only.new.self c.close-2.new.self c.args.file
    (leaves_one g.S.Directory.files g.S.Directory.moment g.S.Directory.left_since c.args.self.now.system
    c.set_read_only.new.self c.args.file (held_of (g.S.Directory.files c.args.self.now.system))
    (c.set_read_only.ensures.others h) (c.set_read_only.ensures.time h))
    (c.set_read_only.ensures.changed h).held
    (leaves_stays g.S.Directory.files g.S.Directory.moment g.S.Directory.left_since c.set_read_only.new.self
    c.close-2.new.self c.args.file (c.close-2.ensures.files k) (c.close-2.ensures.time k))
