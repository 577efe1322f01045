use Rattle.std.proofs.Common.{ℕ, IsTrue, subst}
use Rattle.flow_disk.specs.Disk.{Held, given_up}
use Rattle.flow_disk.specs.Files.{while_removing}
use Rattle.flow_disk.specs.Moments.{Covers}
use Rattle.flow_directory.specs.File.{held_of}
use Rattle.flow_folder_disk.specs.Known.{Leaves}
use Rattle.flow_folder_disk.proofs.Leaving.{honest_then, covers_change}
use Rattle.flow_folder_disk.proofs.Removing.{on_ok}
use Rattle.flow_folder_disk.proofs.Writing.{leaves_remove}
use Rattle.flow_folder_disk.proofs.disk.FolderDisk.discard.Goals as goal

pub returns-clause-leaves : goal.returns-clause-leaves
returns-clause-leaves g c h =
    let k : IsTrue (g.S.Directory.honest c.take_back.new.self.system) = honest_then (g.S.Directory.honest
    c.args.self.now.folder.system) (g.S.Directory.honest c.take_back.new.self.system) c.take_back.ensures.honest h in
    leaves_remove g.S.Directory.files g.S.Directory.moment g.S.Directory.left_since c.args.self.now.folder.system
    c.take_back.new.self.system c.take_away.new.self.folder.system (g.S.Reader.FileReader.number c.args.sealed.reader)
    (c.take_back.ensures.leaves h) (c.take_back.ensures.held h)
    (subst (λ (n : ℕ). Leaves g.S.Directory.files g.S.Directory.moment g.S.Directory.left_since
    c.take_back.new.self.system c.take_away.new.self.folder.system n (while_removing (held_of (g.S.Directory.files
    c.take_back.new.self.system)) n)) c.file-file.ensures (c.take_away.ensures.leaves k))

pub returns-clause-covered : goal.returns-clause-covered
returns-clause-covered g c h =
    let k : IsTrue (g.S.Directory.honest c.take_back.new.self.system) = honest_then (g.S.Directory.honest
    c.args.self.now.folder.system) (g.S.Directory.honest c.take_back.new.self.system) c.take_back.ensures.honest h in
    on_ok c.take_away.result (λ covers. covers_change g.S.Directory.files g.S.Directory.moment g.S.Directory.left_since
    c.args.self.now.folder.system c.take_back.new.self.system c.take_away.new.self.folder.system
    (g.S.Reader.FileReader.number c.args.sealed.reader) (c.take_back.ensures.leaves h) (c.take_back.ensures.held h)
    (λ (x : Held). given_up x x.reads)
    (subst (λ (n : ℕ). Covers (g.S.Directory.moment c.take_back.new.self.system) (g.S.Directory.left_since
    c.take_away.new.self.folder.system) (while_removing (held_of (g.S.Directory.files c.take_back.new.self.system)) n))
    c.file-file.ensures covers))
    (c.take_away.ensures.covered k)
