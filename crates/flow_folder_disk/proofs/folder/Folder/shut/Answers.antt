use Rattle.std.proofs.Common.{IsTrue, sym, ◌∙◌, ap}
use Rattle.std.specs.Ordering.{nat_cmp}
use Rattle.std.specs.BTreeMap.{get}
use Rattle.flow_directory.specs.File.{File}
use Rattle.flow_folder_disk.proofs.Knowing.{known_same}
use Rattle.flow_folder_disk.proofs.Leaving.{honest_then, leaves_next, leaves_stays, reached_seen, reached_then}
use Rattle.flow_folder_disk.proofs.Leaving.{seen_same}
use Rattle.flow_folder_disk.proofs.folder.Folder.shut.Goals as goal

pub invariant_of-self : goal.invariant_of-self
invariant_of-self g c = record {
  known = λ h.
      let k : IsTrue (g.S.Directory.honest c.args.self.now.system) = sym c.status.ensures.honest ∙ h in
      known_same (g.S.Directory.files c.args.self.now.system) (g.S.Directory.files c.status.new.self)
      (λ n. get nat_cmp c.args.self.now.pending n)
      c.args.self.now.names_pending c.args.self.now.names_lost (c.args.self.now.known k) (c.status.ensures.files k);
}

pub returns-clause-reached : goal.returns-clause-reached
returns-clause-reached g c h =
    let k : IsTrue (g.S.Directory.honest c.status.new.self) = honest_then (g.S.Directory.honest c.args.self.now.system)
    (g.S.Directory.honest c.status.new.self) c.status.ensures.honest h in
    reached_then (g.S.Directory.files c.args.self.now.system c.args.file)
    (g.S.Directory.files c.status.new.self c.args.file) (g.S.Directory.files c.shut_found.new.self.system c.args.file)
    (reached_seen (g.S.Directory.files c.args.self.now.system c.args.file)
    (g.S.Directory.files c.status.new.self c.args.file) (seen_same
    (g.S.Directory.files c.args.self.now.system c.args.file) (g.S.Directory.files c.status.new.self c.args.file)
    (c.status.ensures.files h c.args.file)))
    (c.shut_found.ensures.reached k)

pub returns-clause-leaves : goal.returns-clause-leaves
returns-clause-leaves g c h =
    let k : IsTrue (g.S.Directory.honest c.status.new.self) = honest_then (g.S.Directory.honest c.args.self.now.system)
    (g.S.Directory.honest c.status.new.self) c.status.ensures.honest h in
    leaves_next g.S.Directory.files g.S.Directory.moment g.S.Directory.left_since c.args.self.now.system
    c.status.new.self c.shut_found.new.self.system c.args.file
    (leaves_stays g.S.Directory.files g.S.Directory.moment g.S.Directory.left_since c.args.self.now.system
    c.status.new.self c.args.file (c.status.ensures.files h) (c.status.ensures.time h))
    (ap (λ (x : File). x.held) (c.status.ensures.files h c.args.file)) (c.shut_found.ensures.leaves k)
