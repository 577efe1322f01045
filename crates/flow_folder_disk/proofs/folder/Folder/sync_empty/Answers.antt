use Rattle.std.proofs.Common.{IsTrue, sym, ◌∙◌, ap}
use Rattle.std.specs.Ordering.{nat_cmp}
use Rattle.std.specs.BTreeMap.{get}
use Rattle.flow_directory.specs.File.{File}
use Rattle.flow_folder_disk.proofs.Knowing.{known_same}
use Rattle.flow_folder_disk.proofs.Leaving.{honest_then, leaves_next, leaves_stays, seen_same}
use Rattle.flow_folder_disk.proofs.Removing.{sure_seen, synced_sure}
use Rattle.flow_folder_disk.proofs.Synced.{held_within, synced_failed}
use Rattle.flow_folder_disk.proofs.folder.Folder.sync_empty.Goals as goal

pub invariant_of-self : goal.invariant_of-self
invariant_of-self g c = record {
  known = λ h.
      let k : IsTrue (g.S.Directory.honest c.make.new.self.system) = sym c.close.ensures.honest ∙ h in
      known_same (g.S.Directory.files c.make.new.self.system) (g.S.Directory.files c.close.new.self)
      (λ n. get nat_cmp c.make.new.self.pending n)
      c.make.new.self.names_pending c.make.new.self.names_lost (c.make.new.self.known k) (c.close.ensures.files k);
}

pub returns-in_err-make-clause-synced : goal.returns-in_err-make-clause-synced
returns-in_err-make-clause-synced g c h =
    synced_failed (g.S.Directory.files c.args.self.now.system c.args.file)
    (g.S.Directory.files c.make.new.self.system c.args.file) c.from_residual.result c.from_residual.ensures.0
    (held_within (g.S.Directory.files c.args.self.now.system c.args.file).held
    (g.S.Directory.files c.make.new.self.system c.args.file).held (c.make.ensures.held h))

pub returns-clause-synced : goal.returns-clause-synced
returns-clause-synced g c h =
    let k : IsTrue (g.S.Directory.honest c.make.new.self.system) = honest_then
    (g.S.Directory.honest c.args.self.now.system) (g.S.Directory.honest c.make.new.self.system) c.make.ensures.honest h
    in
    let l : IsTrue (g.S.Directory.honest c.close.new.self) = honest_then (g.S.Directory.honest c.make.new.self.system)
    (g.S.Directory.honest c.close.new.self) c.close.ensures.honest k in
    synced_sure (g.S.Directory.files c.args.self.now.system c.args.file)
    (g.S.Directory.files c.close.new.self c.args.file) (g.S.Directory.files c.settle.new.self.system c.args.file)
    c.settle.result
    (sure_seen (g.S.Directory.files c.make.new.self.system c.args.file)
    (g.S.Directory.files c.close.new.self c.args.file) (c.in_ok-make.ensures.made h).sure
    (seen_same (g.S.Directory.files c.make.new.self.system c.args.file)
    (g.S.Directory.files c.close.new.self c.args.file) (c.close.ensures.files k c.args.file)))
    (ap (λ (x : File). x.held) (c.close.ensures.files k c.args.file) ∙ c.make.ensures.held h)
    (c.settle.ensures.settled l)

pub returns-clause-leaves : goal.returns-clause-leaves
returns-clause-leaves g c h =
    let k : IsTrue (g.S.Directory.honest c.make.new.self.system) = honest_then
    (g.S.Directory.honest c.args.self.now.system) (g.S.Directory.honest c.make.new.self.system) c.make.ensures.honest h
    in
    let l : IsTrue (g.S.Directory.honest c.close.new.self) = honest_then (g.S.Directory.honest c.make.new.self.system)
    (g.S.Directory.honest c.close.new.self) c.close.ensures.honest k in
    leaves_next g.S.Directory.files g.S.Directory.moment g.S.Directory.left_since c.args.self.now.system
    c.close.new.self c.settle.new.self.system c.args.file
    (leaves_next g.S.Directory.files g.S.Directory.moment g.S.Directory.left_since c.args.self.now.system
    c.make.new.self.system c.close.new.self c.args.file (c.make.ensures.leaves h) (c.make.ensures.held h)
    (leaves_stays g.S.Directory.files g.S.Directory.moment g.S.Directory.left_since c.make.new.self.system
    c.close.new.self c.args.file (c.close.ensures.files k) (c.close.ensures.time k)))
    (ap (λ (x : File). x.held) (c.close.ensures.files k c.args.file) ∙ c.make.ensures.held h)
    (c.settle.ensures.leaves l)
