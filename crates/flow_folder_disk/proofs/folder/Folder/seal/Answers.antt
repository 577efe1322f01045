use Rattle.std.proofs.Common.{◌≡◌, IsTrue, sym, ◌∙◌, subst, is_some, false}
use Rattle.std.specs.Ordering.{nat_cmp}
use Rattle.std.specs.BTreeMap.{get}
use Rattle.flow_directory.specs.File.{held_of}
use Rattle.flow_folder_disk.proofs.Leaving.{honest_then, leaves_next, leaves_one}
use Rattle.flow_folder_disk.proofs.Lent.{held_lending, known_lending, linked_lending, settled_lending, stays_here}
use Rattle.flow_folder_disk.proofs.Synced.{settled_reached}
use Rattle.flow_folder_disk.proofs.folder.Folder.seal.Goals as goal

pub invariant_of-self : goal.invariant_of-self
invariant_of-self g c = record {
  known = λ h.
      let k : IsTrue (g.S.Directory.honest c.shut.new.self.system) = sym c.lend.ensures.honest ∙ h in
      known_lending (g.S.Directory.files c.shut.new.self.system) (g.S.Directory.files c.lend.new.self)
      (λ n. get nat_cmp c.shut.new.self.pending n)
      c.shut.new.self.names_pending c.shut.new.self.names_lost c.args.file c.lend.result (c.shut.new.self.known k)
      (subst (λ m. is_some (get nat_cmp m c.args.file) ≡ false) (sym c.shut.ensures.pending) c.requires.absent)
      (c.lend.ensures.done k) (c.lend.ensures.failed k) (c.lend.ensures.others k);
}

pub returns-in_err-shut-clause-settled : goal.returns-in_err-shut-clause-settled
returns-in_err-shut-clause-settled g c h =
    settled_reached (g.S.Directory.files c.args.self.now.system c.args.file)
    (g.S.Directory.files c.shut.new.self.system c.args.file) (c.requires.settled h) (c.shut.ensures.reached h)

pub returns-clause-held : goal.returns-clause-held
returns-clause-held g c h =
    let k : IsTrue (g.S.Directory.honest c.shut.new.self.system) = honest_then
    (g.S.Directory.honest c.args.self.now.system) (g.S.Directory.honest c.shut.new.self.system) c.shut.ensures.honest h
    in
    held_lending (g.S.Directory.files c.shut.new.self.system c.args.file)
    (g.S.Directory.files c.lend.new.self c.args.file) c.lend.result (c.lend.ensures.done k)
    (stays_here (g.S.Directory.files c.shut.new.self.system) (g.S.Directory.files c.lend.new.self) c.args.file
    c.lend.result (c.lend.ensures.failed k))
    ∙ (c.shut.ensures.reached h).held

pub returns-clause-linked : goal.returns-clause-linked
returns-clause-linked g c h =
    let k : IsTrue (g.S.Directory.honest c.shut.new.self.system) = honest_then
    (g.S.Directory.honest c.args.self.now.system) (g.S.Directory.honest c.shut.new.self.system) c.shut.ensures.honest h
    in
    linked_lending (g.S.Directory.files c.shut.new.self.system c.args.file)
    (g.S.Directory.files c.lend.new.self c.args.file) c.lend.result (c.lend.ensures.done k)
    (stays_here (g.S.Directory.files c.shut.new.self.system) (g.S.Directory.files c.lend.new.self) c.args.file
    c.lend.result (c.lend.ensures.failed k))
    ∙ (c.shut.ensures.reached h).linked

pub returns-clause-settled : goal.returns-clause-settled
returns-clause-settled g c h =
    let k : IsTrue (g.S.Directory.honest c.shut.new.self.system) = honest_then
    (g.S.Directory.honest c.args.self.now.system) (g.S.Directory.honest c.shut.new.self.system) c.shut.ensures.honest h
    in
    settled_lending (g.S.Directory.files c.shut.new.self.system c.args.file)
    (g.S.Directory.files c.lend.new.self c.args.file) c.lend.result
    (settled_reached (g.S.Directory.files c.args.self.now.system c.args.file)
    (g.S.Directory.files c.shut.new.self.system c.args.file) (c.requires.settled h) (c.shut.ensures.reached h))
    (c.lend.ensures.done k) (stays_here (g.S.Directory.files c.shut.new.self.system)
    (g.S.Directory.files c.lend.new.self) c.args.file c.lend.result (c.lend.ensures.failed k))

pub returns-clause-leaves : goal.returns-clause-leaves
returns-clause-leaves g c h =
    let k : IsTrue (g.S.Directory.honest c.shut.new.self.system) = honest_then
    (g.S.Directory.honest c.args.self.now.system) (g.S.Directory.honest c.shut.new.self.system) c.shut.ensures.honest h
    in
    leaves_next g.S.Directory.files g.S.Directory.moment g.S.Directory.left_since c.args.self.now.system
    c.shut.new.self.system c.lend.new.self c.args.file (c.shut.ensures.leaves h) (c.shut.ensures.reached h).held
    (leaves_one g.S.Directory.files g.S.Directory.moment g.S.Directory.left_since c.shut.new.self.system c.lend.new.self
    c.args.file (held_of (g.S.Directory.files c.shut.new.self.system)) (c.lend.ensures.others k)
    (c.lend.ensures.time k))
