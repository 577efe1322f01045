use Rattle.std.proofs.Common.{IsTrue, sym, ◌∙◌, false}
use Rattle.std.specs.Ordering.{nat_cmp}
use Rattle.std.specs.BTreeMap.{get}
use Rattle.flow_folder_disk.proofs.Lent.{known_back, settled_lent}
use Rattle.flow_folder_disk.proofs.folder.Folder.take_back.Goals as goal

pub invariant_of-self : goal.invariant_of-self
invariant_of-self g c = record {
  known = λ h.
      let k : IsTrue (g.S.Directory.honest c.args.self.now.system) = sym c.take_back.ensures.honest ∙ h in
      known_back (g.S.Directory.files c.args.self.now.system) (g.S.Directory.files c.take_back.new.self)
      (λ n. get nat_cmp c.args.self.now.pending n)
      c.args.self.now.names_pending c.args.self.now.names_lost (g.S.Reader.FileReader.number c.args.reader)
      (c.args.self.now.known k) (c.take_back.ensures.lent k) (c.take_back.ensures.others k);
}

pub returns-clause-settled : goal.returns-clause-settled
returns-clause-settled g c h =
    λ settled. settled_lent (g.S.Directory.files c.args.self.now.system (g.S.Reader.FileReader.number c.args.reader))
    (g.S.Directory.files c.take_back.new.self (g.S.Reader.FileReader.number c.args.reader)) false settled
    (c.take_back.ensures.lent h)
