use Rattle.std.proofs.Common.{IsTrue, sym, ◌∙◌}
use Rattle.flow_folder_disk.proofs.Inserting.{known_removed}
use Rattle.flow_folder_disk.proofs.folder.Folder.forget.Goals as goal

pub invariant_of-self : goal.invariant_of-self
invariant_of-self g c = record {
  known = λ h.
      let k : IsTrue (g.S.Directory.honest c.args.self.now.system) = sym c.close.ensures.honest ∙ h in
      known_removed (g.S.Directory.files c.args.self.now.system) (g.S.Directory.files c.close.new.self)
      c.args.self.now.pending c.remove.new.self
      c.args.self.now.names_pending c.args.self.now.names_lost c.args.file (c.args.self.now.known k)
      c.remove.ensures.updates (c.close.ensures.files k);
}
