use Rattle.std.proofs.Common.{IsTrue, sym, ◌∙◌}
use Rattle.std.specs.Ordering.{nat_cmp}
use Rattle.std.specs.BTreeMap.{get}
use Rattle.flow_folder_disk.proofs.Knowing.{known_same}
use Rattle.flow_folder_disk.proofs.folder.Folder.is_read_only.Goals as goal

pub invariant_of-self : goal.invariant_of-self
invariant_of-self g c = record {
  known = λ h.
      let k : IsTrue (g.S.Directory.honest c.args.self.now.system) = sym c.status.ensures.honest ∙ h in
      known_same (g.S.Directory.files c.args.self.now.system) (g.S.Directory.files c.status.new.self)
      (λ n. get nat_cmp c.args.self.now.pending n)
      c.args.self.now.names_pending c.args.self.now.names_lost (c.args.self.now.known k) (c.status.ensures.files k);
}
