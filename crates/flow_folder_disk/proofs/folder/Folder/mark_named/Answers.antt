use Rattle.std.proofs.Common.{IsTrue, sym, ◌∙◌}
use Rattle.std.specs.Ordering.{nat_cmp}
use Rattle.std.specs.BTreeMap.{get}
use Rattle.flow_folder_disk.proofs.Knowing.{known_one}
use Rattle.flow_folder_disk.proofs.folder.Folder.mark_named.Goals as goal

pub invariant_of-self : goal.invariant_of-self
invariant_of-self g c = record {
  known = λ h.
      let k : IsTrue (g.S.Directory.honest c.args.self.now.system) = sym c.open.ensures.honest ∙ h in
      known_one (g.S.Directory.files c.args.self.now.system) (g.S.Directory.files c.open.new.self)
      (λ n. get nat_cmp c.args.self.now.pending n)
      c.args.self.now.names_pending c.args.self.now.names_lost c.args.file (c.args.self.now.known k)
      c.requires.absent (c.open.ensures.others k) (c.open.ensures.opened k).parts.dirty_entry
      (c.open.ensures.opened k).parts.lost_entry;
}
