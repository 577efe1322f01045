use Rattle.std.proofs.Common.{IsTrue, sym, ◌∙◌}
use Rattle.std.specs.Ordering.{nat_cmp}
use Rattle.std.specs.BTreeMap.{get}
use Rattle.flow_folder_disk.specs.Table.{marks_in}
use Rattle.flow_folder_disk.proofs.Kept.{unchanged_kept, settled_kept, frozen_kept}
use Rattle.flow_folder_disk.proofs.disk.FolderDisk.write_doubted.Goals as goal

pub invariant_of-self : goal.invariant_of-self
invariant_of-self g c =
    record {
      unchanged = unchanged_kept (marks_in c.args.self.now.table) (λ n. get nat_cmp c.args.self.now.folder.pending n)
          (λ n. get nat_cmp c.write.new.self.pending n) c.args.file c.args.self.now.unchanged c.requires.doubted
          c.write.ensures.pending;
      settled = λ h.
          let k : IsTrue (g.S.Directory.honest c.args.self.now.folder.system) = sym c.write.ensures.honest ∙ h in
          settled_kept (marks_in c.args.self.now.table) (g.S.Directory.files c.args.self.now.folder.system)
          (g.S.Directory.files c.write.new.self.system) c.args.file (c.args.self.now.settled k) c.requires.doubted
          (c.write.ensures.leaves k).others;
      frozen = λ h.
          let k : IsTrue (g.S.Directory.honest c.args.self.now.folder.system) = sym c.write.ensures.honest ∙ h in
          frozen_kept (marks_in c.args.self.now.table) (g.S.Directory.files c.args.self.now.folder.system)
          (g.S.Directory.files c.write.new.self.system) c.args.file (c.args.self.now.frozen k) (c.write.ensures.free k)
          (c.write.ensures.leaves k).others;
    }
