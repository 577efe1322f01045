use Rattle.std.proofs.Common.{ℕ, IsTrue, sym, ◌∙◌, ap}
use Rattle.std.specs.Ordering.{nat_cmp}
use Rattle.std.specs.BTreeMap.{get}
use Rattle.flow_folder_disk.specs.Table.{marks_in}
use Rattle.std.specs.Prelude.{is_some}
use Rattle.std.specs.BTreeMap.{BTreeMap}
use Rattle.flow_pending.specs.declared.pending.Pending.{Pending}
use Rattle.flow_folder_disk.proofs.Leaving.{seen_same}
use Rattle.flow_folder_disk.proofs.Kept.{settled_stays, frozen_stays}
use Rattle.flow_folder_disk.proofs.disk.FolderDisk.length_of.Goals as goal

pub invariant_of-self : goal.invariant_of-self
invariant_of-self g c =
    record {
      unchanged = λ n is. ap (λ (m : BTreeMap ℕ Pending). is_some (get nat_cmp m n)) c.length.ensures.pending
          ∙ c.args.self.now.unchanged n is;
      settled = λ h.
          let k : IsTrue (g.S.Directory.honest c.args.self.now.folder.system) = sym c.length.ensures.honest ∙ h in
          settled_stays (marks_in c.args.self.now.table) (g.S.Directory.files c.args.self.now.folder.system)
          (g.S.Directory.files c.length.new.self.system) (c.args.self.now.settled k)
          (λ n. seen_same (g.S.Directory.files c.args.self.now.folder.system n) (g.S.Directory.files
          c.length.new.self.system n) (c.length.ensures.files k n));
      frozen = λ h.
          let k : IsTrue (g.S.Directory.honest c.args.self.now.folder.system) = sym c.length.ensures.honest ∙ h in
          frozen_stays (marks_in c.args.self.now.table) (g.S.Directory.files c.args.self.now.folder.system)
          (g.S.Directory.files c.length.new.self.system) (c.args.self.now.frozen k)
          (λ n. seen_same (g.S.Directory.files c.args.self.now.folder.system n) (g.S.Directory.files
          c.length.new.self.system n) (c.length.ensures.files k n));
    }
