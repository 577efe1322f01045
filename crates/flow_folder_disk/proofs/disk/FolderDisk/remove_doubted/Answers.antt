use Rattle.std.proofs.Common.{◌≡◌, IsTrue, sym, ◌∙◌}
use Rattle.std.specs.Ordering.{nat_cmp}
use Rattle.std.specs.BTreeMap.{get}
use Rattle.flow_folder_disk.specs.Table.{marks_in}
use Rattle.flow_folder_disk.proofs.Kept.{unchanged_kept, settled_kept, frozen_kept}
use Rattle.flow_folder_disk.proofs.Removing.{settled_by}
use Rattle.flow_folder_disk.proofs.Reports.{removes_done, removes_failed}
use Rattle.flow_folder_disk.proofs.disk.FolderDisk.remove_doubted.Goals as goal

pub invariant_of-self : goal.invariant_of-self
invariant_of-self g c =
    record {
      unchanged = unchanged_kept (marks_in c.args.self.now.table) (λ n. get nat_cmp c.args.self.now.folder.pending n)
          (λ n. get nat_cmp c.remove.new.self.pending n) c.args.file c.args.self.now.unchanged c.requires.doubted
          c.remove.ensures.pending;
      settled = λ h.
          let k : IsTrue (g.S.Directory.honest c.args.self.now.folder.system) = sym c.remove.ensures.honest ∙ h in
          settled_kept (marks_in c.args.self.now.table) (g.S.Directory.files c.args.self.now.folder.system)
          (g.S.Directory.files c.remove.new.self.system) c.args.file (c.args.self.now.settled k) c.requires.doubted
          (c.remove.ensures.leaves k).others;
      frozen = λ h.
          let k : IsTrue (g.S.Directory.honest c.args.self.now.folder.system) = sym c.remove.ensures.honest ∙ h in
          frozen_kept (marks_in c.args.self.now.table) (g.S.Directory.files c.args.self.now.folder.system)
          (g.S.Directory.files c.remove.new.self.system) c.args.file (c.args.self.now.frozen k)
          ((c.remove.ensures.removed k).lent)
          (c.remove.ensures.leaves k).others;
    }

pub returns-in-Ok-clause-held : goal.returns-in-Ok-clause-held
returns-in-Ok-clause-held g c h =
    removes_done (g.S.Directory.files c.args.self.now.folder.system) (g.S.Directory.files c.remove.new.self.system)
    c.args.file tt (c.in-Ok.ensures.removed h)
    (c.in-Ok.ensures.leaves h).others

pub returns-in-Ok-clause-settled : goal.returns-in-Ok-clause-settled
returns-in-Ok-clause-settled g c h =
    settled_by (g.S.Directory.files c.remove.new.self.system c.args.file) _ (c.in-Ok.ensures.removed h).done
    (c.in-Ok.ensures.removed h).sure

pub returns-in-Err-clause-held : goal.returns-in-Err-clause-held
returns-in-Err-clause-held g c h =
    let same : c.fault_of.new.self.folder.system ≡ c.remove.new.self.system = c.fault_of.ensures.system in
    rw same (removes_failed (g.S.Directory.files c.args.self.now.folder.system) (g.S.Directory.files
    c.remove.new.self.system) c.args.file c.fault_of.result
    (c.in-Err.ensures.leaves h).others)
