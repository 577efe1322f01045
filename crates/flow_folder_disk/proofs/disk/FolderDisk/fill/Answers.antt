use Rattle.std.proofs.Common.{◌≡◌, ℕ, IsTrue, sym, ◌∙◌, ap}
use Rattle.std.specs.Ordering.{nat_cmp}
use Rattle.std.specs.BTreeMap.{get}
use Rattle.flow_folder_disk.specs.Table.{marks_in}
use Rattle.std.specs.Prelude.{is_some}
use Rattle.std.specs.BTreeMap.{BTreeMap}
use Rattle.flow_pending.specs.declared.pending.Pending.{Pending}
use Rattle.flow_folder_disk.proofs.Kept.{settled_stays, frozen_stays, seen_all}
use Rattle.flow_folder_disk.proofs.disk.FolderDisk.fill.Goals as goal

pub invariant_of-self : goal.invariant_of-self
invariant_of-self g c =
    record {
      unchanged = λ n is. ap (λ (m : BTreeMap ℕ Pending). is_some (get nat_cmp m n)) c.read.ensures.pending
          ∙ c.args.self.now.unchanged n is;
      settled = λ h.
          let k : IsTrue (g.S.Directory.honest c.args.self.now.folder.system) = sym c.read.ensures.honest ∙ h in
          settled_stays (marks_in c.args.self.now.table) (g.S.Directory.files c.args.self.now.folder.system)
          (g.S.Directory.files c.read.new.self.system) (c.args.self.now.settled k)
          (seen_all (g.S.Directory.files c.args.self.now.folder.system) (g.S.Directory.files c.read.new.self.system)
          c.args.file (c.read.ensures.seen k) (c.read.ensures.leaves k).others);
      frozen = λ h.
          let k : IsTrue (g.S.Directory.honest c.args.self.now.folder.system) = sym c.read.ensures.honest ∙ h in
          frozen_stays (marks_in c.args.self.now.table) (g.S.Directory.files c.args.self.now.folder.system)
          (g.S.Directory.files c.read.new.self.system) (c.args.self.now.frozen k)
          (seen_all (g.S.Directory.files c.args.self.now.folder.system) (g.S.Directory.files c.read.new.self.system)
          c.args.file (c.read.ensures.seen k) (c.read.ensures.leaves k).others);
    }

pub returns-in-Ok-clause-seen : goal.returns-in-Ok-clause-seen
returns-in-Ok-clause-seen g c h =
    seen_all (g.S.Directory.files c.args.self.now.folder.system) (g.S.Directory.files c.read.new.self.system)
    c.args.file (c.read.ensures.seen h) (c.read.ensures.leaves h).others

pub returns-in-Err-clause-seen : goal.returns-in-Err-clause-seen
returns-in-Err-clause-seen g c h =
    seen_all (g.S.Directory.files c.args.self.now.folder.system) (g.S.Directory.files c.read.new.self.system)
    c.args.file (c.read.ensures.seen h) (c.read.ensures.leaves h).others

pub returns-in-Err-2-clause-seen : goal.returns-in-Err-2-clause-seen
returns-in-Err-2-clause-seen g c h =
    let same : c.fault_of.new.self.folder.system ≡ c.read.new.self.system = c.fault_of.ensures.system in
    rw same (seen_all (g.S.Directory.files c.args.self.now.folder.system) (g.S.Directory.files c.read.new.self.system)
    c.args.file (c.read.ensures.seen h) (c.read.ensures.leaves h).others)
