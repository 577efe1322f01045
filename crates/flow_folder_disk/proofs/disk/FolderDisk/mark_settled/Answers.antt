use Rattle.std.proofs.Common.{◌≡◌, ℕ, IsTrue, sym, ◌∙◌, ap, is_some}
use Rattle.std.specs.Ordering.{nat_cmp}
use Rattle.std.specs.BTreeMap.{BTreeMap, get}
use Rattle.flow_pending.specs.declared.pending.Pending.{Pending}
use Rattle.flow_folder_disk.specs.Table.{marks_in}
use Rattle.flow_folder_disk.proofs.Ended.{keeps_one, marked_still}
use Rattle.flow_folder_disk.proofs.Kept.{settled_with, frozen_with}
use Rattle.flow_folder_disk.proofs.Removing.{sure_clean}
use Rattle.flow_folder_disk.proofs.Synced.{settled_reached}
use Rattle.flow_folder_disk.proofs.disk.FolderDisk.mark_settled.Goals as goal

pub mark-requires-clause-absent : goal.mark-requires-clause-absent
mark-requires-clause-absent g c = c.args.self.now.unchanged c.args.file c.requires

pub mark-requires-clause-clean : goal.mark-requires-clause-clean
mark-requires-clause-clean g c h = sure_clean (g.S.Directory.files c.args.self.now.folder.system c.args.file)
    (c.args.self.now.settled h c.args.file c.requires).sure

pub invariant_of-self : goal.invariant_of-self
invariant_of-self g c =
    let was = g.S.Directory.files c.args.self.now.folder.system in
    let now = g.S.Directory.files c.mark.new.self.system in
    record {
      unchanged = λ n is. ap (λ (m : BTreeMap ℕ Pending). is_some (get nat_cmp m n)) c.mark.ensures.pending
          ∙ c.args.self.now.unchanged n is;
      settled = λ h.
          let k : IsTrue (g.S.Directory.honest c.args.self.now.folder.system) = sym c.mark.ensures.honest ∙ h in
          settled_with (marks_in c.args.self.now.table) was now c.args.file (c.args.self.now.settled k)
          (λ is. settled_reached (was c.args.file) (now c.args.file) is (c.mark.ensures.reached k))
          (c.mark.ensures.leaves k).others;
      frozen = λ h.
          let k : IsTrue (g.S.Directory.honest c.args.self.now.folder.system) = sym c.mark.ensures.honest ∙ h in
          frozen_with (marks_in c.args.self.now.table) was now c.args.file (c.args.self.now.frozen k)
          (c.mark.ensures.reached k).lent (c.mark.ensures.leaves k).others;
    }

pub returns-in-Ok-clause-all : goal.returns-in-Ok-clause-all
returns-in-Ok-clause-all g c h = keeps_one g.S.Directory.files g.S.Directory.moment g.S.Directory.left_since
    c.args.self.now.folder.system c.mark.new.self.system c.args.file (c.mark.ensures.reached h)
    (c.mark.ensures.leaves h)

pub returns-in-Ok-clause-still : goal.returns-in-Ok-clause-still
returns-in-Ok-clause-still g c h = marked_still (g.S.Directory.files c.args.self.now.folder.system)
    (g.S.Directory.files c.mark.new.self.system) c.args.file (c.mark.ensures.still h) (c.mark.ensures.leaves h).others

pub returns-in-Err-clause-all : goal.returns-in-Err-clause-all
returns-in-Err-clause-all g c h =
    let same : c.fault.new.self.folder.system ≡ c.mark.new.self.system = c.fault.ensures.system in
    rw same (keeps_one g.S.Directory.files g.S.Directory.moment g.S.Directory.left_since
    c.args.self.now.folder.system c.mark.new.self.system c.args.file (c.mark.ensures.reached h)
    (c.mark.ensures.leaves h))

pub returns-in-Err-clause-still : goal.returns-in-Err-clause-still
returns-in-Err-clause-still g c h =
    let same : c.fault.new.self.folder.system ≡ c.mark.new.self.system = c.fault.ensures.system in
    rw same (marked_still (g.S.Directory.files c.args.self.now.folder.system)
    (g.S.Directory.files c.mark.new.self.system) c.args.file (c.mark.ensures.still h) (c.mark.ensures.leaves h).others)
