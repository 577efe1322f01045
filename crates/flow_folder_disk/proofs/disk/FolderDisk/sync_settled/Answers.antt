use Rattle.std.proofs.Common.{◌≡◌, ℕ, IsTrue, sym, ◌∙◌, ap}
use Rattle.std.specs.Ordering.{nat_cmp}
use Rattle.std.specs.BTreeMap.{get}
use Rattle.flow_folder_disk.specs.Table.{marks_in}
use Rattle.std.specs.Prelude.{is_some}
use Rattle.std.specs.BTreeMap.{BTreeMap}
use Rattle.flow_pending.specs.declared.pending.Pending.{Pending}
use Rattle.flow_folder_disk.proofs.Kept.{settled_with, frozen_with}
use Rattle.flow_folder_disk.proofs.Reports.{syncs_done, syncs_failed}
use Rattle.flow_folder_disk.proofs.disk.FolderDisk.sync_settled.Goals as goal

pub sync_frozen-requires-clause-absent : goal.sync_frozen-requires-clause-absent
sync_frozen-requires-clause-absent g c =
    c.args.self.now.unchanged c.args.file c.requires

pub sync_frozen-requires-clause-settled : goal.sync_frozen-requires-clause-settled
sync_frozen-requires-clause-settled g c h =
    c.args.self.now.settled h c.args.file c.requires

pub invariant_of-self : goal.invariant_of-self
invariant_of-self g c =
    record {
      unchanged = λ n is. ap (λ (m : BTreeMap ℕ Pending). is_some (get nat_cmp m n)) c.sync_frozen.ensures.pending
          ∙ c.args.self.now.unchanged n is;
      settled = λ h.
          let k : IsTrue (g.S.Directory.honest c.args.self.now.folder.system) = sym c.sync_frozen.ensures.honest ∙ h in
          settled_with (marks_in c.args.self.now.table) (g.S.Directory.files c.args.self.now.folder.system)
          (g.S.Directory.files c.sync_frozen.new.self.system) c.args.file (c.args.self.now.settled k) (λ is.
          c.sync_frozen.ensures.settled k) (c.sync_frozen.ensures.leaves k).others;
      frozen = λ h.
          let k : IsTrue (g.S.Directory.honest c.args.self.now.folder.system) = sym c.sync_frozen.ensures.honest ∙ h in
          frozen_with (marks_in c.args.self.now.table) (g.S.Directory.files c.args.self.now.folder.system)
          (g.S.Directory.files c.sync_frozen.new.self.system) c.args.file (c.args.self.now.frozen k)
          (c.sync_frozen.ensures.lent k) (c.sync_frozen.ensures.leaves k).others;
    }

pub returns-in-Ok-clause-held : goal.returns-in-Ok-clause-held
returns-in-Ok-clause-held g c h =
    syncs_done (g.S.Directory.files c.args.self.now.folder.system) (g.S.Directory.files c.sync_frozen.new.self.system)
    c.args.file tt (c.in-Ok.ensures.synced h)
    (c.in-Ok.ensures.leaves h).others

pub returns-in-Err-clause-held : goal.returns-in-Err-clause-held
returns-in-Err-clause-held g c h =
    let same : c.fault_of.new.self.folder.system ≡ c.sync_frozen.new.self.system = c.fault_of.ensures.system in
    rw same (syncs_failed (g.S.Directory.files c.args.self.now.folder.system) (g.S.Directory.files
    c.sync_frozen.new.self.system) c.args.file c.fault_of.result (c.in-Err.ensures.synced h)
    (c.in-Err.ensures.leaves h).others)
