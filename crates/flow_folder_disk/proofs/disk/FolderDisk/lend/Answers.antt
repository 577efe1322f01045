use Rattle.std.proofs.Common.{◌≡◌, ℕ, IsTrue, sym, ◌∙◌, refl, ap, subst}
use Rattle.std.specs.Ordering.{nat_cmp}
use Rattle.std.specs.BTreeMap.{get}
use Rattle.flow_folder_disk.specs.Table.{marks_in}
use Rattle.std.specs.Prelude.{is_some}
use Rattle.std.specs.BTreeMap.{BTreeMap}
use Rattle.flow_pending.specs.declared.pending.Pending.{Pending}
use Rattle.flow_disk.specs.Disk.{Marks}
use Rattle.std.proofs.Common.{Bool, true, false, List, length}
use Rattle.flow_folder_disk.specs.declared.reported.Table.{Table}
use Rattle.flow_folder_disk.proofs.Leaving.{honest_then, seen_then}
use Rattle.flow_folder_disk.proofs.Reports.{passes_then}
use Rattle.flow_folder_disk.proofs.Kept.{settled_with, frozen_with, frozen_kept, unchanged_reported, settled_reported}
use Rattle.flow_folder_disk.proofs.Kept.{frozen_reported, held_all, linked_all, unchanged_table, settled_table}
use Rattle.flow_folder_disk.proofs.Kept.{frozen_table}
use Rattle.flow_folder_disk.proofs.disk.FolderDisk.lend.Goals as goal

pub seal-requires-clause-absent : goal.seal-requires-clause-absent
seal-requires-clause-absent g c =
    c.args.self.now.unchanged c.args.file c.requires.settled

pub seal-requires-clause-settled : goal.seal-requires-clause-settled
seal-requires-clause-settled g c h =
    c.args.self.now.settled h c.args.file c.requires.settled

pub invariant_of-self : goal.invariant_of-self
invariant_of-self g c =
    record {
      unchanged = λ n is. ap (λ (m : BTreeMap ℕ Pending). is_some (get nat_cmp m n)) c.seal.ensures.pending
          ∙ c.args.self.now.unchanged n is;
      settled = λ h.
          let k : IsTrue (g.S.Directory.honest c.args.self.now.folder.system) = sym c.seal.ensures.honest ∙ h in
          settled_with (marks_in c.args.self.now.table) (g.S.Directory.files c.args.self.now.folder.system)
          (g.S.Directory.files c.seal.new.self.system) c.args.file (c.args.self.now.settled k) (λ is.
          c.seal.ensures.settled k) (c.seal.ensures.leaves k).others;
      frozen = λ h.
          let k : IsTrue (g.S.Directory.honest c.args.self.now.folder.system) = sym c.seal.ensures.honest ∙ h in
          frozen_with (marks_in c.args.self.now.table) (g.S.Directory.files c.args.self.now.folder.system)
          (g.S.Directory.files c.seal.new.self.system) c.args.file (c.args.self.now.frozen k) (c.in-Err.ensures.lent k)
          (c.seal.ensures.leaves k).others;
    }

pub returns-in-Err-clause-held : goal.returns-in-Err-clause-held
returns-in-Err-clause-held g c h =
    let same : c.fault_of.new.self.folder.system ≡ c.seal.new.self.system = c.fault_of.ensures.system in
    rw same (held_all (g.S.Directory.files c.args.self.now.folder.system) (g.S.Directory.files c.seal.new.self.system)
    c.args.file (c.seal.ensures.held h) (c.seal.ensures.leaves h).others)

pub returns-in-Err-clause-linked : goal.returns-in-Err-clause-linked
returns-in-Err-clause-linked g c h =
    let same : c.fault_of.new.self.folder.system ≡ c.seal.new.self.system = c.fault_of.ensures.system in
    rw same (linked_all (g.S.Directory.files c.args.self.now.folder.system) (g.S.Directory.files
    c.seal.new.self.system) c.args.file (c.seal.ensures.linked h) (c.seal.ensures.leaves h).others)

pub returns-in-Err-clause-time : goal.returns-in-Err-clause-time
returns-in-Err-clause-time g c h =
    let same : c.fault_of.new.self.folder.system ≡ c.seal.new.self.system = c.fault_of.ensures.system in
    rw same (c.seal.ensures.leaves h).time

pub invariant_of-self-in-Ok-report : goal.invariant_of-self-in-Ok-report
invariant_of-self-in-Ok-report g c =
    record {
      unchanged = unchanged_reported (marks_in c.args.self.now.table) (marks_in c.report.new.self) c.args.file (record {
        size = c.of-reported.result.size;
        settled = c.of-reported.result.settled;
        frozen = true;
        listed =
            c.of-reported.result.listed;
      })
          c.in-Ok-report.ensures.done (λ n. get nat_cmp c.seal.new.self.pending n)
          (λ n is. ap (λ (m : BTreeMap ℕ Pending). is_some (get nat_cmp m n)) c.seal.ensures.pending ∙
          c.args.self.now.unchanged n is)
          (ap (λ (m : BTreeMap ℕ Pending). is_some (get nat_cmp m c.args.file)) c.seal.ensures.pending
          ∙ c.args.self.now.unchanged c.args.file c.requires.settled);
      settled = λ h.
          let k : IsTrue (g.S.Directory.honest c.args.self.now.folder.system) = sym c.seal.ensures.honest ∙ h in
          settled_reported (marks_in c.args.self.now.table) (marks_in c.report.new.self) c.args.file (record {
            size =
                c.of-reported.result.size;
            settled = c.of-reported.result.settled;
            frozen = true;
            listed =
                c.of-reported.result.listed;
          }) c.in-Ok-report.ensures.done
          (g.S.Directory.files c.args.self.now.folder.system) (g.S.Directory.files c.seal.new.self.system)
          (c.args.self.now.settled k) (c.seal.ensures.settled k) (c.seal.ensures.leaves k).others;
      frozen = λ h.
          let k : IsTrue (g.S.Directory.honest c.args.self.now.folder.system) = sym c.seal.ensures.honest ∙ h in
          frozen_reported (marks_in c.args.self.now.table) (marks_in c.report.new.self) c.args.file (record {
            size =
                c.of-reported.result.size;
            settled = c.of-reported.result.settled;
            frozen = true;
            listed =
                c.of-reported.result.listed;
          }) c.in-Ok-report.ensures.done
          (g.S.Directory.files c.args.self.now.folder.system) (g.S.Directory.files c.seal.new.self.system)
          (c.args.self.now.frozen k) refl (ap (λ (m : Marks). m.settled) c.of-reported.ensures ∙ c.requires.settled)
          (c.seal.ensures.leaves k).others;
    }

pub invariant_of-result : goal.invariant_of-result
invariant_of-result g c =
    record {
      whole = λ h.
          let k : IsTrue (g.S.Directory.honest c.args.self.now.folder.system) = sym c.in-Ok.ensures.reader.1 ∙ h in
          ap (λ (l : List ℕ). length l) (c.in-Ok.ensures.octets k) ∙ sym (c.in-Ok.ensures.size k);
    }

pub invariant_of-self-in-Err-report : goal.invariant_of-self-in-Err-report
invariant_of-self-in-Err-report g c =
    record {
      unchanged = unchanged_table (marks_in c.args.self.now.table) (marks_in c.report.new.self)
          c.in-Err-report.ensures.failed (λ n. get nat_cmp c.take_back.new.self.pending n)
          (λ n is. ap (λ (m : BTreeMap ℕ Pending). is_some (get nat_cmp m n)) c.take_back.ensures.pending ∙ ap (λ (m :
          BTreeMap ℕ Pending). is_some (get nat_cmp m n)) c.seal.ensures.pending ∙ c.args.self.now.unchanged n is);
      settled = λ h.
          let l : IsTrue (g.S.Directory.honest c.seal.new.self.system) = sym c.take_back.ensures.honest ∙ h in
          let k : IsTrue (g.S.Directory.honest c.args.self.now.folder.system) = sym c.seal.ensures.honest ∙ l in
          settled_table (marks_in c.args.self.now.table) (marks_in c.report.new.self) c.in-Err-report.ensures.failed
          (g.S.Directory.files c.take_back.new.self.system)
          (settled_with (marks_in c.args.self.now.table) (g.S.Directory.files c.seal.new.self.system)
          (g.S.Directory.files c.take_back.new.self.system) (g.S.Reader.FileReader.number c.in-Ok.reader) (settled_with
          (marks_in c.args.self.now.table) (g.S.Directory.files c.args.self.now.folder.system) (g.S.Directory.files
          c.seal.new.self.system) c.args.file (c.args.self.now.settled k) (λ is. c.seal.ensures.settled k)
          (c.seal.ensures.leaves k).others)
          (c.take_back.ensures.settled l) (c.take_back.ensures.leaves l).others);
      frozen = λ h.
          let l : IsTrue (g.S.Directory.honest c.seal.new.self.system) = sym c.take_back.ensures.honest ∙ h in
          let k : IsTrue (g.S.Directory.honest c.args.self.now.folder.system) = sym c.seal.ensures.honest ∙ l in
          let num : (g.S.Reader.FileReader.number c.in-Ok.reader) ≡ c.args.file = c.in-Ok.ensures.reader.0 in
          frozen_table (marks_in c.args.self.now.table) (marks_in c.report.new.self) c.in-Err-report.ensures.failed
          (g.S.Directory.files c.take_back.new.self.system)
          (frozen_kept (marks_in c.args.self.now.table) (g.S.Directory.files c.args.self.now.folder.system)
          (g.S.Directory.files c.take_back.new.self.system) c.args.file (c.args.self.now.frozen k)
          (subst (λ (n : ℕ). (g.S.Directory.files c.take_back.new.self.system n).lent ≡ false) num
          (c.take_back.ensures.free l))
          (λ n differs. seen_then (g.S.Directory.files c.args.self.now.folder.system n) (g.S.Directory.files
          c.seal.new.self.system n) (g.S.Directory.files c.take_back.new.self.system n) ((c.seal.ensures.leaves
          k).others n differs)
          ((c.take_back.ensures.leaves l).others n (λ e. differs (e ∙ num)))));
    }

pub returns-in-Ok-report-clause-size : goal.returns-in-Ok-report-clause-size
returns-in-Ok-report-clause-size g c h =
    c.in-Ok.ensures.size h

pub returns-in-Ok-report-clause-reported : goal.returns-in-Ok-report-clause-reported
returns-in-Ok-report-clause-reported g c =
    ap (λ (m : Marks). m.size) c.of-reported.ensures

pub returns-in-Ok-report-clause-reader : goal.returns-in-Ok-report-clause-reader
returns-in-Ok-report-clause-reader g c =
    c.in-Ok.ensures.reader

pub returns-in-Ok-report-clause-octets : goal.returns-in-Ok-report-clause-octets
returns-in-Ok-report-clause-octets g c h =
    c.in-Ok.ensures.octets h

pub returns-in-Ok-report-clause-frozen : goal.returns-in-Ok-report-clause-frozen
returns-in-Ok-report-clause-frozen g c =
    record {
      here = c.in-Ok-report.ensures.done.here
          ∙ ap (λ (m : Marks). record { size = m.size; settled = m.settled; frozen = true; listed = m.listed })
          c.of-reported.ensures
          ∙ ap (λ (b : Bool). record {
            size = (marks_in c.args.self.now.table c.args.file).size;
            settled = b;
            frozen =
                true;
            listed = (marks_in c.args.self.now.table c.args.file).listed;
          }) c.requires.settled;
      others = c.in-Ok-report.ensures.done.others;
    }

pub returns-in-Ok-report-clause-held : goal.returns-in-Ok-report-clause-held
returns-in-Ok-report-clause-held g c h =
    held_all (g.S.Directory.files c.args.self.now.folder.system) (g.S.Directory.files c.seal.new.self.system)
    c.args.file (c.seal.ensures.held h) (c.seal.ensures.leaves h).others

pub returns-in-Ok-report-clause-linked : goal.returns-in-Ok-report-clause-linked
returns-in-Ok-report-clause-linked g c h =
    linked_all (g.S.Directory.files c.args.self.now.folder.system) (g.S.Directory.files c.seal.new.self.system)
    c.args.file (c.seal.ensures.linked h) (c.seal.ensures.leaves h).others

pub returns-in-Ok-report-clause-time : goal.returns-in-Ok-report-clause-time
returns-in-Ok-report-clause-time g c h =
    (c.seal.ensures.leaves h).time

pub returns-in-Err-report-clause-honest : goal.returns-in-Err-report-clause-honest
returns-in-Err-report-clause-honest g c =
    ap (λ (x : g.row.S.Denot). g.S.Directory.honest x) c.fault.ensures.system ∙ c.take_back.ensures.honest ∙
    c.seal.ensures.honest

pub returns-in-Err-report-clause-thawed : goal.returns-in-Err-report-clause-thawed
returns-in-Err-report-clause-thawed g c n =
    ap (λ (t : Table). marks_in t n) c.fault.ensures.table ∙ c.in-Err-report.ensures.failed n

pub returns-in-Err-report-clause-held : goal.returns-in-Err-report-clause-held
returns-in-Err-report-clause-held g c h n =
    let k : IsTrue (g.S.Directory.honest c.seal.new.self.system) = honest_then (g.S.Directory.honest
    c.args.self.now.folder.system) (g.S.Directory.honest c.seal.new.self.system) c.seal.ensures.honest h in
    let same : c.fault.new.self.folder.system ≡ c.take_back.new.self.system = c.fault.ensures.system in
    rw same ((held_all (g.S.Directory.files c.seal.new.self.system) (g.S.Directory.files c.take_back.new.self.system)
    (g.S.Reader.FileReader.number c.in-Ok.reader) (c.take_back.ensures.held k) (c.take_back.ensures.leaves k).others) n
    ∙ (held_all (g.S.Directory.files c.args.self.now.folder.system) (g.S.Directory.files c.seal.new.self.system)
    c.args.file (c.seal.ensures.held h) (c.seal.ensures.leaves h).others) n)

pub returns-in-Err-report-clause-linked : goal.returns-in-Err-report-clause-linked
returns-in-Err-report-clause-linked g c h n =
    let k : IsTrue (g.S.Directory.honest c.seal.new.self.system) = honest_then (g.S.Directory.honest
    c.args.self.now.folder.system) (g.S.Directory.honest c.seal.new.self.system) c.seal.ensures.honest h in
    let same : c.fault.new.self.folder.system ≡ c.take_back.new.self.system = c.fault.ensures.system in
    rw same ((linked_all (g.S.Directory.files c.seal.new.self.system) (g.S.Directory.files c.take_back.new.self.system)
    (g.S.Reader.FileReader.number c.in-Ok.reader) (c.take_back.ensures.linked k) (c.take_back.ensures.leaves k).others)
    n ∙ (linked_all (g.S.Directory.files c.args.self.now.folder.system) (g.S.Directory.files c.seal.new.self.system)
    c.args.file (c.seal.ensures.linked h) (c.seal.ensures.leaves h).others) n)

pub returns-in-Err-report-clause-time : goal.returns-in-Err-report-clause-time
returns-in-Err-report-clause-time g c h =
    let k : IsTrue (g.S.Directory.honest c.seal.new.self.system) = honest_then (g.S.Directory.honest
    c.args.self.now.folder.system) (g.S.Directory.honest c.seal.new.self.system) c.seal.ensures.honest h in
    let same : c.fault.new.self.folder.system ≡ c.take_back.new.self.system = c.fault.ensures.system in
    rw same (passes_then g.S.Directory.files g.S.Directory.moment g.S.Directory.left_since
    c.args.self.now.folder.system c.seal.new.self.system c.take_back.new.self.system (c.seal.ensures.leaves h).time
    (held_all (g.S.Directory.files c.args.self.now.folder.system) (g.S.Directory.files c.seal.new.self.system)
    c.args.file (c.seal.ensures.held h) (c.seal.ensures.leaves h).others) (c.take_back.ensures.leaves k).time)
